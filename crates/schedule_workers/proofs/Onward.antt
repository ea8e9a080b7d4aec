-- A plain step of the frame in a slot.
use Rattle.std.proofs.Common.{Vec, Global, ◌≡◌, ◌≢◌, ℕ, ◌+◌, ◌≤◌, length, Option, Some, None, true, refl, sym, ap, ◌∙◌, subst, arith, ℤ}
use Rattle.std.proofs.Props.{props}
use Rattle.semantics.specs.Paths.{Path}
use Rattle.semantics.specs.Cells.{Memory}
use Rattle.semantics.specs.Frames as frames
use Rattle.semantics.specs.State.{State, may_go, wait_after}
use Rattle.semantics.specs.Events.{Machine, Step, event}
use Rattle.program.specs.declared.function.Program.{Program}
use Rattle.frame.specs.declared.frame.Wait.{Wait}
use Rattle.frame.specs.declared.frame.Wait.TheVariants as wait
use Rattle.frame.specs.Reading.{wait_of}
use Rattle.cactus.specs.declared.node.Node.{Node}
use Rattle.cactus.specs.Frames.{Frames, node_at, frame_at, Lives}
use Rattle.cactus.proofs.FramesLemmas.{lives-from_frame}
use Rattle.frame_engine.specs.declared.activation.Frame.{Frame}
use Rattle.frame_engine.specs.declared.activation.Places.{Places}
use Rattle.frame_engine.specs.declared.flat.Flat.{Flat}
use Rattle.frame_engine.specs.Activation.{FrameFits, LedFrame, SafeStanding, ShowsFrame}
use Rattle.frame_engine.specs.Flat.{cell_in, is_cell}
use Rattle.frame_engine.specs.Shows.{Layout, ShowsCells, StaysSafe}
use Rattle.frame_engine.proofs.Runs.{zero_steps}
use Rattle.schedule_workers.specs.declared.activation.Activation.{Activation}
use Rattle.schedule_workers.specs.declared.run.Run.{Run}
use Rattle.schedule_workers.specs.Scheduling.{hand_of}
use Rattle.schedule_workers.specs.Layouts.{layout_of, object_at}
use Rattle.schedule_workers.specs.RunShown.{CalleeStands, HasTaker, IsShown, ShowsAt, ShowsNode, place_of, hands_of}
use Rattle.schedule_workers.specs.Going.{RunsSafely}
use Rattle.schedule_workers.proofs.Views.{hand_seen, named_at_place, node_tells}
use Rattle.schedule_workers.proofs.Standing.{IsStanding, can_step, may_go_on, one_step, stays_safe, step_on}
use Rattle.schedule_workers.proofs.Written.{HandsAgree, gone_on, goes_on_shown}

-- ---- what stands in a slot

pub not_there : (frames : Frames Activation) (slot : ℕ) → Lives frames slot → frame_at frames slot ≡ None → ⊥
not_there frames slot lives none = let (node, stands) = node_tells frames slot lives in let e : Some node.frame ≡ None = rw stands at none in cc

-- a node with this frame
pub node_of : (frames : Frames Activation) (slot : ℕ) (a : Activation) → frame_at frames slot ≡ Some a → (n : Node Activation) × (node_at frames slot ≡ Some (record n { frame = a }))
node_of frames slot a is =
    let (n, stands) = node_tells frames slot (lives-from_frame frames slot a is) in
    let e : Some n.frame ≡ Some a = rw stands at is in
    let same : n.frame ≡ a = cc in
    (n, stands ∙ ap (λ (x : Activation). Some (record n { frame = x })) same)

pub fits_prop : (prog : Program) (f : Frame) → IsProp (FrameFits prog f)
fits_prop prog f = hlevel props

-- a frame that may go on waits for no call
pub free_callee : (s : State) (p : Path) (made : ℕ) (frames : Frames Activation) (node : Node Activation) (w : Wait) → may_go s p made (wait_of w) ≡ true → CalleeStands frames node w node.frame.callee → node.frame.callee ≡ None
free_callee s p made frames node wait.Nothing go c = c
free_callee s p made frames node (wait.Region region) go c = c
free_callee s p made frames node (wait.Call child register) go c = absurd cc

module _ (prog : Program) (places : Places) (k : Run) (slot : ℕ) (n : Node Activation) (a : Activation) (stands : node_at k.cactus slot ≡ Some (record n { frame = a })) (m : Machine) (shown : IsShown prog places m k) where
  abbrev node : Node Activation
  node = record n { frame = a }

  abbrev l : Layout
  l = layout_of prog places k.cactus m.core

  -- hands that stay agree
  pub hands_agree : (next : Machine) (b : Activation) → ((v : ℕ) → next.hands v ≡ hands_of k.cactus k.hands.items v) → b.runner ≡ a.runner → {g : frames.Frame} → HandsAgree prog places m next k slot node g b k.hands
  hands_agree next b same runner = record {
    seen = same;
    held = shown.agrees.held;
    own = λ v. ((λ e. (shown.agrees.runners slot v node stands).0 (sym runner ∙ e)), λ e. runner ∙ (shown.agrees.runners slot v node stands).1 e);
    others = λ v s away. ((λ e. e), λ e. e);
  }

  -- the frame of the definitions at the node's path
  pub record Seen : Type 0 where
    pub frame : frames.Frame
    pub is : m.core.frames (place_of node) ≡ Some frame
    pub shows : ShowsNode l places (place_of node) frame a.frame

  pub seen : Seen
  seen = from (m.core.frames (place_of node)) refl (subst (λ (o : Option (Node Activation)). ShowsAt l places (place_of node) (m.core.frames (place_of node)) o) (named_at_place k.cactus shown.agrees.tree slot node stands) (shown.shows.frames (place_of node)))
    where
      from : (o : Option frames.Frame) → m.core.frames (place_of node) ≡ o → ShowsAt l places (place_of node) o (Some node) → Seen
      from None e h = absurd h
      from (Some g) e h = record { frame = g; is = e; shows = h }

  module _ (w : ℕ) (hand : hand_of k.hands.items w ≡ Some slot) (safe : RunsSafely prog (length k.hands.items) m) where
    pub standing : IsStanding prog (length k.hands.items) w (place_of node) m seen.frame m.core.memory
    standing = record {
      safe = safe;
      sound = shown.shows.trapped;
      hand = shown.shows.hands w ∙ hand_seen k.cactus k.hands.items w slot node hand stands;
      frame = seen.is;
      memory = refl;
    }

    pub stays : StaysSafe prog l (place_of node) seen.frame m.core.memory
    stays = stays_safe prog (length k.hands.items) w (place_of node) (object_at places k.cactus) m seen.frame m.core.memory standing

    pub safe_standing : SafeStanding prog places a.frame (is_cell k.cells.cells.items) (λ x z. cell_in k.cells.cells.items x ≡ Some z)
    safe_standing = record {
      layout = l;
      path = place_of node;
      frame = seen.frame;
      memory = m.core.memory;
      shown = seen.shows.shown;
      cells = shown.shows.cells;
      stays = stays;
    }

    callee_none : a.callee ≡ None
    callee_none =
        let go = may_go_on prog (length k.hands.items) w (place_of node) m seen.frame seen.is (can_step prog (length k.hands.items) w (place_of node) m seen.frame m.core.memory standing).goes in
        free_callee m.core (place_of node) seen.frame.made k.cactus node a.frame.waits (ap (may_go m.core (place_of node) seen.frame.made) (sym seen.shows.waits) ∙ go) (shown.agrees.nodes slot node stands).callee

    -- ---- what became of the frame

    module _ (f : Frame) (only : f ≡ record a.frame { place = f.place; registers = f.registers }) (fits : FrameFits prog f) (cells : Flat) (done : ℕ) (moves : Vec ℤ Global)
        (led : LedFrame prog l places (place_of node) seen.frame m.core.memory k.instructions done (is_cell cells.cells.items) (λ x z. cell_in cells.cells.items x ≡ Some z) f) where
      abbrev with_this : Frame → Activation
      with_this x = record a { frame = x }

      same_waits : f.waits ≡ a.frame.waits
      same_waits = ap (λ (x : Frame). x.waits) only

      -- nothing was done
      pub left_shown : done ≡ k.instructions → IsShown prog places m (gone_on prog places m m k slot node seen.frame (with_this f) cells done moves k.hands)
      left_shown same =
          let counted = led.counted in
          let none : led.count ≡ 0 = omega (arith, counted, same) in
          let z = zero_steps prog (place_of node) seen.frame m.core.memory led.count led.frame led.memory led.steps none in
          goes_on_shown prog places m m k slot node seen.frame (with_this f) shown stands
          (record {
            only = only ∙ ap (λ (y : Wait). record a.frame { place = f.place; registers = f.registers; waits = y }) (sym same_waits);
            fits = fits;
            waits = seen.shows.waits ∙ sym (ap wait_of same_waits);
            callee = subst (λ (x : Wait). CalleeStands k.cactus node x a.callee) (sym same_waits) (shown.agrees.nodes slot node stands).callee;
            taker = λ x is. subst (λ (y : Wait). HasTaker (length x.registers) y) (sym same_waits) ((shown.agrees.nodes slot node stands).taker x is);
            counts = refl;
          })
          (record {
            here = seen.is;
            elsewhere = λ q away. refl;
            peak = refl;
            result = refl;
            sound = shown.shows.trapped;
            living = λ o. refl;
            counts = λ q r. refl;
          })
          cells done moves k.hands (hands_agree m (with_this f) shown.shows.hands refl) (shown.shows.done ∙ sym same) (omega (arith, same))
          (subst (λ (g : frames.Frame). ShowsFrame l places (place_of node) g f) (sym z.0) led.shown)
          (subst (λ (x : Memory). ShowsCells l (is_cell cells.cells.items) (λ y v. cell_in cells.cells.items y ≡ Some v) x) (sym z.1) led.cells)

      abbrev freed : Frame
      freed = record f { waits = wait.Nothing }

      -- one instruction was done
      pub step_shown : done ≢ k.instructions → done ≤ k.instructions + 1 →
          (next : Machine) × (event prog (length k.hands.items) (Step w) m ≡ Some next) × IsShown prog places next (gone_on prog places m m k slot node seen.frame (with_this freed) cells done moves k.hands)
      step_shown more room =
          let counted = led.counted in
          let one : led.count ≡ 1 = omega (arith, counted, more, room) in
          let d = one_step prog (length k.hands.items) w (place_of node) seen.frame m.core.memory led.count led.frame led.memory led.steps one in
          let t = step_on prog (length k.hands.items) w (place_of node) m seen.frame m.core.memory d.effect standing d.act d.fine in
          let was = shown.shows.done in
          let now = t.done in (
            t.next,
            t.event,
            goes_on_shown prog places m t.next k slot node led.frame (with_this freed) shown stands
                (record {
                  only = ap (λ (x : Frame). record x { waits = wait.Nothing }) only;
                  fits = record { there = fits.there; registers = fits.registers; place = fits.place };
                  waits = ap (λ (x : frames.Frame). x.waits) d.frame ∙ ap wait_after d.fine;
                  callee = callee_none;
                  taker = λ x is. tt;
                  counts = refl;
                })
                (record {
                  here = t.standing.frame ∙ ap Some (sym d.frame);
                  elsewhere = t.elsewhere;
                  peak = t.peak;
                  result = t.result;
                  sound = t.standing.sound;
                  living = t.living;
                  counts = t.counts;
                })
                cells done moves k.hands (hands_agree t.next (with_this freed) (λ v. t.hands v ∙ shown.shows.hands v) refl) (omega (arith, was, now, counted, one)) (omega (arith, counted))
                (let s = led.shown in record { function = s.function; block = s.block; index = s.index; made = s.made; role = s.role; depth = s.depth; bases = s.bases; registers = s.registers })
                (subst (λ (x : Memory). ShowsCells l (is_cell cells.cells.items) (λ y v. cell_in cells.cells.items y ≡ Some v) x) (d.memory ∙ sym t.standing.memory) led.cells),
          )
