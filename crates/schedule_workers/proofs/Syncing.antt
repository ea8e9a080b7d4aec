-- A sync of the frame in a slot: it passes, or stalls.
use Rattle.std.proofs.Common.{[], Vec, Global, ◌≡◌, ◌≢◌, ◌⊎◌, ℕ, ◌+◌, ◌<◌, length, max, Option, Some, None, Bool, true, false, cond, inl, inr, refl, sym, ap, ◌∙◌, subst, arith, ℤ}
use Rattle.std.specs.Prelude.{option_and_then}
use Rattle.std.specs.Option.{option_map}
use Rattle.std.specs.Vec.{with_item}
use Rattle.std.proofs.lemmas.Bool.Decides.{eqb_tells}
use Rattle.std.proofs.lemmas.List.{get_or-set_same, get_or-set_other}
use Rattle.linear.specs.declared.form.RegisterId.{RegisterId}
use Rattle.semantics.specs.Arithmetic.{Trap, Unmatched}
use Rattle.semantics.specs.Cells.{Object, Shared, Local, Memory}
use Rattle.semantics.specs.Paths.{Path, same_path}
use Rattle.semantics.specs.Frames.{Frame as Shown, Registers, Ends, item_at, region_of}
use Rattle.semantics.specs.Effect.{Action, Sync, action_of, if_own, item_action, registers_along, syncs, traps}
use Rattle.semantics.specs.State.{Change, only, override, synced, sync_change, none_within, may_go, apply}
use Rattle.semantics.specs.CoreSteps.{children_within}
use Rattle.semantics.specs.Events as running
use Rattle.semantics.specs.Events.{Machine, Step, event}
use Rattle.semantics.proofs.Steps.{change_is, sync}
use Rattle.semantics.proofs.Places.{same_path_tells, only_here, only_off}
use Rattle.semantics.proofs.ChildCounts.{count_at, counted_none, moved_alone, none_counted}
use Rattle.program.specs.declared.identifier.BlockId.{BlockId}
use Rattle.program.specs.declared.function.Program.{Program}
use Rattle.program.specs.declared.instruction.Terminator.TheVariants as terminator
use Rattle.frame.specs.declared.frame.Wait.TheVariants as wait
use Rattle.frame.specs.Reading.{wait_of}
use Rattle.cactus.specs.declared.node.Node.{Node}
use Rattle.cactus.specs.Frames.{node_at}
use Rattle.frame_engine.specs.declared.activation.Frame.{Frame}
use Rattle.frame_engine.specs.declared.activation.Places.{Places}
use Rattle.frame_engine.specs.Activation.{FrameFits, ShowsFrame}
use Rattle.frame_engine.specs.Shows.{Layout, TrapFree}
use Rattle.frame_engine.proofs.Texts.{Located, ends_fit, frame_stands, located, starts_block}
use Rattle.schedule_workers.specs.declared.activation.Activation.{Activation}
use Rattle.schedule_workers.specs.declared.run.Run.{Run}
use Rattle.schedule_workers.specs.Scheduling.{hand_of, counted_in}
use Rattle.schedule_workers.specs.Layouts.{alloca_cells, layout_of, living, object_at}
use Rattle.schedule_workers.specs.RunShown.{CalleeStands, HasTaker, IsShown, item_here, place_of, hands_of}
use Rattle.schedule_workers.specs.Going.{RunsSafely, TextFits}
use Rattle.schedule_workers.proofs.Onward.{free_callee, hands_agree, seen, standing}
use Rattle.schedule_workers.proofs.Standing.{can_step, hand_again, may_go_on}
use Rattle.schedule_workers.proofs.Written.{HandsAgree, gone_on, goes_on_shown}

-- ---- what does not trap

pub chosen : (t : Bool) (a : Action) (f : Shown) (x : Trap) → TrapFree (cond t a (traps x f)) → cond t a (traps x f) ≡ a
chosen true a f x free = refl
chosen false a f x free = absurd cc

pub own : (p : Path) (f : Shown) (a : Action) (o : Option Path) → TrapFree (if_own p f a o) → if_own p f a o ≡ a
own p f a None free = absurd cc
own p f a (Some owner) free = chosen (same_path owner p) a f Unmatched free

along : (f : Shown) (r b : ℕ) (o : Option Registers) → TrapFree (syncs f r b o) → (rs : Registers) × (o ≡ Some rs)
along f r b None free = absurd cc
along f r b (Some rs) free = (rs, refl)

module _ (prog : Program) (p : Path) (g : Shown) (m : Memory) (r : RegisterId) (b : BlockId) (item : item_at prog g.function g.block g.index ≡ Some (Ends (terminator.Sync r b))) (free : TrapFree (action_of prog p g m)) where
  pub sync_act : (rs : Registers) × (registers_along prog g b.0 ≡ Some rs) × (action_of prog p g m ≡ Sync r.0 b.0 rs)
  sync_act =
      let here : action_of prog p g m ≡ if_own p g (syncs g r.0 b.0 (registers_along prog g b.0)) (region_of (g.registers r.0)) = ap (item_action prog p g m) item in
      let mine = own p g (syncs g r.0 b.0 (registers_along prog g b.0)) (region_of (g.registers r.0)) (subst TrapFree here free) in
      let on = along g r.0 b.0 (registers_along prog g b.0) (subst TrapFree (here ∙ mine) free) in
      (on.0, on.1, here ∙ mine ∙ ap (syncs g r.0 b.0) on.1)

-- ---- the text

module _ (prog : Program) (places : Places) (moves : ℕ) (text : TextFits prog places moves) (a : Frame) (fits : FrameFits prog a) (r : RegisterId) (b : BlockId) (item : item_here prog a ≡ Some (Ends (terminator.Sync r b))) where
  abbrev at : Located prog a.function.0 a.place.block.0 a.place.index (Ends (terminator.Sync r b))
  at = located prog a.function.0 a.place.block.0 a.place.index (Ends (terminator.Sync r b)) item

  pub region_within : r.0 < length a.registers.items
  region_within =
      let low = text.syncs a.function.0 a.place.block.0 a.place.index r b at.function at.is item in
      let words = fits.registers at.function at.is in
      omega (arith, low, words)

  pub fits_after : (f : Frame) → f ≡ record a { place = record { block = b; index = 0 }; registers = f.registers; waits = wait.Region r } → length f.registers.items ≡ length a.registers.items → FrameFits prog f
  fits_after f only words =
      let edge = ends_fit prog places moves a.function.0 a.place.block.0 a.place.index (terminator.Sync r b) text.fits at in
      subst (FrameFits prog) (sym only) (frame_stands prog (record a { place = record { block = b; index = 0 }; registers = f.registers; waits = wait.Region r }) at.function at.is (words ∙ fits.registers at.function at.is) (starts_block at.function.blocks b.0 edge.there))

-- the frame has a count for the region
pub counts_region : (prog : Program) (places : Places) (moves : ℕ) → TextFits prog places moves → (k : Run) (slot : ℕ) (n : Node Activation) (a : Activation) → node_at k.cactus slot ≡ Some (record n { frame = a }) → (m : Machine) → IsShown prog places m k →
    (r : RegisterId) (b : BlockId) → item_here prog a.frame ≡ Some (Ends (terminator.Sync r b)) → r.0 < length a.counts.items
counts_region prog places moves text k slot n a stands m shown r b item =
    let fits = shown.agrees.nodes slot (record n { frame = a }) stands in
    let low = region_within prog places moves text a.frame fits.fits r b item in
    let at = located prog a.frame.function.0 a.frame.place.block.0 a.frame.place.index (Ends (terminator.Sync r b)) item in
    let words = fits.fits.registers at.function at.is in
    let counts = fits.counts at.function at.is in
    omega (arith, low, words, counts)

-- the worker's step leads to a machine that is shown
abbrev pub LeadsTo : Program → Places → Run → Run → ℕ → Machine → Type 0
LeadsTo prog places k new w m = (x : Machine) × (event prog (length k.hands.items) (Step w) m ≡ Some x) × IsShown prog places x new

-- ---- the step

module _ (prog : Program) (places : Places) (k : Run) (slot : ℕ) (n : Node Activation) (a : Activation) (stands : node_at k.cactus slot ≡ Some (record n { frame = a })) (m : Machine) (shown : IsShown prog places m k)
    (r : RegisterId) (b : BlockId) (item : item_here prog a.frame ≡ Some (Ends (terminator.Sync r b)))
    (w : ℕ) (hand : hand_of k.hands.items w ≡ Some slot) (safe : RunsSafely prog (length k.hands.items) m) where
  abbrev p : Path
  p = place_of (record n { frame = a })

  abbrev workers : ℕ
  workers = length k.hands.items

  abbrev g : Shown
  g = (seen prog places k slot n a stands m shown).frame

  abbrev is_g : m.core.frames p ≡ Some g
  is_g = (seen prog places k slot n a stands m shown).is

  abbrev shows_g : ShowsFrame (layout_of prog places k.cactus m.core) places p g a.frame
  shows_g = (seen prog places k slot n a stands m shown).shows.shown

  act : (rs : Registers) × (registers_along prog g b.0 ≡ Some rs) × (action_of prog p g m.core.memory ≡ Sync r.0 b.0 rs)
  act =
      let t = shows_g in
      let can = can_step prog workers w p m g m.core.memory (standing prog places k slot n a stands m shown w hand safe) in
      sync_act prog p g m.core.memory r b ((λ j. item_at prog (t.function j) (t.block j) (t.index j)) ∙ item) (can.safe (object_at places k.cactus)).trap_free

  go : may_go m.core p g.made g.waits ≡ true
  go = may_go_on prog workers w p m g is_g (can_step prog workers w p m g m.core.memory (standing prog places k slot n a stands m shown w hand safe)).goes

  callee_none : a.callee ≡ None
  callee_none = free_callee m.core p g.made k.cactus (record n { frame = a }) a.frame.waits (ap (may_go m.core p g.made) (sym (seen prog places k slot n a stands m shown).shows.waits) ∙ go) (shown.agrees.nodes slot (record n { frame = a }) stands).callee

  abbrev after : Shown
  after = synced g r.0 b.0 act.0

  abbrev change : Change
  change = sync_change p g r.0 b.0 act.0

  abbrev next : Machine
  next = running.stepped m w change (cond (none_within m.core p g.made r.0) (Some p) None)

  happens : event prog workers (Step w) m ≡ Some next
  happens =
      let s = standing prog places k slot n a stands m shown w hand safe in
      ap (λ t. running.unless_trapped t (running.by_hand prog workers m w (m.hands w))) s.sound
      ∙ ap (running.by_hand prog workers m w) s.hand
      ∙ ap (running.by_frame prog workers m w p) is_g
      ∙ ap (λ o. Some (running.by_change prog workers m w p g o)) (change_is prog m.core p change (sync g r.0 b.0 act.0 is_g go act.2))
      ∙ ap (λ x. Some (running.stepped m w change (running.next_hand workers m (apply change m.core) p g x))) act.2

  now : next.core.frames p ≡ Some after
  now = ap (λ o. override o (m.core.frames p)) (only_here p (Some after))

  off : (q : Path) → p ≢ q → next.core.frames q ≡ m.core.frames q
  off q away = ap (λ o. override o (m.core.frames q)) (only_off p q (Some after) away)

  lives : (o : Object) → living prog next.core o ≡ living prog m.core o
  lives (Shared x) = refl
  lives (Local owner x) =
      elim (same_path_tells p owner) [
        | inl h ↦ subst (λ q. alloca_cells prog (next.core.frames q) x ≡ alloca_cells prog (m.core.frames q) x) h.1 (ap (λ o. alloca_cells prog o x) now ∙ sym (ap (λ o. alloca_cells prog o x) is_g))
        | inr h ↦ ap (λ o. alloca_cells prog o x) (off owner h.1)
      ]

  no_depth : (x : ℕ) → max x 0 ≡ x
  no_depth x = omega arith

  -- ---- what is shown then

  module _ (moves : ℕ) (text : TextFits prog places moves) (c : Activation) (only : c.frame ≡ record a.frame { place = record { block = b; index = 0 }; registers = c.frame.registers; waits = wait.Region r })
      (words : length c.frame.registers.items ≡ length a.frame.registers.items) (same_callee : c.callee ≡ a.callee) (same_counts : c.counts ≡ a.counts)
      (shows : (l : Layout) (at : Places) (q : Path) (h : Shown) (rs : Registers) → ShowsFrame l at q h a.frame → registers_along prog h b.0 ≡ Some rs → ShowsFrame l at q (synced h r.0 b.0 rs) c.frame) (room : Vec ℤ Global) where
    waits : c.frame.waits ≡ wait.Region r
    waits = ap (λ (x : Frame). x.waits) only

    abbrev Comes : Vec (Option ℕ) Global → Type 0
    Comes hands = (x : Machine) × (event prog workers (Step w) m ≡ Some x) × IsShown prog places x (gone_on prog places m m k slot (record n { frame = a }) g c k.cells (k.instructions + 1) room hands)

    comes : (hands : Vec (Option ℕ) Global) → HandsAgree prog places m next k slot (record n { frame = a }) after c hands → Comes hands
    comes hands agree =
        let node = record n { frame = a } in
        let was = shown.shows.done in (
          next,
          happens,
          goes_on_shown prog places m next k slot node after c shown stands
              (record {
                only = only ∙ (λ i. record a.frame { place = sym (ap (λ (x : Frame). x.place) only) i; registers = c.frame.registers; waits = sym waits i });
                fits = fits_after prog places moves text a.frame (shown.agrees.nodes slot node stands).fits r b item c.frame only words;
                waits = sym (ap wait_of waits);
                callee = subst (λ x. CalleeStands k.cactus node x c.callee) (sym waits) (same_callee ∙ callee_none);
                taker = λ x is. subst (HasTaker (length x.registers)) (sym waits) tt;
                counts = same_counts;
              })
              (record {
                here = now;
                elsewhere = off;
                peak = no_depth m.core.peak;
                result = refl;
                sound = refl;
                living = lives;
                counts = moved_alone prog m.core (safe []).tree p change g after refl is_g refl refl;
              })
              k.cells (k.instructions + 1) room hands agree (omega (arith, was)) (omega arith)
              (shows (layout_of prog places k.cactus m.core) places p g act.0 shows_g act.1)
              shown.shows.cells,
        )

    children : counted_in a r.0 ≡ children_within m.core p g.made r.0
    children = shown.agrees.counts slot r.0 (record n { frame = a }) stands ∙ count_at m.core p g r.0 is_g

    pub passes : c.runner ≡ a.runner → counted_in a r.0 ≡ 0 → Comes k.hands
    passes runner none =
        let all : none_within m.core p g.made r.0 ≡ true = counted_none m.core p r.0 g.made (sym children ∙ none) in
        let has = (standing prog places k slot n a stands m shown w hand safe).hand in
        comes k.hands (hands_agree prog places k slot n a stands m shown next c (λ v. ap (λ x. running.with_hand m.hands w (cond x (Some p) None) v) all ∙ hand_again prog workers w p m.hands has v ∙ shown.shows.hands v) runner)

    module _ (runner : c.runner ≡ None) (some : counted_in a r.0 ≢ 0) (within : w < length k.hands.items) where
      abbrev idle : Vec (Option ℕ) Global
      idle = with_item k.hands w None

      left : none_within m.core p g.made r.0 ≡ false
      left = from (none_within m.core p g.made r.0) refl
        where
          from : (x : Bool) → none_within m.core p g.made r.0 ≡ x → none_within m.core p g.made r.0 ≡ false
          from true e = absurd (some (children ∙ none_counted m.core p r.0 g.made e))
          from false e = e

      hand_now : (v : ℕ) → ((w ≡ v) × (hand_of idle.items v ≡ None)) ⊎ ((w ≢ v) × (hand_of idle.items v ≡ hand_of k.hands.items v))
      hand_now v =
          elim (eqb_tells w v) [
            | inl h ↦ inl (h.1, subst (λ x. hand_of idle.items x ≡ None) h.1 (get_or-set_same k.hands.items w None None within))
            | inr h ↦ inr (h.1, get_or-set_other k.hands.items w v None None (λ e. h.1 (sym e)))
          ]

      own_hand : (v : ℕ) → hand_of k.hands.items v ≡ Some slot → w ≡ v
      own_hand v has =
          let runs = (shown.agrees.runners slot w (record n { frame = a }) stands).1 hand in
          let other = (shown.agrees.runners slot v (record n { frame = a }) stands).1 has in
          let same : Some w ≡ Some v = sym runs ∙ other in
          cc

      seen_now : (v : ℕ) → next.hands v ≡ hands_of k.cactus idle.items v
      seen_now v =
          ap (λ x. running.with_hand m.hands w (cond x (Some p) None) v) left
          ∙ elim (eqb_tells w v) [
            | inl h ↦ ap (λ x. cond x None (m.hands v)) h.0 ∙ sym (ap (option_and_then (λ s. option_map place_of (node_at k.cactus s))) (subst (λ x. hand_of idle.items x ≡ None) h.1 (get_or-set_same k.hands.items w None None within)))
            | inr h ↦ ap (λ x. cond x None (m.hands v)) h.0 ∙ shown.shows.hands v ∙ sym (ap (option_and_then (λ s. option_map place_of (node_at k.cactus s))) (get_or-set_other k.hands.items w v None None (λ e. h.1 (sym e))))
          ]

      pub stalls : Comes idle
      stalls = comes idle (record {
        seen = seen_now;
        held = λ v s has. elim (hand_now v) [ inl h ↦ absurd (let e : None ≡ Some s = sym h.1 ∙ has in cc) | inr h ↦ shown.agrees.held v s (sym h.1 ∙ has) ];
        own = λ v. (
          (λ e. absurd (let x : None ≡ Some v = sym runner ∙ e in cc)),
          λ e. elim (hand_now v) [ inl h ↦ absurd (let x : None ≡ Some slot = sym h.1 ∙ e in cc) | inr h ↦ absurd (h.0 (own_hand v (sym h.1 ∙ e))) ],
        );
        others = λ v s away. elim (hand_now v) [
          | inl h ↦ ((λ e. absurd (away (let x : Some slot ≡ Some s = sym hand ∙ subst (λ y. hand_of k.hands.items y ≡ Some s) (sym h.0) e in let y : slot ≡ s = cc in sym y))), λ e. absurd (let x : None ≡ Some s = sym h.1 ∙ e in cc))
          | inr h ↦ ((λ e. h.1 ∙ e), λ e. sym h.1 ∙ e)
        ];
      })
