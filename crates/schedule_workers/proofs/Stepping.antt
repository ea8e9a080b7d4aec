-- A step of a worker: from the run that a look for a plain instruction leaves, and of an idle worker.
use Rattle.std.proofs.Common.{Vec, Global, ◌≡◌, ℕ, length, Option, Some, None, Bool, false, refl, sym, ap, ◌∙◌, subst}
use Rattle.std.specs.Prelude.{Result, Ok, Err, OnErr, option_and_then, slice_get}
use Rattle.std.proofs.lemmas.List.{append-nil}
use Rattle.std.specs.Option.{option_map}
use Rattle.semantics.specs.Frames.{block_at}
use Rattle.semantics.specs.Events as running
use Rattle.semantics.specs.Events.{Event, Machine}
use Rattle.program.specs.declared.function.Block.{Block}
use Rattle.program.specs.declared.function.Function.{Function}
use Rattle.program.specs.declared.function.Program.{Program}
use Rattle.cactus.specs.Frames.{Frames, node_at}
use Rattle.frame_engine.specs.declared.activation.Places.{Places}
use Rattle.frame_engine.specs.Fits.{HasEnding}
use Rattle.frame_engine.proofs.Shown.{then_some}
use Rattle.frame_engine.proofs.Texts.{sizes_in}
use Rattle.schedule_workers.specs.declared.activation.Activation.{Activation}
use Rattle.schedule_workers.specs.declared.run.Run.{Run}
use Rattle.schedule_workers.specs.Events.{DoesEvent, Grows, LeavesStalls}
use Rattle.schedule_workers.specs.Follows.{KeepsUses}
use Rattle.schedule_workers.specs.Going.{DoesStep, KeepsShown, RunsSafely, Stands, TextFits}
use Rattle.schedule_workers.specs.Left.{LeavesAsShown}
use Rattle.schedule_workers.specs.Rooms.{IsRoomier}
use Rattle.schedule_workers.specs.Scheduling.{hand_of}
use Rattle.schedule_workers.specs.RunShown.{place_of}
use Rattle.schedule_workers.specs.Stalls.{KeepsStalls}
use Rattle.schedule_workers.proofs.Roomy.{room_shown}
use Rattle.schedule_workers.proofs.Uses.{kept_uses, same_uses}

module _ (prog : Program) (places : Places) (old mid : Run) (hands : mid.hands ≡ old.hands) (keeps : KeepsShown prog places old mid) where
  still_safe : (m : Machine) → RunsSafely prog (length old.hands.items) m → RunsSafely prog (length mid.hands.items) m
  still_safe m safe = subst (λ (h : Vec (Option ℕ) Global). RunsSafely prog (length h.items) m) (sym hands) safe

  pub stands_then : Stands prog places old → Stands prog places mid
  stands_then s = record { machine = s.machine; shown = keeps s.machine s.shown s.safe; safe = still_safe s.machine s.safe }

  pub grows_then : (w : ℕ) → Grows prog places mid w → Grows prog places old w
  grows_then w grows m shown safe = grows m (keeps m shown safe) (still_safe m safe)

  module _ (new : Run) where
    pub steps_then : (w : ℕ) → DoesStep prog places mid new w → DoesStep prog places old new w
    steps_then w steps m shown safe =
        let t = steps m (keeps m shown safe) (still_safe m safe) in
        (t.0, ap (λ (h : Vec (Option ℕ) Global). running.event prog (length h.items) (running.Step w) m) (sym hands) ∙ t.1, t.2)

    pub stalls_then : KeepsStalls old.cactus mid.cactus → (e : Event) (done : Bool) → LeavesStalls prog places mid new e done → LeavesStalls prog places old new e done
    stalls_then stalled e done leaves m shown safe last agree = leaves m (keeps m shown safe) (still_safe m safe) last (stalled last agree)

    pub leaves_then : KeepsUses old.cactus mid.cactus → KeepsStalls old.cactus mid.cactus → LeavesAsShown prog places mid new → LeavesAsShown prog places old new
    leaves_then uses stalled left = record {
      shown = λ m shown safe. left.shown m (keeps m shown safe) (still_safe m safe);
      hands = left.hands ∙ hands;
      uses = kept_uses old.cactus mid.cactus new.cactus uses left.uses;
      stalls = λ last agree. left.stalls last (stalled last agree);
    }

-- a worker with no task does nothing
pub idle_stays : (prog : Program) (places : Places) (k : Run) (w : ℕ) → hand_of k.hands.items w ≡ None → DoesEvent prog places k k (running.Step w) false
idle_stays prog places k w none m shown safe = (
  ap (λ t. running.unless_trapped t (running.by_hand prog (length k.hands.items) m w (m.hands w))) shown.shows.trapped
      ∙ ap (running.by_hand prog (length k.hands.items) m w) (shown.shows.hands w ∙ ap (option_and_then (λ slot. option_map place_of (node_at k.cactus slot))) none),
  shown,
)

-- with more room, what was shown is shown
pub roomier_leaves : (prog : Program) (places : Places) (old new : Run) → IsRoomier old new → LeavesAsShown prog places old new
roomier_leaves prog places old new more = record {
  shown = λ m shown safe. room_shown prog places old new more m shown;
  hands = ap (λ (x : Run). x.hands) more.only;
  uses = subst (λ (x : Frames Activation). KeepsUses old.cactus x) (sym slots) (same_uses old.cactus);
  stalls = subst (λ (x : Frames Activation). KeepsStalls old.cactus x) (sym slots) (λ last agree. agree);
}
  where
    slots : new.cactus ≡ old.cactus
    slots = ap (λ (x : Run). x.cactus) more.only

-- the same room is no less
pub same_room : (k : Run) → IsRoomier k k
same_room k = record { only = refl; cells = (0, sym (append-nil k.cells.cells.items)); blocks = (0, sym (append-nil k.blocks.items)) }

pub same_leaves : {X E : Type 0} (old new : Run) (r : Result X E) → OnErr r (new ≡ old) → OnErr r (IsRoomier old new)
same_leaves old new (Ok x) same = tt
same_leaves old new (Err e) same = subst (λ (x : Run). IsRoomier old x) (sym same) (same_room old)

-- each block has an ending
pub has_ending : (prog : Program) (places : Places) (moves k b : ℕ) (block : Block) → TextFits prog places moves → block_at prog k b ≡ Some block → block.ending ≡ None → ⊥
has_ending prog places moves k b block text e none =
    let u = then_some (slice_get prog.functions k) (λ (f : Function). slice_get f.blocks b) block e in
    subst (HasEnding (sizes_in places k u.0) moves b u.0.blocks) none (text.fits.blocks k u.0 u.1 b block u.2).ending
