-- A machine stays one, and rests on what accepted programs promise.
use Rattle.std.proofs.Common.{◌≡◌, ℕ, ◌<◌, List, [], ◌∷◌, ◌++◌, length, reverse, Some, None, Bool, true, false, inl, inr, refl, sym, ap, ◌∙◌, subst, arith}
use Rattle.std.specs.Prelude.{IsTrue, Result, Ok, Err, IfOk, OnErr, OnOk}
use Rattle.std.proofs.Math.Logic.{∥∥₁_elim, ∥∥₁_map}
use Rattle.std.proofs.Props.{props}
use Rattle.std.proofs.Math.Nat.{ℕ_set}
use Rattle.std.proofs.Math.IntN.{ℤ_set}
use mathlib.Core.Sum.{⊎_set}
use Rattle.lists.specs.declared.memory.OutOfMemory.{OutOfMemory}
use Rattle.semantics.specs.Paths.{Path}
use Rattle.frame.specs.declared.path.Path.{Path as Name}
use Rattle.semantics.specs.Events as running
use Rattle.semantics.specs.Events.{Machine}
use Rattle.semantics.specs.Replay.{has_ended}
use Rattle.program.specs.declared.function.Program.{Program}
use Rattle.serial_machine.specs.verifier.Accepted.{IsAccepted}
use Rattle.cactus.specs.Frames.{Frames}
use Rattle.schedule_workers.specs.declared.activation.Activation.{Activation}
use Rattle.schedule_workers.specs.declared.run.Run.{Run}
use Rattle.schedule_workers.specs.Events.{DoesEvent, Grows, LeavesStalls}
use Rattle.schedule_workers.specs.Follows.{AreGiven, Follows}
use Rattle.schedule_workers.specs.Going.{DoesSteal, StandsSafely, TextFits}
use Rattle.schedule_workers.specs.Left.{LeavesAsShown}
use Rattle.schedule_workers.specs.Stalls.{KeepsStalls}
use Rattle.frame_engine.specs.Fits.{HasMoves}
use Rattle.schedule_workers.specs.Starts.{ArePlaces}
use Rattle.frame_engine.specs.declared.activation.Places.{Places}
use Rattle.frame.specs.declared.event.Event.{Event}
use Rattle.frame.specs.declared.event.Event.TheVariants.{Step, Steal}
use Rattle.schedule_core.specs.declared.stage.Stage.{Stage}
use Rattle.schedule_core.specs.Replaying.{Becomes, GrowsOnly, Happens, IsMachine, LeavesAsBefore, Replays, ReplaysOneMore, event_of, state_after}
use Rattle.schedule_core.specs.Stages.{IsState, program_of, workers_of}
use Rattle.schedule_core.proofs.Grounds.{laws}
use Rattle.schedule_core.proofs.Over.{ended_enables_nothing, no_frames, no_root}
use Rattle.schedule_core.proofs.Replaying.{happens, leaves_as_before, replays_next, with_run}

-- ---- what a step rests on

places_prop : (prog : Program) (places : Places) → IsProp (ArePlaces prog places)
places_prop prog places = Prim.hlevel (props, ⊎_set, ℕ_set, ℤ_set)

moves_prop : (prog : Program) (n : ℕ) → IsProp (HasMoves prog n)
moves_prop prog n = Prim.hlevel (props, ⊎_set, ℕ_set, ℤ_set)

module _ (stage : Stage) (kept : ∥ IsMachine stage ∥₁) where
  pub stands_safely : StandsSafely (program_of stage) stage.places stage.run
  stands_safely =
      ∥∥₁_map kept (λ k. record {
        machine = state_after (program_of stage) k.arguments stage.memory (workers_of stage) k.events;
        shown = k.replays.state.shown;
        safe = k.replays.state.well.safe;
      })

  pub has_moves : HasMoves (program_of stage) (length stage.run.moves.items)
  has_moves = ∥∥₁_elim kept (moves_prop (program_of stage) (length stage.run.moves.items)) (λ k. k.moves)

  pub text_fits : IsAccepted (program_of stage) → TextFits (program_of stage) stage.places (length stage.run.moves.items)
  text_fits accepted =
      laws.texts_fit (program_of stage) accepted stage.places (∥∥₁_elim kept (places_prop (program_of stage) stage.places) (λ k. k.places)) (length stage.run.moves.items) has_moves

-- ---- one event more

-- generations of living frames were given out
given_on : (old new : Frames Activation) → Follows old new → AreGiven old → AreGiven new
given_on old new f given slot node stands = elim (f.uses slot node stands) [
  | inl same ↦ let below : same.there.generation < old.made = given slot same.there same.stands in let generation = same.generation in let made = f.made in omega (arith, below, generation, made)
  | inr fresh ↦ fresh.below
]

module _ (old : Stage) (k : Run) (many : length k.hands.items ≡ length old.run.hands.items) (moves : length k.moves.items ≡ length old.run.moves.items) (follows : Follows old.run.cactus k.cactus) (e : Event) where
  pub machine_of : (m : IsMachine old) (events : List Event) → Replays (program_of old) m.arguments old.memory (workers_of old) events (with_run old k) → IsMachine (with_run old k)
  machine_of m events r = record {
    accepted = m.accepted;
    moves = subst (λ n. HasMoves (program_of old) n) (sym moves) m.moves;
    places = m.places;
    made = m.made;
    small = m.small;
    given = given_on old.run.cactus k.cactus follows m.given;
    arguments = m.arguments;
    taken = m.taken;
    events = events;
    replays = subst (λ n. Replays (program_of old) m.arguments old.memory n events (with_run old k)) (sym many) r;
  }

  machine_next : ReplaysOneMore old (with_run old k) e → IsMachine old → IsMachine (with_run old k)
  machine_next next m = machine_of m (m.events ++ e ∷ []) (next (program_of old) m.arguments old.memory (workers_of old) m.events m.replays)

  pub machine_same : LeavesAsBefore old (with_run old k) → IsMachine old → IsMachine (with_run old k)
  machine_same left m = machine_of m m.events (left.replays (program_of old) m.arguments old.memory (workers_of old) m.events m.replays)

  pub machine_after : (r : Result Bool OutOfMemory) → OnErr r (LeavesAsBefore old (with_run old k)) → OnOk r (ReplaysOneMore old (with_run old k) e) → ∥ IsMachine old ∥₁ → ∥ IsMachine (with_run old k) ∥₁
  machine_after (Err x) left next kept = ∥∥₁_map kept (machine_same left)
  machine_after (Ok done) left next kept = ∥∥₁_map kept (machine_next next)

  pub left_after : (r : Result Bool OutOfMemory) → OnErr r (LeavesAsShown (program_of old) old.places old.run k) → OnErr r (LeavesAsBefore old (with_run old k))
  left_after (Err x) left = leaves_as_before old k many left
  left_after (Ok done) left = tt

  pub happens_after : (r : Result Bool OutOfMemory) → IfOk r (DoesEvent (program_of old) old.places old.run k (event_of e)) → IfOk r (Happens old (with_run old k) (event_of e))
  happens_after (Err x) does = tt
  happens_after (Ok done) does = happens old k many (event_of e) done does

  pub replays_after : (r : Result Bool OutOfMemory) → IfOk r (DoesEvent (program_of old) old.places old.run k (event_of e)) → (r ≡ Ok false → k ≡ old.run) →
      IfOk r (LeavesStalls (program_of old) old.places old.run k (event_of e)) → OnOk r (ReplaysOneMore old (with_run old k) e)
  replays_after (Err x) does same stalls = tt
  replays_after (Ok done) does same stalls =
      replays_next old k many e done (happens old k many (event_of e) done does) (λ off. ap (with_run old) (same (ap Ok off))) stalls

-- want of memory at a step
pub grows_only : (old : Stage) (w : ℕ) (r : Result Bool OutOfMemory) → OnErr r (Grows (program_of old) old.places old.run w) →
    OnErr r ((m : Machine) → IsState old m → GrowsOnly (program_of old) m (Step w))
grows_only old w (Err x) grows = λ m s. grows m s.shown s.well.safe
grows_only old w (Ok done) grows = tt

-- ---- the end

over_by : (old new : Stage) (m : Machine) (e : running.Event) (done : Bool) → running.event (program_of old) (workers_of old) e m ≡ None → Becomes e m old new done → done ≡ false
over_by old new m e true none h = absurd (let s : None ≡ Some h.0 = sym none ∙ h.1 in cc)
over_by old new m e false none h = refl

-- an ended machine enables nothing
nothing_over : (old : Stage) (m : Machine) (e : running.Event) → IsState old m → has_ended m ≡ true → running.event (program_of old) (workers_of old) e m ≡ None
nothing_over old m e s over =
    let r = s.reached in
    subst (λ x. running.event (program_of old) (workers_of old) e x ≡ None) r.after
    (ended_enables_nothing (program_of old) r.arguments r.memory (workers_of old) s.manned r.events (ap has_ended r.after ∙ over) e)

-- and makes no frame
grows_over : (old : Stage) (m : Machine) (e : Event) → IsState old m → has_ended m ≡ true → GrowsOnly (program_of old) m e → ⊥
grows_over old m (Steal w path) s over grows = grows
grows_over old m (Step w) s over grows =
    let none = no_frames m.core (s.well.safe []).tree (no_root (m.core.frames []) over) grows.path in
    let e : None ≡ Some grows.frame = sym none ∙ grows.stands in
    cc

pub over_after : (old new : Stage) (m : Machine) (e : Event) (r : Result Bool OutOfMemory) → IfOk r (Happens old new (event_of e)) → OnErr r ((x : Machine) → IsState old x → GrowsOnly (program_of old) x e) →
    IsState old m → has_ended m ≡ true → r ≡ Ok false
over_after old new m e (Err x) does only s over = absurd (grows_over old m e s over (only m s))
over_after old new m e (Ok done) does only s over = ap Ok (over_by old new m (event_of e) done (nothing_over old m (event_of e) s over) (does m s))

-- ---- steals

steal_leaves : (prog : Program) (places : Places) (old k : Run) (w : ℕ) (t : Path) (done : Bool) → KeepsStalls old.cactus k.cactus → LeavesStalls prog places old k (running.Steal w t) done
steal_leaves prog places old k w t true keeps = λ m shown safe last agree. keeps last agree
steal_leaves prog places old k w t false keeps = λ m shown safe last agree. keeps last agree

module _ (old : Stage) (k : Run) (w : ℕ) (path : Name) (done : Bool) (steals : (prog : Program) (places : Places) → DoesSteal prog places old.run k w (reverse path.numbers) done) (left : ¬ IsTrue done → k ≡ old.run)
    (stalls : KeepsStalls old.run.cactus k.cactus) (many : length k.hands.items ≡ length old.run.hands.items) where
  steal_does : DoesEvent (program_of old) old.places old.run k (running.Steal w (reverse path.numbers)) done
  steal_does = λ m shown safe. steals (program_of old) old.places m shown

  pub steal_happens : Happens old (with_run old k) (running.Steal w (reverse path.numbers)) done
  steal_happens = happens old k many (running.Steal w (reverse path.numbers)) done steal_does

  pub unless_done : ◌≡◌ {A = Result Bool OutOfMemory} (Ok done) (Ok false) → k ≡ old.run
  unless_done off = left (λ yes. (let no : done ≡ false = (let e : ◌≡◌ {A = Result Bool OutOfMemory} (Ok done) (Ok false) = off in cc) in cc))

  pub steal_replays : ReplaysOneMore old (with_run old k) (Steal w path)
  steal_replays =
      replays_next old k many (Steal w path) done steal_happens (λ off. ap (with_run old) (left (λ yes. cc)))
      (steal_leaves (program_of old) old.places old.run k w (reverse path.numbers) done stalls)
