-- What steps that are done at once make of a stage: those of a strand, or of a frame's.
use Rattle.std.proofs.Common.{◌≡◌, ℕ, zero, suc, ◌≤◌, List, [], ◌∷◌, ◌++◌, length, map, Bool, true, false, replicate, refl, sym, ap, ◌∙◌, subst, ℤ}
use Rattle.std.specs.Prelude.{IsSome, Result, Ok, Err, OnErr}
use Rattle.std.proofs.Math.Logic.{∥∥₁_elim, ∥∥₁_map}
use Rattle.std.proofs.Props.{props}
use Rattle.std.proofs.Math.Nat.{ℕ_set}
use Rattle.std.proofs.Math.IntN.{ℤ_set}
use mathlib.Core.Sum.{⊎_set}
use Rattle.std.proofs.lemmas.List.{map-append}
use Rattle.lists.specs.declared.memory.OutOfMemory.{OutOfMemory}
use Rattle.semantics.specs.Events as running
use Rattle.semantics.specs.Events.{Machine, start}
use Rattle.semantics.specs.Replay.{or_unchanged, replay}
use Rattle.program.specs.declared.function.Program.{Program}
use Rattle.serial_machine.specs.store.Cells.{NamedCells}
use Rattle.schedule_commit.specs.Absorbing.{DoesFrameStrand, GoesAloneIn, KeepsHand, LeavesStallsBy, StandsAlone, steps_in}
use Rattle.schedule_commit.specs.frame_strand.declared.outside.FrameStrand.{FrameStrand}
use Rattle.schedule_commit.specs.laws_strands.Law.{Happen, steps_by}
use Rattle.schedule_workers.specs.declared.run.Run.{Run}
use Rattle.schedule_workers.specs.Follows.{Follows}
use Rattle.schedule_workers.specs.Left.{LeavesAsShown}
use Rattle.schedule_workers.specs.RunShown.{IsShown}
use Rattle.schedule_workers.specs.Starts.{ArePlaces}
use Rattle.schedule_workers.specs.Stalls.{Blocks, StallsAgree, if_enabled, last_blocks, no_blocks, noted}
use Rattle.frame_engine.specs.declared.activation.Places.{Places}
use Rattle.frame.specs.declared.event.Event.{Event}
use Rattle.frame.specs.declared.event.Event.TheVariants.{Step}
use Rattle.schedule_core.proofs.laws_workers.strands.Law.{alone_too}
use Rattle.schedule_core.specs.declared.stage.Stage.{Stage}
use Rattle.schedule_core.specs.Replaying.{AreEnabled, IsMachine, LeavesAsBefore, Replays, ReplaysMore, event_of, first_state, state_after}
use Rattle.schedule_core.specs.Stages.{GoesWell, IsReached, IsState, program_of, workers_of}
use Rattle.schedule_core.specs.FrameStrands.{Absorbs, TakesSteps}
use Rattle.schedule_core.proofs.Again.{shown_again}
use Rattle.schedule_core.proofs.Promised.{machine_of, machine_same}
use Rattle.schedule_core.proofs.Replaying.{leaves_as_before, with_run}

pub map_steps : (n worker : ℕ) → map event_of (replicate n (Step worker)) ≡ steps_by worker n
map_steps zero worker = refl
map_steps (suc n) worker = ap (λ (l : List running.Event). running.Step worker ∷ l) (map_steps n worker)

-- ---- many events

module _ (prog : Program) (workers : ℕ) where
  pub replay_all : (events more : List running.Event) (m : Machine) → replay prog workers (events ++ more) m ≡ replay prog workers more (replay prog workers events m)
  replay_all [] more m = refl
  replay_all (e ∷ events) more m = replay_all events more (or_unchanged (running.event prog workers e m) m)

  last_all : (events more : List running.Event) (m : Machine) (last : Blocks) →
      last_blocks prog workers (events ++ more) m last ≡ last_blocks prog workers more (replay prog workers events m) (last_blocks prog workers events m last)
  last_all [] more m last = refl
  last_all (e ∷ events) more m last = last_all events more (or_unchanged (running.event prog workers e m) m) (if_enabled (running.event prog workers e m) (noted e m last) last)

  happen_replay : (events : List running.Event) (m after : Machine) → Happen prog workers events m after → replay prog workers events m ≡ after
  happen_replay [] m after same = same
  happen_replay (e ∷ events) m after (next, is, rest) = ap (λ o. replay prog workers events (or_unchanged o m)) is ∙ happen_replay events next after rest

  happen_enabled : (events : List running.Event) (m after : Machine) → Happen prog workers events m after → AreEnabled prog workers events m
  happen_enabled [] m after same = tt
  happen_enabled (e ∷ events) m after (next, is, rest) =
      (subst (λ o. IsSome o) (sym is) refl, subst (λ o. AreEnabled prog workers events (or_unchanged o m)) (sym is) (happen_enabled events next after rest))

  enabled_again : (events : List running.Event) (m : Machine) → ∥ AreEnabled prog workers events m ∥₁ → AreEnabled prog workers events m
  enabled_again [] m t = tt
  enabled_again (e ∷ events) m t =
      (∥∥₁_elim t (Prim.hlevel (props, ⊎_set, ℕ_set, ℤ_set)) (λ a. a.0), enabled_again events (or_unchanged (running.event prog workers e m) m) (∥∥₁_map t (λ a. a.1)))

  well_all : (events : List running.Event) (m : Machine) → GoesWell prog workers m → GoesWell prog workers (replay prog workers events m)
  well_all [] m w = w
  well_all (e ∷ events) m w =
      well_all events (or_unchanged (running.event prog workers e m) m)
      (record { safe = λ more. w.safe (e ∷ more); strands = λ more. w.strands (e ∷ more); full = λ more. w.full (e ∷ more) })

  reached_all : (events : List running.Event) (m : Machine) → IsReached prog workers m → IsReached prog workers (replay prog workers events m)
  reached_all events m r = record {
    arguments = r.arguments;
    memory = r.memory;
    events = r.events ++ events;
    after = replay_all r.events events (start prog r.arguments r.memory) ∙ ap (λ x. replay prog workers events x) r.after;
  }

-- ---- so many steps of a worker

module _ (old : Stage) (k : Run) (many : length k.hands.items ≡ length old.run.hands.items) (w n : ℕ)
    (does : (m : Machine) → IsState old m → ∥ ((after : Machine) × Happen (program_of old) (workers_of old) (steps_by w n) m after × IsShown (program_of old) old.places after k) ∥₁)
    (stalls : (m : Machine) → IsState old m → (last : Blocks) → StallsAgree last old.run.cactus → StallsAgree (last_blocks (program_of old) (workers_of old) (steps_by w n) m last) k.cactus)
  where
    abbrev es : List running.Event
    es = steps_by w n

    abbrev after : Machine → Machine
    after m = replay (program_of old) (workers_of old) es m

    shown_after : (m : Machine) → IsState old m → IsShown (program_of old) old.places (after m) k
    shown_after m s =
        shown_again (program_of old) old.places (after m) k
        (∥∥₁_map (does m s) (λ h. subst (λ (y : Machine). IsShown (program_of old) old.places y k) (sym (happen_replay (program_of old) (workers_of old) es m h.0 h.1)) h.2))

    state_all : (m : Machine) → IsState old m → IsState (with_run old k) (after m)
    state_all m s = record {
      shown = shown_after m s;
      manned = subst (λ c. 1 ≤ c) (sym many) s.manned;
      reached = subst (λ c. IsReached (program_of old) c (after m)) (sym many) (reached_all (program_of old) (workers_of old) es m s.reached);
      well = subst (λ c. GoesWell (program_of old) c (after m)) (sym many) (well_all (program_of old) (workers_of old) es m s.well);
    }

    module _ (arguments : List ℤ) (globals : List NamedCells) (events : List Event) (r : Replays (program_of old) arguments globals (workers_of old) events old) where
      abbrev first : Machine
      first = first_state (program_of old) arguments globals

      abbrev now : Machine
      now = state_after (program_of old) arguments globals (workers_of old) events

      all_events : map event_of (events ++ replicate n (Step w)) ≡ map event_of events ++ es
      all_events = map-append event_of events (replicate n (Step w)) ∙ ap (λ (l : List running.Event). map event_of events ++ l) (map_steps n w)

      state_is : after now ≡ state_after (program_of old) arguments globals (workers_of old) (events ++ replicate n (Step w))
      state_is = sym (ap (λ l. replay (program_of old) (workers_of old) l first) all_events ∙ replay_all (program_of old) (workers_of old) (map event_of events) es first)

      blocks_are : last_blocks (program_of old) (workers_of old) es now (last_blocks (program_of old) (workers_of old) (map event_of events) first no_blocks) ≡
          last_blocks (program_of old) (workers_of old) (map event_of (events ++ replicate n (Step w))) first no_blocks
      blocks_are =
          sym (ap (λ l. last_blocks (program_of old) (workers_of old) l first no_blocks) all_events ∙ last_all (program_of old) (workers_of old) (map event_of events) es first no_blocks)

      replays_here : Replays (program_of old) arguments globals (workers_of old) (events ++ replicate n (Step w)) (with_run old k)
      replays_here = record {
        program = refl;
        as_many = many;
        globals_are = r.globals_are;
        state = subst (λ y. IsState (with_run old k) y) state_is (state_all now r.state);
        stalls = subst (λ (l : Blocks). StallsAgree l k.cactus) blocks_are (stalls now r.state _ r.stalls);
      }

    takes_replays : ReplaysMore old (with_run old k) (replicate n (Step w))
    takes_replays prog arguments globals workers events r =
        let own : Replays (program_of old) arguments globals (workers_of old) events old =
        subst (λ c. Replays (program_of old) arguments globals c events old) (sym r.as_many) (subst (λ q. Replays q arguments globals workers events old) (sym r.program) r) in
        subst (λ q. Replays q arguments globals workers (events ++ replicate n (Step w)) (with_run old k)) r.program
        (subst (λ c. Replays (program_of old) arguments globals c (events ++ replicate n (Step w)) (with_run old k)) r.as_many (replays_here arguments globals events own))

    pub takes_steps : TakesSteps old (with_run old k) w n
    takes_steps = record {
      replays = takes_replays;
      enabled = λ m s. enabled_again (program_of old) (workers_of old) es m (∥∥₁_map (does m s) (λ h. happen_enabled (program_of old) (workers_of old) es m h.0 h.1));
    }

-- ---- a strand's

-- what absorbing rests on
pub stands_alone : (stage : Stage) → ∥ IsMachine stage ∥₁ → ∥ StandsAlone (program_of stage) stage.places stage.run ∥₁
stands_alone stage kept =
    ∥∥₁_map kept (λ k.
    let m = state_after (program_of stage) k.arguments stage.memory (workers_of stage) k.events in
    let s = k.replays.state in
    record { machine = m; shown = s.shown; safe = s.well.safe; alone = alone_too (program_of stage) m (s.well.strands []) })

pub absorbs : (old : Stage) (k : Run) → length k.hands.items ≡ length old.run.hands.items → (w : ℕ) (x : FrameStrand) → ∥ DoesFrameStrand (program_of old) old.places old.run k w x ∥₁ →
    LeavesStallsBy (program_of old) old.places old.run k w (steps_in x.pause x.course.done) → KeepsHand (program_of old) old.places old.run w x → Absorbs old (with_run old k) w x
absorbs old k many w x does stalls hand = record {
  steps = takes_steps old k many w (steps_in x.pause x.course.done) (λ m s. ∥∥₁_map does (λ d. d m s.shown s.well.safe (alone m s))) (λ m s. stalls m s.shown s.well.safe (alone m s));
  hand = λ m s. hand m s.shown s.well.safe (alone m s);
}
  where
    alone : (m : Machine) → IsState old m → GoesAloneIn (program_of old) m
    alone m s = alone_too (program_of old) m (s.well.strands [])

-- ---- a stage stays a machine

module _ (old : Stage) (k : Run) (many : length k.hands.items ≡ length old.run.hands.items) (moves : length k.moves.items ≡ length old.run.moves.items) (follows : Follows old.run.cactus k.cactus) (w n : ℕ) where
  pub absorbed_machine : TakesSteps old (with_run old k) w n → IsMachine old → IsMachine (with_run old k)
  absorbed_machine a m =
      machine_of old k many moves follows (Step w) m (m.events ++ replicate n (Step w))
      (a.replays (program_of old) m.arguments old.memory (workers_of old) m.events m.replays)

  pub left_absorbing : (r : Result Bool OutOfMemory) → OnErr r (LeavesAsShown (program_of old) old.places old.run k) → OnErr r (LeavesAsBefore old (with_run old k))
  left_absorbing (Err e) left = leaves_as_before old k many left
  left_absorbing (Ok done) left = tt

  pub machine_absorbing : (r : Result Bool OutOfMemory) → OnErr r (LeavesAsBefore old (with_run old k)) → (r ≡ Ok true → TakesSteps old (with_run old k) w n) → (r ≡ Ok false → k ≡ old.run) →
      ∥ IsMachine old ∥₁ → ∥ IsMachine (with_run old k) ∥₁
  machine_absorbing (Err e) left does same kept = ∥∥₁_map kept (machine_same old k many moves follows (Step w) left)
  machine_absorbing (Ok true) left does same kept = ∥∥₁_map kept (absorbed_machine (does refl))
  machine_absorbing (Ok false) left does same kept = subst (λ (y : Run). ∥ IsMachine (with_run old y) ∥₁) (sym (same refl)) kept

-- ---- places

-- a machine's are those of its module
pub places_kept : (stage : Stage) → ∥ IsMachine stage ∥₁ → ArePlaces (program_of stage) stage.places
places_kept stage kept = record {
  globals = ∥∥₁_elim kept (Prim.hlevel (props, ⊎_set, ℕ_set, ℤ_set)) (λ m. m.places.globals);
  allocas = ∥∥₁_elim kept (Prim.hlevel (props, ⊎_set, ℕ_set, ℤ_set)) (λ m. m.places.allocas);
}

-- a module's objects begin at the same places whenever they are laid out
pub same_places : (stage : Stage) → ∥ IsMachine stage ∥₁ → (places : Places) → ArePlaces (program_of stage) places → places ≡ stage.places
same_places stage kept places at =
    let own : ArePlaces (program_of stage) stage.places = places_kept stage kept in
    let globals : places.globals ≡ stage.places.globals = at.globals ∙ sym own.globals in
    let allocas : places.allocas ≡ stage.places.allocas = at.allocas ∙ sym own.allocas in
    λ i. record { globals = globals i; allocas = allocas i }
