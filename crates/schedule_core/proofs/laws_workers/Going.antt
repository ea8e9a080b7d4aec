-- Wherever a schedule leads, each worker's frame can do its next step.
use Rattle.std.proofs.Common.{◌≡◌, ℕ, ◌≤◌, List, Option, Some, None, refl, sym, subst, arith, ℤ}
use Rattle.std.specs.Prelude.{IsSome}
use Rattle.syntax.specs.declared.operator.Mode.TheVariants.{Writes, Adds}
use Rattle.semantics.specs.Paths.{Path}
use Rattle.semantics.specs.Cells.{Object, Memory}
use Rattle.semantics.specs.Frames.{Frame, item_at}
use Rattle.semantics.specs.Effect.{Action, Plain, Detach, Reattach, Sync, Call, Return, action_of}
use Rattle.semantics.specs.State.{State, Change, change_of}
use Rattle.semantics.specs.Events.{Machine, Event, start}
use Rattle.semantics.specs.Replay.{replay}
use Rattle.semantics.specs.Sound.{NeverTraps}
use Rattle.semantics.proofs.Steps.{change_is}
use Rattle.program.specs.declared.function.Program.{Program}
use Rattle.program.specs.declared.instruction.Instruction.TheVariants as instruction
use Rattle.schedule_workers.specs.frame_engine.Shows.{KeepsWithin, TrapFree}
use Rattle.serial_machine.specs.laws_schedule.Promise.{AreTaken, HasGlobals, KeepsItsPromise}
use Rattle.serial_machine.specs.laws_schedule.kinds.Uses.{HasKindedUses}
use Rattle.serial_machine.specs.laws_schedule.safe.Kept.{OfAll}
use Rattle.serial_machine.specs.laws_schedule.safe.Promise.{IsSafeRun}
use Rattle.serial_machine.specs.laws_schedule.safe.Safe.{CanStep as CanStepFrame, IsSafe}
use Rattle.serial_machine.specs.laws_schedule.safe.Steps.{Does}
use Rattle.serial_machine.specs.verifier.Accepted.{IsProgramOf}
use Rattle.serial_machine.specs.verifier.Budgets.{budget_of}
use Rattle.serial_machine.proofs.laws_schedule.Accepted.{IsTaken, is_taken}
use Rattle.serial_machine.proofs.laws_schedule.Promise.{accepted_programs_keep_their_promise}
use Rattle.serial_machine.proofs.laws_schedule.kinds.Uses.{uses_are_kinded}
use Rattle.serial_machine.proofs.laws_schedule.safe.Held.{always_rooted}
use Rattle.serial_machine.proofs.laws_schedule.safe.Replayed.{Next, from_later, held_next}
use Rattle.serial_machine.proofs.laws_schedule.safe.Safe.{schedules_are_safe}
use Rattle.serial_machine.proofs.room.Operands.{items_fit}
use Rattle.serial_machine.proofs.safe.Going.{item_whole, name_whole, some_there}
use Rattle.schedule_workers.specs.Going.{CanGo, CanStep}
use Rattle.schedule_workers.specs.Layouts.{living}
use Rattle.schedule_core.specs.laws_workers.Safe.{WorkersRunsAreSafe}
use Rattle.schedule_core.proofs.laws_workers.Owners.{cell_living}
use Rattle.schedule_core.proofs.laws_workers.Points.{IsBelow, always_below, points_up}

-- what a frame is about to do is no trap
trap_free : (s : State) (p : Path) (f : Frame) (a : Action) → Does s p f a → TrapFree a
trap_free s p f (Plain e) does = does
trap_free s p f (Detach r b c) does = tt
trap_free s p f (Reattach r) does = tt
trap_free s p f (Sync r b rs) does = tt
trap_free s p f (Call d g vs) does = tt
trap_free s p f (Return v) does = tt

-- ---- one frame in a worker's hand

module _ (prog : Program) (taken : IsTaken prog) (uses : HasKindedUses prog) (m : Machine) (run : IsSafeRun prog m) (owned : OfAll m.core IsBelow) (worker : ℕ) (p : Path) (f : Frame)
    (here : m.hands worker ≡ Some p) (is : m.core.frames p ≡ Some f)
  where
    safe : IsSafe prog (budget_of prog) m p f
    safe = run.frames p f is

    step : CanStepFrame prog m.core p f safe.place
    step = (safe.steps worker here).0

    keeps_within : (at : Object → ℤ) (a : Action) → action_of prog p f m.core.memory ≡ a → KeepsWithin (record { at = at; cells = living prog m.core }) a
    keeps_within at (Plain e) act = (
      λ c w. cell_living prog m.core owned p c (step.cells e Writes c act (some_there (e.writes c) w)).0,
      λ c w. cell_living prog m.core owned p c (step.cells e Adds c act (some_there (e.adds c) w)).0,
    )
    keeps_within at (Detach r b c) act = tt
    keeps_within at (Reattach r) act = tt
    keeps_within at (Sync r b rs) act = tt
    keeps_within at (Call d g vs) act = tt
    keeps_within at (Return v) act = tt

    pub can_step : IsSome (change_of prog m.core p) → CanStep prog m p f
    can_step goes = record {
      safe = λ at. record {
        trap_free = trap_free m.core p f (action_of prog p f m.core.memory) step.steady.does;
        within = keeps_within at (action_of prog p f m.core.memory) refl;
        operands = items_fit prog taken.names.kinds f safe.kinds;
        whole = item_whole prog uses f safe.kinds (item_at prog f.function f.block f.index) refl;
      };
      goes = goes;
      whole = λ d callee arguments is k name at. name_whole prog uses f safe.kinds (instruction.Call d callee arguments) is name (k, at);
      index = let i = safe.counted.index in let low = run.within_budget in let most = run.small in omega (arith, i, low, most);
      made = let i = safe.counted.made in let low = run.within_budget in let most = run.small in omega (arith, i, low, most);
      depth = let i = safe.counted.depth in let low = run.within_budget in let most = run.small in omega (arith, i, low, most);
    }

-- ---- wherever a schedule leads

module _ (text : List ℕ) (program : Program) (accepted : IsProgramOf text program) (arguments : List ℤ) (memory : Memory) (given : AreTaken program arguments) (valued : HasGlobals program memory)
    (workers : ℕ) (some : 1 ≤ workers) (events : List Event)
  where
    abbrev first : Machine
    first = start program arguments memory

    abbrev m : Machine
    m = replay program workers events first

    promise : KeepsItsPromise program arguments memory
    promise = accepted_programs_keep_their_promise text program accepted arguments memory given valued

    never : NeverTraps program workers first
    never more = (promise.every_schedule workers some more).no_trap.0

    never_later : NeverTraps program workers m
    never_later = from_later program workers (λ (x : Machine). x.trapped ≡ None) events first never

    run : IsSafeRun program m
    run = schedules_are_safe text program accepted arguments memory given valued workers some events

    below : OfAll m.core IsBelow
    below = always_below program arguments memory workers never events

    enabled : (worker : ℕ) (p : Path) (f : Frame) → m.hands worker ≡ Some p → m.core.frames p ≡ Some f → IsSome (change_of program m.core p)
    enabled worker p f here is =
        let next : Next program workers m worker p f = held_next program workers m never_later worker p f here is in
        subst (λ (o : Option Change). IsSome o) (sym (change_is program m.core p next.change next.does)) refl

    pub can_go : CanGo program m
    can_go = record {
      steps = λ worker p f here is.
          can_step program (is_taken text program accepted) (uses_are_kinded text program accepted) m run below worker p f here is (enabled worker p f here is);
      points = λ p f is. points_up p f (below p f is);
      tree = (always_rooted program arguments memory workers never events).tree;
      counted = let low = run.within_budget in let most = run.small in omega (arith, low, most);
    }

pub workers_runs_are_safe : WorkersRunsAreSafe
workers_runs_are_safe text program accepted arguments memory given valued workers some events = can_go text program accepted arguments memory given valued workers some events
