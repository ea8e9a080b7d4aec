-- Each living frame of each state that a schedule leads to is safe, in each program that the verifier takes.
use Rattle.std.specs.Prelude.{◌≡◌, ℕ, ◌≤◌, List, Some, ℤ}
use Rattle.semantics.specs.Paths.{Path}
use Rattle.semantics.specs.Cells.{Memory}
use Rattle.semantics.specs.Frames.{Frame}
use Rattle.semantics.specs.Events.{Machine, Event, start}
use Rattle.semantics.specs.Replay.{replay}
use Rattle.program.specs.declared.function.Program.{Program}
use Rattle.verifier.specs.Accepted.{IsProgramOf}
use Rattle.verifier.specs.Budgets.{budget_of}
use Rattle.laws_schedule.specs.Promise.{AreTaken, HasGlobals}
use Rattle.laws_schedule.specs.safe.Safe.{IsSafe}

pub record IsSafeRun (program : Program) (m : Machine) : Type 0 where
  pub frames : (p : Path) (f : Frame) → m.core.frames p ≡ Some f → IsSafe program (budget_of program) m p f
  -- each cell of the globals has a value
  pub globals : HasGlobals program m.core.memory
  -- instructions done are within the budget, which is a million million at most
  pub within_budget : m.core.done ≤ budget_of program
  pub small : budget_of program ≤ 1000000000000

abbrev pub SchedulesAreSafe : Type 0
SchedulesAreSafe =
    (text : List ℕ) (program : Program) → IsProgramOf text program → (arguments : List ℤ) (memory : Memory) →
    AreTaken program arguments →
    HasGlobals program memory →
    (workers : ℕ) → 1 ≤ workers → (events : List Event) →
    IsSafeRun program (replay program workers events (start program arguments memory))
