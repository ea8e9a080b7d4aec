-- What the workers' machine rests on, of each program that the verifier took: its text fits, and its workers can do
-- each next step.
use Rattle.std.specs.Prelude.{◌≡◌, ℕ, ◌<◌, ◌≤◌, List, length, map, Some, ℤ, slice_get}
use Rattle.semantics.specs.Cells.{Memory}
use Rattle.semantics.specs.Events.{start}
use Rattle.program.specs.declared.function.Function.{Function}
use Rattle.program.specs.declared.function.Program.{Program}
use Rattle.schedule_workers.specs.frame_engine.Starts.{alloca_starts, global_starts}
use Rattle.schedule_workers.specs.frame_engine.declared.activation.Places.{Places}
use Rattle.schedule_workers.specs.frame_engine.Fits.{HasMoves}
use Rattle.serial_machine.specs.laws_schedule.Promise.{AreTaken, HasGlobals}
use Rattle.serial_machine.specs.verifier.Accepted.{IsProgramOf}
use Rattle.schedule_workers.specs.Going.{RunsSafely, TextFits}

-- wherever a schedule leads, each worker's frame can do its next step
abbrev pub WorkersRunsAreSafe : Type 0
WorkersRunsAreSafe =
    (text : List ℕ) (program : Program) → IsProgramOf text program → (arguments : List ℤ) (memory : Memory) →
    AreTaken program arguments →
    HasGlobals program memory →
    (workers : ℕ) → 1 ≤ workers → RunsSafely program workers (start program arguments memory)

-- what the text names is there
abbrev pub TextsFit : Type 0
TextsFit =
    (text : List ℕ) (program : Program) → IsProgramOf text program → (places : Places) (moves : ℕ) →
    places.globals ≡ global_starts program.globals →
    places.allocas ≡ map (λ (f : Function). alloca_starts f.allocas) program.functions →
    HasMoves program moves → TextFits program places moves

-- `main` is there, and has an entry and a register for each of these arguments
pub record StartFits (program : Program) (arguments : List ℤ) : Type 0 where
  pub there : program.main.0 < length program.functions
  pub room : (f : Function) → slice_get program.functions program.main.0 ≡ Some f →
      length arguments ≤ length f.registers
  pub entry : (f : Function) → slice_get program.functions program.main.0 ≡ Some f → 0 < length f.blocks

-- so a run can start with each list of arguments that it takes
abbrev pub StartsFit : Type 0
StartsFit = (text : List ℕ) (program : Program) → IsProgramOf text program → (arguments : List ℤ) →
    AreTaken program arguments → StartFits program arguments
