-- What the machine rests on, of each program that the verifier took: its text fits, and its serial run can do each next
-- step.
use Rattle.std.specs.Prelude.{◌≡◌, ℕ, ◌≤◌, List, length, map, ℤ, slice_get}
use Rattle.semantics.specs.Cells.{Memory}
use Rattle.semantics.specs.Frames.{Frame, global_cells, item_at}
use Rattle.program.specs.declared.function.Function.{Function}
use Rattle.program.specs.declared.function.Program.{Program}
use Rattle.store.specs.verifier.Accepted.{IsProgramOf}
use Rattle.store.specs.verifier.Budgets.{budget_of}
use Rattle.frame_engine.specs.Fits.{HasMoves}
use Rattle.frame_engine.specs.Operands.{ItemFits}
use Rattle.frame_engine.specs.Starts.{alloca_starts}
use Rattle.frame_engine.specs.declared.activation.Places.{Places}
use Rattle.laws_schedule.specs.Promise.{AreTaken, HasGlobals}
use Rattle.laws_schedule.specs.kinds.Holding.{HasKindedRegisters}
use Rattle.laws_schedule.specs.typing.Kinds.{HasKinds}
use Rattle.serial_stack.specs.Steps.{starting}
use Rattle.serial_stack.specs.Layouts.{size_in}
use Rattle.serial_stack.specs.StackShown.{RunsSafely, TextFits}

-- these sizes are as large as the program's globals
abbrev pub HasCellsOf : Program → List ℕ → Type 0
HasCellsOf program globals = (g : ℕ) → global_cells (slice_get program.globals g) ≤ size_in globals g

-- wherever a serial run comes it can do its next step, within the budget
abbrev pub SerialRunsAreSafe : Type 0
SerialRunsAreSafe =
    (text : List ℕ) (program : Program) → IsProgramOf text program → (arguments : List ℤ) (memory : Memory) →
    AreTaken program arguments →
    HasGlobals program memory →
    (globals : List ℕ) → HasCellsOf program globals → RunsSafely globals program (budget_of program)
    (starting program arguments memory)

-- numbers of i32 that an instruction reads are numbers of that type
abbrev pub ItemsFit : Type 0
ItemsFit = (prog : Program) → HasKinds prog → (f : Frame) → HasKindedRegisters prog f →
    ItemFits f (item_at prog f.function f.block f.index)

-- what the text names is there
abbrev pub TextsFit : Type 0
TextsFit =
    (text : List ℕ) (program : Program) → IsProgramOf text program → (places : Places) (moves : ℕ) →
    length program.globals ≤ length places.globals →
    places.allocas ≡ map (λ (f : Function). alloca_starts f.allocas) program.functions →
    HasMoves program moves → TextFits program places moves
