-- A worker's frame may go on apart from the machine, by itself and over borders, in each program that the verifier
-- takes.
use Rattle.std.specs.Prelude.{◌≡◌, ℕ, ◌+◌, ◌≤◌, List, Option, Some, ℤ}
use Rattle.semantics.specs.Cells.{Object, Memory}
use Rattle.semantics.specs.State.{State}
use Rattle.semantics.specs.Events.{Machine, Event, start}
use Rattle.semantics.specs.Replay.{replay}
use Rattle.semantics.specs.Frames.{Does, item_at}
use Rattle.linear.specs.declared.form.RegisterId.{RegisterId}
use Rattle.program.specs.declared.identifier.FunctionId.{FunctionId}
use Rattle.program.specs.declared.instruction.Argument.{Argument}
use Rattle.program.specs.declared.instruction.Instruction.TheVariants as instruction
use Rattle.program.specs.declared.function.Program.{Program}
use Rattle.serial_machine.specs.verifier.Accepted.{IsProgramOf}
use Rattle.serial_machine.specs.laws_schedule.Promise.{AreTaken, HasGlobals}
use Rattle.serial_machine.specs.laws_schedule.safe.Kept.{IsWithin}
use Rattle.schedule_workers.specs.Going.{PointsUp}
use Rattle.schedule_workers.specs.Layouts.{living}
use Rattle.schedule_workers.specs.Starts.{ArePlaces}
use Rattle.schedule_commit.specs.Absorbing.{GoesAloneIn}
use Rattle.frame_engine.specs.Arguments.{ArgumentsAreWhole}
use Rattle.frame_engine.specs.Shows.{Layout}
use Rattle.frame_engine.specs.declared.activation.Places.{Places}
use Rattle.schedule_commit.specs.frame_strand.Alone.{StaysSafeAlone}
use Rattle.laws_strands.specs.stacks.Strands.{Strand, IsStrand}
use Rattle.laws_strands.specs.stacks.Law.{Runs, absorbed}
use Rattle.schedule_commit.specs.strand.Along.{LoadsGoAsStrands}

-- ---- by itself

-- wherever a schedule leads
abbrev pub FramesGoAlone : Type 0
FramesGoAlone =
    (text : List ℕ) (program : Program) → IsProgramOf text program → (arguments : List ℤ) (memory : Memory) →
    AreTaken program arguments →
    HasGlobals program memory → (workers : ℕ) → 1 ≤ workers → (events : List Event) →
    GoesAloneIn program (replay program workers events (start program arguments memory))

-- ---- over borders

-- the objects that live in a state, wherever they begin
abbrev pub laid_out : (Object → ℤ) → Program → State → Layout
laid_out at prog s = record { at = at; cells = living prog s }

-- what a strand's top frame does next is safe, and so is each plain step after it, with any numbers in the cells of
-- living objects at each of them
pub record IsSafeStrand (prog : Program) (m : Machine) (w : ℕ) (d : Strand) : Type 0 where
  pub alone : (at : Object → ℤ) → StaysSafeAlone prog (laid_out at prog (absorbed m w d).core) d.top.path d.top.frame
  -- a call passes whole objects
  pub whole : (register : Option RegisterId) (callee : FunctionId) (arguments : List Argument) →
      item_at prog d.top.frame.function d.top.frame.block d.top.frame.index
      ≡ Some (Does (instruction.Call register callee arguments)) →
      ArgumentsAreWhole d.top.frame arguments
  -- what it points to does not go before it
  pub points : PointsUp d.top.path d.top.frame
  -- no number of it is above the instructions done
  pub counted : IsWithin (d.done + m.core.done) d.top.path d.top.frame

-- wherever a strand of a worker's frame comes, whatever it read on the way
abbrev pub StaysSafeAsStrands : Program → Machine → Type 0
StaysSafeAsStrands prog m = (w : ℕ) (d : Strand) → IsStrand prog d → Runs m w d → IsSafeStrand prog m w d

-- wherever a schedule leads
abbrev pub FramesGoAsStrands : Type 0
FramesGoAsStrands =
    (text : List ℕ) (program : Program) → IsProgramOf text program → (arguments : List ℤ) (memory : Memory) →
    AreTaken program arguments →
    HasGlobals program memory → (workers : ℕ) → 1 ≤ workers → (events : List Event) →
    StaysSafeAsStrands program (replay program workers events (start program arguments memory))

-- ---- as the base of a strand

-- wherever a schedule leads
abbrev pub LoadedFramesGoAsStrands : Type 0
LoadedFramesGoAsStrands =
    (text : List ℕ) (program : Program) → IsProgramOf text program → (places : Places) → ArePlaces program places →
    (arguments : List ℤ) (memory : Memory) →
    AreTaken program arguments → HasGlobals program memory → (workers : ℕ) → 1 ≤ workers → (events : List Event) →
    LoadsGoAsStrands program places
    (living program (replay program workers events (start program arguments memory)).core)
    (replay program workers events (start program arguments memory))
