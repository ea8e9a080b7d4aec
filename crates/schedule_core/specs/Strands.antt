-- What strands are to a stage: stacks of frames that went on apart, from a worker's frame on.
use Rattle.std.specs.Prelude.{◌≡◌, ℕ, ℤ, length, None, true}
use Rattle.semantics.specs.Events as running
use Rattle.program.specs.declared.function.Program.{Program}
use Rattle.frame_engine.specs.declared.activation.Places.{Places}
use Rattle.frame_engine.specs.Fits.{HasMoves}
use Rattle.schedule_workers.specs.Starts.{ArePlaces}
use Rattle.schedule_commit.specs.strand.strand_pages.Tables.{log_of}
use Rattle.schedule_commit.specs.strand.Along.{IsSettled, IsUnderWay}
use Rattle.schedule_commit.specs.strand.declared.strand.Strand.{Strand}
use Rattle.schedule_workers.specs.Lent.{IsPartFor}
use Rattle.schedule_commit.specs.strands.Fitting.{FitsStrand, HasNoChild, segment_block}
use Rattle.schedule_core.specs.declared.stage.Stage.{Stage}
use Rattle.schedule_core.specs.Stages.{IsState, program_of}

-- for the phi moves of any edge
abbrev pub HasRoomFor : Program → Strand → Type 0
HasRoomFor program x = HasMoves program (length x.moves.items)

-- the strand is under way in the module, whose objects begin at these places, and its frames are as they are published
pub record IsStrandOf (program : Program) (x : Strand) : Type 0 where
  pub places : Places
  pub places_are : ArePlaces program places
  pub way : ∥ IsSettled program places x ∥₁

-- no more than its frames' boxes were written
abbrev pub HasSettled : Strand → Strand → Type 0
HasSettled old new = new ≡ record old { top = new.top; below = new.below; spare = new.spare }

-- the worker runs the base as it was loaded, at its path, without children if it had none, and each cell that was read
-- holds what was read
abbrev pub StrandFits : Stage → ℕ → Strand → Type 0
StrandFits stage worker x = (slot : ℕ) × FitsStrand (program_of stage) stage.run worker x slot

-- The base is the worker's frame, before its first instruction. It is said to have no child where it has none. Its
-- segment is the larger free part at an end of the worker's piece of the cells that are lent.
pub record IsBegun (stage : Stage) (worker : ℕ) (x : Strand) : Type 0 where
  pub way : (places : Places) → ArePlaces (program_of stage) places → ∥ IsUnderWay (program_of stage) places x ∥₁
  pub fits : StrandFits stage worker x
  pub childless : HasNoChild fits.1.node.frame → x.base.childless ≡ true
  pub part : IsPartFor (program_of stage) stage.run worker (segment_block x.cells)
  pub done : x.done ≡ 0
  pub reads : (a : ℤ) → (log_of x.cells.log).reads a ≡ None

abbrev pub RunsNothing : Stage → ℕ → Type 0
RunsNothing stage worker = (m : running.Machine) → IsState stage m → m.hands worker ≡ None
