-- What a run comes to that takes over a strand.
use Rattle.std.specs.Prelude.{ℕ, length}
use Rattle.semantics.specs.Events.{Machine}
use Rattle.program.specs.declared.function.Program.{Program}
use Rattle.laws_strands.specs.Law.{Happen, steps_by}
use Rattle.laws_strands.specs.stacks.Strands as strands
use Rattle.laws_strands.specs.stacks.Strands.{IsStrand}
use Rattle.laws_strands.specs.stacks.Law.{IsOrderly, absorbed}
use Rattle.frame_engine.specs.declared.activation.Places.{Places}
use Rattle.schedule_workers.specs.declared.run.Run.{Run}
use Rattle.schedule_workers.specs.Going.{RunsSafely}
use Rattle.schedule_workers.specs.Layouts.{layout_of, living}
use Rattle.schedule_workers.specs.RunShown.{IsShown}
use Rattle.schedule_workers.specs.Stalls.{Blocks, StallsAgree, last_blocks}
use Rattle.strand.specs.Along.{LoadsGoAsStrands}
use Rattle.strand.specs.OwnCells.{segment_of}
use Rattle.strand.specs.Boxes.{ShowsStrand}
use Rattle.strand.specs.declared.strand.Strand.{Strand}

-- a worker's frame of the machine may be loaded as the base of a strand
abbrev pub GoAsStrandsIn : Program → Places → Machine → Type 0
GoAsStrandsIn prog places m = LoadsGoAsStrands prog places (living prog m.core) m

-- some machine is shown, from which each schedule is safe, and whose workers' frames may go on as strands
pub record StandsForStrands (prog : Program) (places : Places) (k : Run) : Type 0 where
  pub machine : Machine
  pub shown : IsShown prog places machine k
  pub safe : RunsSafely prog (length k.hands.items) machine
  pub orderly : IsOrderly machine
  pub loads : GoAsStrandsIn prog places machine

-- it is a strand of the definitions, whose instructions happen as steps of the worker, and the machine that absorbed it
-- is shown
pub record Absorbs (prog : Program) (places : Places) (old new : Run) (worker : ℕ) (x : Strand)
    (m : Machine) : Type 0 where
  pub strand : strands.Strand
  pub is : IsStrand prog strand
  pub shows : ShowsStrand (layout_of prog places old.cactus m.core) prog places (segment_of x.cells) strand x
  pub steps : Happen prog (length old.hands.items) (steps_by worker x.done) m (absorbed m worker strand)
  pub shown : IsShown prog places (absorbed m worker strand) new

-- whatever machine is shown
abbrev pub DoesStrand : Program → Places → Run → Run → ℕ → Strand → Type 0
DoesStrand prog places old new worker x =
    (m : Machine) → IsShown prog places m old → RunsSafely prog (length old.hands.items) m → IsOrderly m →
    GoAsStrandsIn prog places m →
    Absorbs prog places old new worker x m

-- whatever machine is shown, frames that are stalled are so at their last instructions, after the strand's steps
abbrev pub LeavesStallsByStrand : Program → Places → Run → Run → ℕ → Strand → Type 0
LeavesStallsByStrand prog places old new worker x =
    (m : Machine) → IsShown prog places m old → RunsSafely prog (length old.hands.items) m → IsOrderly m →
    GoAsStrandsIn prog places m →
    (last : Blocks) → StallsAgree last old.cactus →
    StallsAgree (last_blocks prog (length old.hands.items) (steps_by worker x.done) m last) new.cactus
