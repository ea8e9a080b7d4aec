-- A strand under way that stands at a pause.
use Rattle.std.specs.Prelude.{⊤}
use Rattle.semantics.specs.Frames.{Frame}
use Rattle.program.specs.declared.function.Program.{Program}
use Rattle.frame_engine.specs.declared.activation.Places.{Places}
use Rattle.frame_engine.specs.Shows.{Layout}
use Rattle.laws_strands.specs.stacks.Strands as strands
use Rattle.strand.specs.Along.{GoesAsStrandFrom, IsUnderWay}
use Rattle.strand.specs.Needs.{LacksPage, NeedsCell}
use Rattle.strand.specs.declared.cells.StrandCells.{StrandCells}
use Rattle.strand.specs.declared.strand.Strand.{Strand}
use Rattle.strand.specs.declared.going.StrandPause.{StrandPause}
use Rattle.strand.specs.declared.going.StrandPause.TheVariants as pause

-- what stands in its way; of a border the strand itself tells (`NeedsBoard`), and at the limit nothing does
abbrev pub Stopped : Program → Layout → strands.Strand → StrandCells → StrandPause → Type 0
Stopped prog l d b pause.Border = ⊤
Stopped prog l d b pause.Limit = ⊤
Stopped prog l d b pause.Full = LacksPage prog l d b
Stopped prog l d b (pause.Need at) = NeedsCell prog l d b at

pub record IsGoing (prog : Program) (places : Places) (x : Strand) (r : StrandPause) : Type 0 where
  pub way : IsUnderWay prog places x
  pub stops : (l : Layout) (g : Frame) (goes : GoesAsStrandFrom prog places l g x) →
      Stopped prog l (way.along l g goes).strand x.cells r

-- at each pause it stands as before
abbrev pub GoesStill : Program → Places → Strand → Strand → Type 0
GoesStill prog places old new = (r : StrandPause) → ∥ IsGoing prog places old r ∥₁ → ∥ IsGoing prog places new r ∥₁
