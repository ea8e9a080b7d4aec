-- The cell for which a strand pauses.
use Rattle.std.specs.Prelude.{◌≡◌, ⊤, Some, None, true, false, ℤ}
use Rattle.semantics.specs.Cells.{Cell}
use Rattle.semantics.specs.Frames.{Does, cell_at, item_at}
use Rattle.linear.specs.declared.form.RegisterId.{RegisterId}
use Rattle.program.specs.declared.function.Program.{Program}
use Rattle.program.specs.declared.instruction.Address.{Address}
use Rattle.program.specs.declared.instruction.Instruction.TheVariants as instruction
use Rattle.frame_engine.specs.declared.activation.Places.{Places}
use Rattle.frame_engine.specs.declared.turning.Pause as engine
use Rattle.frame_engine.specs.declared.turning.Pause.TheVariants as engine_pause
use Rattle.frame_engine.specs.Shows.{IsIn, Layout, address}
use Rattle.strand.specs.frame_strand.declared.cells.CellStop.{CellStop}
use Rattle.strand.specs.frame_strand.declared.cells.CellStop.TheVariants as stop
use Rattle.strand_pages.specs.Logs.{has_place, value_at}
use Rattle.strand_pages.specs.Tables.{log_of}
use Rattle.laws_strands.specs.FrameStrands as frame_strands
use Rattle.laws_strands.specs.FrameStrands.{access_of}
use Rattle.laws_strands.specs.stacks.Strands as strands
use Rattle.strand.specs.Steps.{GoneOn, OfStrands}
use Rattle.strand.specs.declared.cells.StrandCells.{StrandCells}
use Rattle.strand.specs.declared.strand.Strand.{Strand}

-- the strand loads next the cell at the address, one of an object of the machine, which is not at hand, and there is a
-- place for its page
pub record NeedsCell (prog : Program) (l : Layout) (d : strands.Strand) (b : StrandCells) (at : ℤ) : Type 0 where
  pub cell : Cell
  pub living : IsIn l cell
  pub is : at ≡ address l cell
  pub register : RegisterId
  pub place : Address
  pub item : item_at prog d.top.frame.function d.top.frame.block d.top.frame.index
      ≡ Some (Does (instruction.Load register place))
  pub names : cell_at d.top.frame place ≡ Some cell
  pub new : value_at (log_of b.log) at ≡ None
  pub room : has_place (log_of b.log) at ≡ true

-- the cell of an access
abbrev pub Reaches : frame_strands.Access → Cell → Type 0
Reaches frame_strands.Nowhere c = ⊥
Reaches (frame_strands.Loads x) c = x ≡ c
Reaches (frame_strands.Stores x) c = x ≡ c
Reaches (frame_strands.Adds x) c = x ≡ c

-- the strand loads next a cell of an object of the machine, stores to it or adds to it, and there is no place for the
-- cell's page
pub record LacksPage (prog : Program) (l : Layout) (d : strands.Strand) (b : StrandCells) : Type 0 where
  pub cell : Cell
  pub living : IsIn l cell
  pub next : Reaches (access_of prog d.top.frame) cell
  pub full : has_place (log_of b.log) (address l cell) ≡ false

abbrev pub PausesAt : Program → Layout → strands.Strand → StrandCells → engine.Pause CellStop → Type 0
PausesAt prog l d b engine_pause.Border = ⊤
PausesAt prog l d b engine_pause.Limit = ⊤
PausesAt prog l d b (engine_pause.Stopped stop.Full) = LacksPage prog l d b
PausesAt prog l d b (engine_pause.Stopped (stop.Need at)) = NeedsCell prog l d b at

-- the strand goes on to this pause
abbrev pub GoesTo : Program → Places → Strand → Strand → engine.Pause CellStop → Type 0
GoesTo prog places old new r =
    OfStrands prog places old
    (λ l s d. (e : GoneOn l prog places s d new) × PausesAt prog l e.strand new.cells r)
