-- Where a strand fits a run.
use Rattle.std.specs.Prelude.{◌≡◌, ℕ, Some, length, true}
use Rattle.cactus.specs.declared.node.Node.{Node}
use Rattle.cactus.specs.Frames.{node_at}
use Rattle.schedule_commit.specs.frame_strand.Standing.{IsCopy}
use Rattle.schedule_workers.specs.declared.activation.Activation.{Activation}
use Rattle.schedule_workers.specs.declared.run.Block.{Block}
use Rattle.schedule_workers.specs.declared.run.Run.{Run}
use Rattle.schedule_workers.specs.Lent.{IsFree}
use Rattle.schedule_workers.specs.Scheduling.{counted_in, hand_of}
use Rattle.strand.specs.strand_pages.Committing.{Agrees}
use Rattle.strand.specs.strand_pages.Tables.{log_of}
use Rattle.program.specs.declared.function.Program.{Program}
use Rattle.strand.specs.declared.cells.StrandCells.{StrandCells}
use Rattle.strand.specs.declared.strand.Strand.{Strand}

abbrev pub HasNoChild : Activation → Type 0
HasNoChild a = (region : ℕ) → counted_in a region ≡ 0

abbrev pub segment_block : StrandCells → Block
segment_block x = record { start = x.start; cells = length x.own.items }

-- The worker runs the base, word for word as it was loaded, at its path, without children if it had none, what was read
-- is there, and no frame that lives has its allocas among the strand's.
pub record FitsStrand (prog : Program) (k : Run) (worker : ℕ) (x : Strand) (slot : ℕ) : Type 0 where
  pub node : Node Activation
  pub hand : hand_of k.hands.items worker ≡ Some slot
  pub stands : node_at k.cactus slot ≡ Some node
  pub path : node.path.numbers ≡ x.base.path.items
  pub frame : IsCopy x.base.frame node.frame.frame
  pub childless : x.base.childless ≡ true → HasNoChild node.frame
  pub reads : Agrees (log_of x.cells.log) k.cells.cells.items
  pub free : IsFree prog k (segment_block x.cells)
