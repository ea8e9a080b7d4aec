-- Cells that are lent to workers, and which part of them no living frame has.
use Rattle.std.specs.Prelude.{◌≡◌, ◌≢◌, ◌⊎◌, ℕ, ◌+◌, ◌*◌, ◌/◌, ◌<◌, ◌≤◌, length, Some, slice_get, ℤ, pos, negsuc}
use Rattle.program.specs.declared.function.Program.{Program}
use Rattle.frame.specs.declared.frame.Role.TheVariants.{Body}
use Rattle.cactus.specs.declared.node.Node.{Node}
use Rattle.cactus.specs.Frames.{node_at}
use Rattle.frame_engine.specs.declared.activation.Frame.{Frame}
use Rattle.schedule_workers.specs.declared.activation.Activation.{Activation}
use Rattle.schedule_workers.specs.declared.run.Block.{Block}
use Rattle.schedule_workers.specs.declared.run.Run.{Run}
use Rattle.schedule_workers.specs.RunShown.{AreBeside, LiesWithin, cells_in}

-- the place in the row
abbrev pub place_at : ℤ → ℕ
place_at (pos n) = n
place_at (negsuc n) = 0

-- the allocas of a function's frame, from its home on
abbrev pub own_block : Program → Frame → Block
own_block prog f = record { start = place_at f.home; cells = cells_in (slice_get prog.functions f.function.0) }

-- a function's frame that has allocas has them beside the part; a detached child has none of its own
abbrev pub IsClearOf : Program → Block → Frame → Type 0
IsClearOf prog part f = f.role ≡ Body → 0 < cells_in (slice_get prog.functions f.function.0) →
    AreBeside (own_block prog f) part

abbrev pub AllAreClearOf : Program → Run → Block → Type 0
AllAreClearOf prog k part = (slot : ℕ) (node : Node Activation) → node_at k.cactus slot ≡ Some node →
    IsClearOf prog part node.frame.frame

-- a part of what is lent, in which no living frame has its allocas
pub record IsVacant (prog : Program) (k : Run) (part : Block) : Type 0 where
  pub within : LiesWithin k.lent part
  pub row : k.end ≤ length k.cells.cells.items
  pub apart : AllAreClearOf prog k part

-- a worker may have the part for frames that it makes apart from the run
pub record IsFree (prog : Program) (k : Run) (part : Block) : Type 0 where
  pub row : part.start + part.cells ≤ length k.cells.cells.items
  pub vacant : 0 < part.cells → IsVacant prog k part

-- ---- what is lent to whom

-- where nothing was lent, so many cells are from now on, and stand in the row; else nothing changes
abbrev pub Lends : ℕ → Run → Run → Type 0
Lends cells old new =
    (old.lent.cells ≡ 0 → (new.lent ≡ record { start = old.end; cells = cells }) × (new.end ≡ old.end + cells) ×
    (new.end ≤ length new.cells.cells.items)) ×
    (old.lent.cells ≢ 0 → new ≡ old)

-- the worker's piece of what is lent: as many cells for each worker, one worker's after the other's
abbrev pub piece_of : Run → ℕ → Block
piece_of k worker =
    record {
      start = k.lent.start + k.lent.cells / length k.hands.items * worker;
      cells =
          k.lent.cells / length k.hands.items;
    }

-- the part begins where the piece does, or ends where it does
abbrev pub IsAtEnd : Block → Block → Type 0
IsAtEnd piece part = (part.start ≡ piece.start) ⊎ (part.start + part.cells ≡ piece.start + piece.cells)

-- a free part of the worker's piece; none at an end of the piece is larger, so it is empty only where allocas of living
-- frames have both ends
pub record IsPartFor (prog : Program) (k : Run) (worker : ℕ) (part : Block) : Type 0 where
  pub free : IsFree prog k part
  pub within : 0 < part.cells → LiesWithin (piece_of k worker) part
  pub most : (other : Block) → LiesWithin (piece_of k worker) other → IsFree prog k other →
      IsAtEnd (piece_of k worker) other → other.cells ≤ part.cells
