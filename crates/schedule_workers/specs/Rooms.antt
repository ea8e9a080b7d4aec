-- Room for the allocas of a frame that is called.
use Rattle.std.specs.Prelude.{◌≡◌, ℕ, ◌+◌, ◌<◌, ◌≤◌, ◌++◌, length, replicate, ◌⊎◌, Some, pos, slice_get}
use Rattle.schedule_workers.specs.declared.run.Block.{Block}
use Rattle.schedule_workers.specs.declared.run.Run.{Run}

-- of a slot whose frames needed no cells yet
abbrev pub empty_at : ℕ → Block
empty_at end = record { start = end; cells = 0 }

-- the run with more cells that belong to no block, and with more slots' blocks, which are empty
pub record IsRoomier (old new : Run) : Type 0 where
  pub only : new ≡ record old { cells = new.cells; blocks = new.blocks }
  pub cells : (n : ℕ) × (new.cells.cells.items ≡ old.cells.cells.items ++ replicate n (pos 0))
  pub blocks : (n : ℕ) × (new.blocks.items ≡ old.blocks.items ++ replicate n (empty_at old.end))

-- a block for so many cells in the slot: the slot's own, or one at the end
pub record IsRoom (k : Run) (slot cells : ℕ) (b : Block) : Type 0 where
  pub there : slot < length k.blocks.items
  pub room : cells ≤ b.cells
  pub is : (slice_get k.blocks.items slot ≡ Some b) ⊎ (b.start ≡ k.end)
  pub end : k.end ≤ length k.cells.cells.items
  pub within : b.start + b.cells ≤ length k.cells.cells.items
