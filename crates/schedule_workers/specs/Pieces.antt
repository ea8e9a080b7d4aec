-- For the functions of this crate alone: a worker's piece of what is lent, and where living frames have allocas in it.
use Rattle.std.specs.Prelude.{◌≡◌, ◌⊎◌, ℕ, ◌+◌, ◌<◌, ◌≤◌, length, Some, slice_get}
use Rattle.program.specs.declared.function.Program.{Program}
use Rattle.frame.specs.declared.frame.Role.TheVariants.{Body}
use Rattle.cactus.specs.declared.node.Node.{Node}
use Rattle.cactus.specs.Frames.{node_at}
use Rattle.frame_engine.specs.declared.activation.Frame.{Frame}
use Rattle.schedule_workers.specs.declared.activation.Activation.{Activation}
use Rattle.schedule_workers.specs.declared.pieces.Taken.{Taken}
use Rattle.schedule_workers.specs.declared.run.Block.{Block}
use Rattle.schedule_workers.specs.declared.run.Run.{Run}
use Rattle.schedule_workers.specs.Lent.{own_block, piece_of}
use Rattle.schedule_workers.specs.RunShown.{LiesWithin}

-- from the start of the worker's piece on, lent and in the row
pub record IsUsable (k : Run) (worker : ℕ) (b : Block) : Type 0 where
  pub start : b.start ≡ (piece_of k worker).start
  pub piece : LiesWithin (piece_of k worker) b
  pub lent : LiesWithin k.lent b
  pub row : b.start + b.cells ≤ length k.cells.cells.items
  pub end : k.end ≤ length k.cells.cells.items

-- each such part of the worker's piece lies within it
abbrev pub HoldsUsable : Run → ℕ → Block → Type 0
HoldsUsable k worker b =
    (other : Block) → 0 < other.cells → LiesWithin (piece_of k worker) other → LiesWithin k.lent other →
    other.start + other.cells ≤ length k.cells.cells.items → k.end ≤ length k.cells.cells.items → LiesWithin b other

abbrev pub own_end : Program → Frame → ℕ
own_end prog f = (own_block prog f).start + (own_block prog f).cells

-- the frame has allocas between the start and the limit
pub record Touches (prog : Program) (start limit : ℕ) (f : Frame) : Type 0 where
  pub body : f.role ≡ Body
  pub some : 0 < (own_block prog f).cells
  pub before : (own_block prog f).start < limit
  pub behind : start < own_end prog f

-- what it has there is taken
abbrev pub Covers : Program → ℕ → ℕ → Frame → Taken → Type 0
Covers prog start limit f t = Touches prog start limit f → (t.from ≤ (own_block prog f).start) ×
    ((own_end prog f ≤ t.to) ⊎ (limit ≤ t.to))

-- with the frame's allocas
pub record IsWithFrame (prog : Program) (start limit : ℕ) (f : Frame) (old new : Taken) : Type 0 where
  pub from_down : new.from ≤ old.from
  pub to_up : old.to ≤ new.to
  pub covers : Covers prog start limit f new
  pub from : (new.from ≡ old.from) ⊎ (Touches prog start limit f × (new.from ≡ (own_block prog f).start))
  pub to : (new.to ≡ old.to) ⊎ (Touches prog start limit f × (new.to ≤ own_end prog f))

-- some living frame has this
abbrev pub HasFrame : Run → (Frame → Type 0) → Type 0
HasFrame k P = (slot : ℕ) × (node : Node Activation) × (node_at k.cactus slot ≡ Some node) × P node.frame.frame

-- from the first place to behind the last one that a living frame has between the start and the limit
pub record IsTaken (prog : Program) (k : Run) (start limit : ℕ) (t : Taken) : Type 0 where
  pub low : t.from ≤ limit
  pub high : start ≤ t.to
  pub covers : (slot : ℕ) (node : Node Activation) → node_at k.cactus slot ≡ Some node →
      Covers prog start limit node.frame.frame t
  pub from : (t.from ≡ limit) ⊎ HasFrame k (λ f. Touches prog start limit f × (t.from ≡ (own_block prog f).start))
  pub to : (t.to ≡ start) ⊎ HasFrame k (λ f. Touches prog start limit f × (t.to ≤ own_end prog f))
