-- How the machine's run shows a machine of the definitions.
use Rattle.std.specs.Prelude.{◌≡◌, ◌≢◌, ◌↔◌, ⊤, ℕ, ◌+◌, ◌<◌, ◌≤◌, List, [], ◌∷◌, ◌++◌, length, reverse, map, sum, ◌⊎◌}
use Rattle.std.specs.Prelude.{Option, Some, None, pos}
use Rattle.std.specs.Prelude.{option_and_then, slice_get}
use Rattle.std.specs.Option.{option_map}
use Rattle.semantics.specs.Paths.{Path}
use Rattle.semantics.specs.Frames.{Item, item_at}
use Rattle.semantics.specs.Frames as frames
use Rattle.semantics.specs.Counts.{count_of}
use Rattle.semantics.specs.Events.{Machine}
use Rattle.program.specs.declared.function.Alloca.{Alloca}
use Rattle.program.specs.declared.function.Function.{Function}
use Rattle.program.specs.declared.function.Global.{Global}
use Rattle.program.specs.declared.function.Program.{Program}
use Rattle.frame.specs.declared.frame.Role.TheVariants.{Body}
use Rattle.frame.specs.declared.frame.Wait.{Wait}
use Rattle.frame.specs.declared.frame.Wait.TheVariants as wait
use Rattle.frame.specs.Reading.{wait_of}
use Rattle.cactus.specs.declared.node.Node.{Node}
use Rattle.cactus.specs.Frames.{Frames, node_at, Lives}
use Rattle.cactus.specs.ByPath.{named, IsTree}
use Rattle.frame_engine.specs.declared.activation.Frame.{Frame}
use Rattle.frame_engine.specs.declared.activation.Places.{Places}
use Rattle.frame_engine.specs.Activation.{FrameFits, ShowsFrame}
use Rattle.frame_engine.specs.Flat.{cell_in, is_cell}
use Rattle.frame_engine.specs.Names.{HasResult}
use Rattle.frame_engine.specs.Shows.{Layout, ShowsCells}
use Rattle.schedule_workers.specs.declared.activation.Activation.{Activation}
use Rattle.schedule_workers.specs.declared.run.Block.{Block}
use Rattle.schedule_workers.specs.declared.run.Run.{Run}
use Rattle.schedule_workers.specs.Scheduling.{hand_of, counted_in}
use Rattle.schedule_workers.specs.Layouts.{layout_of}

-- what stands at a frame's place
abbrev pub item_here : Program → Frame → Option Item
item_here prog f = item_at prog f.function.0 f.place.block.0 f.place.index

-- the path of a node, innermost number first
abbrev pub place_of : Node Activation → Path
place_of node = reverse node.path.numbers

abbrev pub hands_of : Frames Activation → List (Option ℕ) → ℕ → Option Path
hands_of frames hands worker = option_and_then (λ slot. option_map place_of (node_at frames slot))
    (hand_of hands worker)

-- ---- what is shown

pub record ShowsNode (l : Layout) (places : Places) (p : Path) (g : frames.Frame) (f : Frame) : Type 0 where
  pub shown : ShowsFrame l places p g f
  pub waits : g.waits ≡ wait_of f.waits

-- what stands at a path, in the definitions and in the slots
abbrev pub ShowsAt : Layout → Places → Path → Option frames.Frame → Option (Node Activation) → Type 0
ShowsAt l places p None None = ⊤
ShowsAt l places p None (Some node) = ⊥
ShowsAt l places p (Some g) None = ⊥
ShowsAt l places p (Some g) (Some node) = ShowsNode l places p g node.frame.frame

pub record ShowsMachine (prog : Program) (places : Places) (m : Machine) (k : Run) : Type 0 where
  pub frames : (p : Path) → ShowsAt (layout_of prog places k.cactus m.core) places p (m.core.frames p)
      (named k.cactus (reverse p))
  pub cells : ShowsCells (layout_of prog places k.cactus m.core) (is_cell k.cells.cells.items)
      (λ a z. cell_in k.cells.cells.items a ≡ Some z) m.core.memory
  pub done : m.core.done ≡ k.instructions
  pub peak : m.core.peak ≡ k.peak
  pub result : m.core.result ≡ k.result
  pub hands : (w : ℕ) → m.hands w ≡ hands_of k.cactus k.hands.items w
  pub trapped : m.trapped ≡ None

-- ---- how slots, hands, callees, counts and blocks agree

-- a frame that waits for a call has the callee's slot
abbrev pub CalleeStands : Frames Activation → Node Activation → Wait → Option ℕ → Type 0
CalleeStands frames node wait.Nothing callee = callee ≡ None
CalleeStands frames node (wait.Region region) callee = callee ≡ None
CalleeStands frames node (wait.Call child register) callee =
    (slot : ℕ) × (called : Node Activation) × (callee ≡ Some slot) × (node_at frames slot ≡ Some called) ×
    (called.path.numbers ≡ node.path.numbers ++ child ∷ [])

-- and one of so many registers for its result
abbrev pub HasTaker : ℕ → Wait → Type 0
HasTaker registers wait.Nothing = ⊤
HasTaker registers (wait.Region region) = ⊤
HasTaker registers (wait.Call child register) = HasResult registers register

pub record NodeFits (prog : Program) (frames : Frames Activation) (node : Node Activation) : Type 0 where
  pub fits : FrameFits prog node.frame.frame
  pub callee : CalleeStands frames node node.frame.frame.waits node.frame.callee
  pub taker : (g : Function) → slice_get prog.functions node.frame.frame.function.0 ≡ Some g →
      HasTaker (length g.registers) node.frame.frame.waits
  pub counts : (g : Function) → slice_get prog.functions node.frame.frame.function.0 ≡ Some g →
      length node.frame.counts.items ≡ length g.registers

abbrev pub cells_in : Option Function → ℕ
cells_in None = 0
cells_in (Some f) = sum (map (λ (a : Alloca). a.cells) f.allocas)

-- the frame's home is the start of the block, which has room for its allocas
pub record IsBlockOf (prog : Program) (f : Frame) (b : Block) : Type 0 where
  pub home : f.home ≡ pos b.start
  pub room : cells_in (slice_get prog.functions f.function.0) ≤ b.cells

-- the block lies within another
abbrev pub LiesWithin : Block → Block → Type 0
LiesWithin outer b = (outer.start ≤ b.start) × (b.start + b.cells ≤ outer.start + outer.cells)

-- the slot's block, or a part of the cells that are lent to workers
abbrev pub IsPlaced : List Block → Block → ℕ → Block → Type 0
IsPlaced blocks lent slot b = (slice_get blocks slot ≡ Some b) ⊎ LiesWithin lent b

-- a function's frame that has cells has its slot's block, or a part of what is lent
abbrev pub HasBlock : Program → List Block → Block → ℕ → Frame → Type 0
HasBlock prog blocks lent slot f =
    f.role ≡ Body → 0 < cells_in (slice_get prog.functions f.function.0) → (b : Block) × IsPlaced blocks lent slot b ×
    IsBlockOf prog f b

abbrev pub AreBeside : Block → Block → Type 0
AreBeside a b = (a.start + a.cells ≤ b.start) ⊎ (b.start + b.cells ≤ a.start)

-- blocks lie after the globals, one beside the other, and the frames that have cells have theirs
pub record BlocksStand (prog : Program) (k : Run) : Type 0 where
  pub owned : (slot : ℕ) (node : Node Activation) → node_at k.cactus slot ≡ Some node →
      HasBlock prog k.blocks.items k.lent slot node.frame.frame
  pub below : (slot : ℕ) (b : Block) → slice_get k.blocks.items slot ≡ Some b → b.start + b.cells ≤ k.end
  pub globals : sum (map (λ (g : Global). g.cells) prog.globals) ≤ k.end
  pub after : (slot : ℕ) (b : Block) → slice_get k.blocks.items slot ≡ Some b →
      sum (map (λ (g : Global). g.cells) prog.globals) ≤ b.start
  pub beside : (slot other : ℕ) (a b : Block) → slice_get k.blocks.items slot ≡ Some a →
      slice_get k.blocks.items other ≡ Some b →
      slot ≢ other → AreBeside a b
  -- what is lent lies after the globals, beside all blocks
  pub lent_after : sum (map (λ (g : Global). g.cells) prog.globals) ≤ k.lent.start
  pub lent_below : k.lent.start + k.lent.cells ≤ k.end
  pub lent_beside : (slot : ℕ) (b : Block) → slice_get k.blocks.items slot ≡ Some b → AreBeside b k.lent

pub record Agrees (prog : Program) (m : Machine) (k : Run) : Type 0 where
  pub tree : IsTree k.cactus
  pub held : (worker slot : ℕ) → hand_of k.hands.items worker ≡ Some slot → Lives k.cactus slot
  pub runners : (slot worker : ℕ) (node : Node Activation) → node_at k.cactus slot ≡ Some node →
      (node.frame.runner ≡ Some worker) ↔ (hand_of k.hands.items worker ≡ Some slot)
  pub nodes : (slot : ℕ) (node : Node Activation) → node_at k.cactus slot ≡ Some node → NodeFits prog k.cactus node
  -- what a frame counts within a region is the number of its living children there
  pub counts : (slot region : ℕ) (node : Node Activation) → node_at k.cactus slot ≡ Some node →
      counted_in node.frame region ≡ count_of m.core (place_of node) region
  -- an instruction makes one frame at most
  pub made : k.cactus.made ≤ k.instructions + 1
  pub blocks : BlocksStand prog k

-- the run shows the machine, and its parts agree
pub record IsShown (prog : Program) (places : Places) (m : Machine) (k : Run) : Type 0 where
  pub shows : ShowsMachine prog places m k
  pub agrees : Agrees prog m k
