-- At which syncs frames are stalled: in the blocks of their last instructions, which a list of events tells.
use Rattle.std.specs.Prelude.{◌≡◌, ℕ, List, [], ◌∷◌, Option, Some, None, Bool, cond}
use Rattle.std.specs.Option.{option_map}
use Rattle.semantics.specs.Paths.{Path}
use Rattle.semantics.specs.Frames.{Frame}
use Rattle.semantics.specs.Events as running
use Rattle.semantics.specs.Replay.{or_unchanged}
use Rattle.program.specs.declared.function.Program.{Program}
use Rattle.program.specs.declared.identifier.BlockId.{BlockId}
use Rattle.linear.specs.declared.form.RegisterId.{RegisterId}
use Rattle.frame.specs.declared.frame.Wait.TheVariants.{Region}
use Rattle.cactus.specs.declared.node.Node.{Node}
use Rattle.cactus.specs.Frames.{Frames, node_at}
use Rattle.schedule_workers.specs.declared.activation.Activation.{Activation}
use Rattle.schedule_workers.specs.RunShown.{place_of}

-- ---- by the definitions

-- by path: the block in which the frame did its last instruction, once it has done one
abbrev pub Blocks : Type 0
Blocks = Path → Option ℕ

abbrev pub no_blocks : Blocks
no_blocks p = None

-- the block at which the frame stands
abbrev pub block_of : Option Frame → Option ℕ
block_of None = None
block_of (Some f) = Some f.block

-- after an event that is enabled: a step is an instruction of the frame in the worker's hand
abbrev pub noted : running.Event → running.Machine → Blocks → Blocks
noted (running.Step w) m last p = cond (running.is_place (m.hands w) p) (block_of (m.core.frames p)) (last p)
noted (running.Steal w t) m last p = last p

abbrev pub if_enabled : Option running.Machine → Blocks → Blocks → Blocks
if_enabled None did last = last
if_enabled (Some after) did last = did

-- after the events of a schedule; one that is not enabled does no instruction
abbrev pub last_blocks : Program → ℕ → List running.Event → running.Machine → Blocks → Blocks
last_blocks prog workers [] m last = last
last_blocks prog workers (e ∷ events) m last =
    last_blocks prog workers events (or_unchanged (running.event prog workers e m) m)
    (if_enabled (running.event prog workers e m) (noted e m last) last)

-- ---- in the slots

-- a frame that waits for children, and that no worker runs, is stalled at the sync that ends this block
abbrev pub IsStalledIn : Option ℕ → Activation → Type 0
IsStalledIn last a =
    (region : RegisterId) → a.runner ≡ None → a.frame.waits ≡ Region region →
    option_map (λ (block : BlockId). block.0) a.stalled_in ≡ last

-- each frame that is stalled is so at the sync that was its last instruction
abbrev pub StallsAgree : Blocks → Frames Activation → Type 0
StallsAgree last frames = (slot : ℕ) (node : Node Activation) → node_at frames slot ≡ Some node →
    IsStalledIn (last (place_of node)) node.frame

-- after an event of this machine that is done, or not
abbrev pub NotesStalls : running.Event → running.Machine → Frames Activation → Frames Activation → Bool → Type 0
NotesStalls e m old new done = (last : Blocks) → StallsAgree last old →
    StallsAgree (cond done (noted e m last) last) new

abbrev pub KeepsStalls : Frames Activation → Frames Activation → Type 0
KeepsStalls old new = (last : Blocks) → StallsAgree last old → StallsAgree last new
