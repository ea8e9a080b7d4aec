-- What a detach and a reattach make of the frames.
use Rattle.std.specs.Prelude.{◌≡◌, ℕ, ◌+◌, ◌-◌, Option, Some, None, Bool, false, ◌&&◌, eqb}
use Rattle.linear.specs.declared.form.RegisterId.{RegisterId}
use Rattle.program.specs.declared.identifier.BlockId.{BlockId}
use Rattle.frame.specs.declared.frame.Role.TheVariants.{Child}
use Rattle.frame.specs.declared.frame.Wait.{Wait}
use Rattle.frame.specs.declared.frame.Wait.TheVariants as wait
use Rattle.sync_join.specs.declared.count.Parent.{Parent}
use Rattle.sync_join.specs.declared.count.Parent.TheVariants as parent
use Rattle.frame_engine.specs.declared.activation.Frame.{Frame}

-- the child of the parent's detach, with the parent's registers and home
pub record IsChildFrame (parent : Frame) (region : RegisterId) (child continuation : BlockId) (f : Frame) : Type 0 where
  pub is : f ≡ record parent {
    place = record { block = child; index = 0 };
    registers = f.registers;
    made = 0;
    waits = wait.Nothing;
    role = Child region continuation;
    depth = parent.depth + 1;
  }
  pub registers : f.registers.items ≡ parent.registers.items

-- a frame that no worker runs, once a child of it ended
abbrev pub resumed_unheld : Wait → ℕ → ℕ → ℕ → ℕ → Bool
resumed_unheld wait.Nothing made left child region = eqb made (child + 1)
resumed_unheld (wait.Region awaited) made left child region = eqb awaited.0 region && eqb left 0
resumed_unheld (wait.Call callee register) made left child region = false

-- whether the child's worker goes on with the parent: nobody runs it, and the child was its newest, or the last of its
-- sync's region
abbrev pub resumed_by_child : Option ℕ → Wait → ℕ → ℕ → ℕ → ℕ → Bool
resumed_by_child None waits made left child region = resumed_unheld waits made left child region
resumed_by_child (Some worker) waits made left child region = false

-- how a child finds its parent
abbrev pub unheld_parent : Wait → ℕ → Parent
unheld_parent wait.Nothing made = parent.Ready (made - 1)
unheld_parent (wait.Region region) made = parent.Stalled region.0
unheld_parent (wait.Call callee register) made = parent.Busy

abbrev pub parent_of : Option ℕ → Wait → ℕ → Parent
parent_of None waits made = unheld_parent waits made
parent_of (Some worker) waits made = parent.Busy
