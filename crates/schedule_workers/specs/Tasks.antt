-- Tasks by slots: a frame that no call made, with the frames called on top of it.
use Rattle.std.specs.Prelude.{◌≡◌, ◌≢◌, ◌<◌, ◌⊎◌, ℕ, zero, suc, List, length, Option, Some, None, IsSomeAnd}
use Rattle.std.specs.Vec.{with_item}
use Rattle.frame.specs.declared.path.Path.{Path}
use Rattle.frame.specs.declared.frame.Role.TheVariants.{Body}
use Rattle.frame.specs.declared.frame.Wait.TheVariants.{Nothing}
use Rattle.cactus.specs.declared.node.Node.{Node}
use Rattle.cactus.specs.Frames.{Frames, node_at, frame_at, HasNoPath}
use Rattle.cactus.specs.Lending.{with_frame}
use Rattle.schedule_workers.specs.declared.activation.Activation.{Activation}
use Rattle.schedule_workers.specs.declared.run.Run.{Run}
use Rattle.schedule_workers.specs.Scheduling.{hand_of}

-- the root, or a detached child
abbrev pub IsLowest : Node Activation → Type 0
IsLowest node = (node.parent ≡ None) ⊎ (node.frame.frame.role ≢ Body)

-- ---- the top of a task

abbrev pub by_call : (ℕ → Option ℕ) → ℕ → Option ℕ → Option ℕ
by_call next slot None = Some slot
by_call next slot (Some callee) = next callee

abbrev pub by_callee : (ℕ → Option ℕ) → ℕ → Option (Node Activation) → Option ℕ
by_callee next slot None = None
by_callee next slot (Some node) = by_call next slot node.frame.callee

-- the slot that is reached from a slot by at most so many calls that go on, where it is the last
abbrev pub top_within : Frames Activation → ℕ → ℕ → Option ℕ
top_within frames zero slot = by_callee (λ callee. None) slot (node_at frames slot)
top_within frames (suc n) slot = by_callee (top_within frames n) slot (node_at frames slot)

-- the slot of the top of the task of a path, where the path is a task's
pub data FindsTop (frames : Frames Activation) (peak : ℕ) (path : Path) : Option ℕ → Type 0 where
  nobody : HasNoPath frames path → FindsTop frames peak path None
  no_task : (slot : ℕ) (node : Node Activation) → node_at frames slot ≡ Some node → node.path ≡ path → ¬ IsLowest node →
      FindsTop frames peak path None
  task : (slot : ℕ) (node : Node Activation) (found : Option ℕ) → node_at frames slot ≡ Some node → node.path ≡ path →
      IsLowest node →
      found ≡ top_within frames peak slot → FindsTop frames peak path found

-- ---- who may take it

-- no worker runs the frame, and it waits for nothing
pub record IsReady (a : Activation) : Type 0 where
  pub unheld : a.runner ≡ None
  pub free : a.frame.waits ≡ Nothing

-- the worker is one of these, and runs no task
pub record IsIdle (hands : List (Option ℕ)) (worker : ℕ) : Type 0 where
  pub is_worker : worker < length hands
  pub no_task : hand_of hands worker ≡ None

abbrev pub run_by : ℕ → Activation → Activation
run_by worker a = record a { runner = Some worker; stalled_in = None }

abbrev pub run_at : Frames Activation → ℕ → ℕ → Option Activation → Frames Activation
run_at frames slot worker None = frames
run_at frames slot worker (Some a) = with_frame frames slot (run_by worker a)

-- the worker runs the frame in the slot
abbrev pub taken : Run → ℕ → ℕ → Run
taken k worker slot = record k {
  cactus = run_at k.cactus slot worker (frame_at k.cactus slot);
  hands =
      with_item k.hands worker (Some slot);
}

-- the idle worker takes the ready task of which the slot's frame is the top
pub record Takes (old new : Run) (worker top : ℕ) : Type 0 where
  pub idle : IsIdle old.hands.items worker
  pub ready : IsSomeAnd (frame_at old.cactus top) IsReady
  pub is : new ≡ taken old worker top
