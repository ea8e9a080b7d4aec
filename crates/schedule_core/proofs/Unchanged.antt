-- A stage that has not changed is as before.
use Rattle.std.proofs.Common.{◌≡◌, ℕ, Some, refl}
use Rattle.cactus.specs.declared.node.Node.{Node}
use Rattle.cactus.specs.Frames.{node_at}
use Rattle.schedule_workers.specs.declared.activation.Activation.{Activation}
use Rattle.schedule_workers.specs.Follows.{IsSameUse}
use Rattle.schedule_core.specs.declared.stage.Stage.{Stage}
use Rattle.schedule_core.specs.Replaying.{LeavesAsBefore}

pub as_it_was : (stage : Stage) → LeavesAsBefore stage stage
as_it_was stage = record {
  state = λ m is. is;
  replays = λ program arguments globals workers events r. r;
  uses = record { made = refl; back = itself; on = itself };
  globals = refl;
}
  where
    itself : (slot : ℕ) (node : Node Activation) → node_at stage.run.cactus slot ≡ Some node → IsSameUse stage.run.cactus slot node
    itself slot node stands = record { there = node; stands = stands; generation = refl; path = refl }
