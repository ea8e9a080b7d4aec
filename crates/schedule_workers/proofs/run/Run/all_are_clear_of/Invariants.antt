use Rattle.std.proofs.Common.{◌≡◌, ◌⊎◌, ℕ, Some, Contains}
use Rattle.cactus.specs.declared.node.Node.{Node}
use Rattle.cactus.specs.Frames.{node_at}
use Rattle.schedule_workers.specs.declared.activation.Activation.{Activation}
use Rattle.schedule_workers.specs.Lent.{IsClearOf}
use Rattle.schedule_workers.proofs.run.Run.all_are_clear_of.Given as goal

abbrev pub invariant-loop-slot : goal.invariant-loop-slot
invariant-loop-slot l =
    record {
      can_next : (goal.iterator-loop-slot).can_next l._slot-iterator;
      is_finite : (goal.iterator-loop-slot).is_finite l._slot-iterator;
      listed : (slot : ℕ) (node : Node Activation) → Contains l._slot-iterator (slot, node) → node_at l.self.cactus slot ≡ Some node;
      remains : (slot : ℕ) (node : Node Activation) → node_at l.self.cactus slot ≡ Some node → Contains l._slot-iterator (slot, node) ⊎ IsClearOf l.program l.part node.frame.frame;
    }
