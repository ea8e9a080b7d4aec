use Rattle.std.proofs.Common.{◌≡◌, ℕ, Some, Contains}
use Rattle.cactus.specs.declared.node.Node.{Node}
use Rattle.cactus.specs.Frames.{node_at}
use Rattle.cactus.proofs.cactus.Cactus.spot.Given as goal

abbrev pub invariant-loop-slot : goal.invariant-loop-slot
invariant-loop-slot g l =
    record {
      can_next : (goal.iterator-loop-slot g).can_next l.slot-iterator;
      is_finite : (goal.iterator-loop-slot g).is_finite l.slot-iterator;
      listed : (slot : ℕ) (node : Node g.row.F.Denot) → Contains l.slot-iterator (slot, node) → node_at l.self slot ≡ Some node;
      remains : (slot : ℕ) (node : Node g.row.F.Denot) → node_at l.self slot ≡ Some node → node.path ≡ l.path → Contains l.slot-iterator (slot, node);
    }
