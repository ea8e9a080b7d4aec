use Rattle.std.proofs.Common.{◌≡◌, ◌⊎◌, ◌≤◌, ℕ, Some, Contains}
use Rattle.cactus.specs.declared.node.Node.{Node}
use Rattle.cactus.specs.Frames.{node_at}
use Rattle.schedule_workers.specs.declared.activation.Activation.{Activation}
use Rattle.schedule_workers.specs.Lent.{own_block}
use Rattle.schedule_workers.specs.Pieces.{Covers, HasFrame, Touches, own_end}
use Rattle.schedule_workers.proofs.run.Run.taken.Given as goal

abbrev pub invariant-loop-slot : goal.invariant-loop-slot
invariant-loop-slot l =
    record {
      can_next : (goal.iterator-loop-slot).can_next l._slot-iterator;
      is_finite : (goal.iterator-loop-slot).is_finite l._slot-iterator;
      listed : (slot : ℕ) (node : Node Activation) → Contains l._slot-iterator (slot, node) → node_at l.self.cactus slot ≡ Some node;
      remains : (slot : ℕ) (node : Node Activation) → node_at l.self.cactus slot ≡ Some node → Contains l._slot-iterator (slot, node) ⊎ Covers l.program l.start l.limit node.frame.frame l.taken;
      low : l.taken.from ≤ l.limit;
      high : l.start ≤ l.taken.to;
      from : (l.taken.from ≡ l.limit) ⊎ HasFrame l.self (λ f. Touches l.program l.start l.limit f × (l.taken.from ≡ (own_block l.program f).start));
      to : (l.taken.to ≡ l.start) ⊎ HasFrame l.self (λ f. Touches l.program l.start l.limit f × (l.taken.to ≤ own_end l.program f));
    }
