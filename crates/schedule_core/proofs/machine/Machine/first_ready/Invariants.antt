use Rattle.std.proofs.Common.{◌≡◌, ◌⊎◌, ℕ, Some, Contains}
use Rattle.std.specs.Option.{option_copied}
use Rattle.cactus.specs.declared.node.Node.{Node}
use Rattle.cactus.specs.Frames.{node_at}
use Rattle.cactus.specs.ByPath.{IsTree}
use Rattle.schedule_workers.specs.declared.activation.Activation.{Activation}
use Rattle.schedule_core.proofs.Firsts.{Covered, Found}
use Rattle.schedule_core.proofs.machine.Machine.first_ready.Given as goal

abbrev pub invariant-loop-slot : goal.invariant-loop-slot
invariant-loop-slot l =
    record {
      can_next : goal.iterator-loop-slot.can_next l.slot-iterator;
      is_finite : goal.iterator-loop-slot.is_finite l.slot-iterator;
      found : Found l.self.stage.run.cactus (option_copied l.first);
      remains : IsTree l.self.stage.run.cactus → (slot : ℕ) (node : Node Activation) → node_at l.self.stage.run.cactus slot ≡ Some node → Contains l.slot-iterator (slot, node) ⊎ Covered l.self.stage.run.cactus slot (option_copied l.first);
    }
