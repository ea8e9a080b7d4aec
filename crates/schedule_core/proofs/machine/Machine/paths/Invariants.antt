use Rattle.schedule_core.proofs.Listed.{Takes}
use Rattle.schedule_core.proofs.machine.Machine.paths.Given as goal

abbrev pub invariant-loop-slot : goal.invariant-loop-slot
invariant-loop-slot l =
    record {
      can_next : goal.iterator-loop-slot.can_next l._slot-iterator;
      is_finite : goal.iterator-loop-slot.is_finite l._slot-iterator;
      takes : Takes l.self.stage.run.cactus l._slot-iterator l.paths.items;
    }
