use Rattle.std.proofs.Common.{◌∙◌, sym, refl}
use Rattle.schedule_core.proofs.Parents.{slot_if}
use Rattle.schedule_core.proofs.machine.Machine.parent_slot.Goals as goal

pub returns-in-Child-clause-child : goal.returns-in-Child-clause-child
returns-in-Child-clause-child c =
    slot_if c.args.self.now.stage.run c.args.worker c.in_ok-top.top c.in_ok-child.child.now c.in-Child.region c.in-Child.continuation c.in_ok-child.child.now.parent (sym c.hand.ensures.slot ∙ c.in_ok-top.was) (sym c.in_ok-child.ensures) c.in-Child.is refl
