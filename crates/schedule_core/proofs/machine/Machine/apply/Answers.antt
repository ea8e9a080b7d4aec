use Rattle.schedule_core.proofs.Promised.{over_after}
use Rattle.schedule_core.proofs.Spots.{spots_kept}
use Rattle.schedule_core.proofs.machine.Machine.apply.Goals as goal

pub apply_to-requires : goal.apply_to-requires
apply_to-requires c = c.args.self.now.kept

pub invariant_of-self : goal.invariant_of-self
invariant_of-self c = record { kept = c.apply_to.ensures.machine }

pub returns-clause-over : goal.returns-clause-over
returns-clause-over c m s over =
    over_after c.args.self.now.stage c.apply_to.new.stage m c.args.event.now c.apply_to.result c.apply_to.ensures.enabled c.apply_to.ensures.only s over

pub returns-clause-spots : goal.returns-clause-spots
returns-clause-spots c = spots_kept c.args.self.now.stage c.apply_to.new.stage c.args.self.now.kept c.apply_to.ensures.machine c.apply_to.ensures.follows
