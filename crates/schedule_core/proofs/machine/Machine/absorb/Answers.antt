use Rattle.schedule_core.proofs.Spots.{spots_kept}
use Rattle.schedule_core.proofs.machine.Machine.absorb.Goals as goal

pub absorb_into-requires-clause-machine : goal.absorb_into-requires-clause-machine
absorb_into-requires-clause-machine c = c.args.self.now.kept

pub invariant_of-self : goal.invariant_of-self
invariant_of-self c = record { kept = c.absorb_into.ensures.machine }

pub returns-clause-spots : goal.returns-clause-spots
returns-clause-spots c = spots_kept c.args.self.now.stage c.absorb_into.new.stage c.args.self.now.kept c.absorb_into.ensures.machine c.absorb_into.ensures.follows
