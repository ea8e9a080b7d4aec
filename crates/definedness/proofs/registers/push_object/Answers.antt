use Rattle.definedness.proofs.Lookups.{needs_none}
use Rattle.definedness.proofs.registers.push_object.Goals as goal

pub returns-in-None : goal.returns-in-None
returns-in-None c = needs_none _ _ _ _ _ c.in-Alloca.is c.in-None.ensures.lookup.0
