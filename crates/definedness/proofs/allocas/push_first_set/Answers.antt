use Rattle.definedness.proofs.Lookups.{set_none}
use Rattle.definedness.proofs.allocas.push_first_set.Goals as goal

pub returns-in-None : goal.returns-in-None
returns-in-None c = set_none _ _ _ _ c.in-Alloca.is c.in-None.ensures.lookup.0
