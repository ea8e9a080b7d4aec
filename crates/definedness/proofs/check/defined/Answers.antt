use Rattle.definedness.proofs.Always.{named_defined}
use Rattle.definedness.proofs.check.defined.Goals as goal

pub returns-in-None-clause-always : goal.returns-in-None-clause-always
returns-in-None-clause-always c = named_defined c.args.graph.now.program _ c.in-None.is c.in_ok-broken.ensures
