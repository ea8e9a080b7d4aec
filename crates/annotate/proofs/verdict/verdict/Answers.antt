use Rattle.annotate.proofs.verdict.verdict.Goals as goal

pub returns-in-Ok-clause-accepted : goal.returns-in-Ok-clause-accepted
returns-in-Ok-clause-accepted c = (c.in-Ok.verified, c.in-Ok.ensures.accepted)
