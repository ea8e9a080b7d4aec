use Rattle.ranges.proofs.walk.walk_end.Goals as goal

pub returns-in-Some-clause-named : goal.returns-in-Some-clause-named
returns-in-Some-clause-named c = rw c.in-Some.is c.walk_ending.ensures.named
