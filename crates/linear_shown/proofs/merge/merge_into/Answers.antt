use Rattle.linear_shown.proofs.merge.merge_into.Goals as goal

pub returns-clause-kept : goal.returns-clause-kept
returns-clause-kept c = rw c.swap.ensures.x_after (rw c.as_slice.ensures.value at c.in_ok-merge.ensures.kept)

pub returns-clause-entered : goal.returns-clause-entered
returns-clause-entered c = rw c.swap.ensures.x_after c.in_ok-merge.ensures.entered
