use Rattle.schedule_text.proofs.Cuts.{before_first, after_first}
use Rattle.schedule_text.proofs.line.split_before.Goals as goal

pub returns-clause-none_before : goal.returns-clause-none_before
returns-clause-none_before c = rw (c.split_at.ensures.front, c.length_before.ensures.value) (before_first c.args.byte c.args.bytes.now)

pub returns-clause-at : goal.returns-clause-at
returns-clause-at c = rw (c.split_at.ensures.back, c.length_before.ensures.value) (after_first c.args.byte c.args.bytes.now)
