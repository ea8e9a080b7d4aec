use Rattle.std.proofs.Common.{arith}
use Rattle.linear_shown.proofs.Passing.{times_greater}
use Rattle.linear_shown.proofs.meeting.left_after.Goals as goal

pub returns-then-firsts-at-clause-passed : goal.returns-then-firsts-at-clause-passed
returns-then-firsts-at-clause-passed c = λ k d less later l.
    times_greater c.args.firsts.now c.args.a c.args.at k _ d c.requires.sorted c.if-a-gt0.true c.requires.at (omega (arith, later)) l c.if-firsts-at.true
