use Rattle.std.proofs.Common.{pos, negsuc}
use Rattle.types.proofs.names.Differences.{difference_fits, within_first, within_second}
use Rattle.types.proofs.names.form.is_close.Goals as goal

pub overflow_sub-difference : goal.overflow_sub-difference
overflow_sub-difference c = difference_fits c.args.coefficient c.args.other c.ranges.coefficient c.ranges.other

pub returns-then-difference-geminus1000000 : goal.returns-then-difference-geminus1000000
returns-then-difference-geminus1000000 c =
    within_second (negsuc 999999) (pos 1000000) c.args.coefficient c.args.other c.ranges.coefficient c.ranges.other c.if-difference-geminus1000000.true

pub returns-else-difference-geminus1000000 : goal.returns-else-difference-geminus1000000
returns-else-difference-geminus1000000 c =
    within_first (negsuc 999999) (pos 1000000) c.args.coefficient c.args.other c.ranges.coefficient c.ranges.other c.if-difference-geminus1000000.false
