use Rattle.std.proofs.Common.{pos, negsuc}
use Rattle.types.proofs.names.Differences.{difference_fits, within_first, within_second}
use Rattle.types.proofs.names.form.is_within_numbers.Goals as goal

pub overflow_sub-difference : goal.overflow_sub-difference
overflow_sub-difference c = difference_fits c.args.constant c.args.other c.ranges.constant c.ranges.other

pub returns-then-difference-geminus9223372036854775807 : goal.returns-then-difference-geminus9223372036854775807
returns-then-difference-geminus9223372036854775807 c =
    within_second (negsuc 9223372036854775806) (pos 9223372036854775807) c.args.constant c.args.other c.ranges.constant c.ranges.other c.if-difference-geminus9223372036854775807.true

pub returns-else-difference-geminus9223372036854775807 : goal.returns-else-difference-geminus9223372036854775807
returns-else-difference-geminus9223372036854775807 c =
    within_first (negsuc 9223372036854775806) (pos 9223372036854775807) c.args.constant c.args.other c.ranges.constant c.ranges.other c.if-difference-geminus9223372036854775807.false
