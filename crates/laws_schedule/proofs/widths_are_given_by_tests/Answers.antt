use Rattle.laws_schedule.proofs.kinds.Given.{widths_are_given_by_tests}
use Rattle.laws_schedule.proofs.widths_are_given_by_tests.Goals as goal

pub returns : goal.returns
returns c = widths_are_given_by_tests
