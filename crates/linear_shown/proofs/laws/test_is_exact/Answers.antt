use Rattle.linear_shown.proofs.Tested.{decides_shown}
use Rattle.linear_shown.proofs.laws.test_is_exact.Goals as goal

pub returns : goal.returns
returns c = decides_shown
