use Rattle.linear_shown.proofs.Sound.{shown_holds}
use Rattle.linear_shown.proofs.laws.shown_is_true.Goals as goal

pub returns : goal.returns
returns c = shown_holds
