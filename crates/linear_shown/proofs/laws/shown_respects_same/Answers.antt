use Rattle.linear_shown.proofs.Respects.{shown_same}
use Rattle.linear_shown.proofs.laws.shown_respects_same.Goals as goal

pub returns : goal.returns
returns c = shown_same
