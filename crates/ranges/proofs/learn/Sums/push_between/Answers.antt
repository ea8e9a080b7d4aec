use Rattle.std.proofs.lemmas.Result.{IfOk-from_err}
use Rattle.ranges.proofs.learn.Sums.push_between.Goals as goal

pub returns-in_err-push_one : goal.returns-in_err-push_one
returns-in_err-push_one c = IfOk-from_err c.from_residual.result _ c.from_residual.ensures.0
