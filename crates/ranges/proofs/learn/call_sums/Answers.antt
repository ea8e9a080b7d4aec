use Rattle.std.proofs.lemmas.Result.{IfOk-from_err}
use Rattle.ranges.proofs.learn.call_sums.Goals as goal

pub returns-in_err-moves-in-Some : goal.returns-in_err-moves-in-Some
returns-in_err-moves-in-Some c = IfOk-from_err c.from_residual.result _ c.from_residual.ensures.0

pub returns-in_err-differences_of-in-Some : goal.returns-in_err-differences_of-in-Some
returns-in_err-differences_of-in-Some c = IfOk-from_err c.from_residual-in_err-differences_of-in-Some.result _ c.from_residual-in_err-differences_of-in-Some.ensures.0
