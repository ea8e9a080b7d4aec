use Rattle.std.proofs.Common.{w64, FitsSigned, refl}
use Rattle.std.proofs.lemmas.Result.{IfOk-from_err}
use Rattle.ranges.proofs.Products.{multiple_pushed}
use Rattle.ranges.proofs.learn.Sums.push_multiple.Goals as goal

pub returns-in_err-push_two : goal.returns-in_err-push_two
returns-in_err-push_two c = IfOk-from_err c.from_residual.result _ c.from_residual.ensures.0

pub returns-in_err-push_two-2 : goal.returns-in_err-push_two-2
returns-in_err-push_two-2 c = IfOk-from_err c.from_residual-in_err-push_two-2.result _ c.from_residual-in_err-push_two-2.ensures.0

pub returns : goal.returns
returns c =
    let fits : FitsSigned w64 c.opposite.result = record { sfits = c.opposite.type_inv } in
    multiple_pushed c.args.self.now.list.items c.push_two.new.self.list.items c.push_two-2.new.self.list.items _ _ c.args.d c.args.x c.args.factor c.opposite.result c.ranges.factor fits c.opposite.ensures refl refl
    c.in_ok-push_two.ensures c.in_ok-push_two-2.ensures
