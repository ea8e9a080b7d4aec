use Rattle.std.proofs.Common.{◌∙◌, pos, not, ap, rules, w64, FitsSigned}
use Rattle.std.specs.Ordering.{int_eq}
use Rattle.linear_shown.proofs.Coefficients.{looked_up_is}
use Rattle.linear_shown.proofs.Signed.{zero_bits}
use Rattle.linear_shown.proofs.show.has_some.Goals as goal

pub returns-in-Some : goal.returns-in-Some
returns-in-Some c =
    let fits : FitsSigned w64 c.coefficient.result = search rules in
    rw c.in-Some.is (ap not (zero_bits c.coefficient.result fits ∙ ap (λ x. int_eq x (pos 0)) (c.coefficient.ensures.value ∙ looked_up_is c.args.terms.now c.in-Some.register.0 c.requires)))
