use Rattle.std.proofs.Common.{◌≡◌, ◌∙◌, ◌*ℤ◌, List, get_or, take, sym, ap, subst, rules, w64, FitsSigned, Err}
use Rattle.std.specs.Int.{w128}
use Rattle.std.proofs.lemmas.Int.{to_z-of_z}
use Rattle.std.proofs.lemmas.List.{take_all}
use Rattle.std.proofs.lemmas.Result.{IfOk-weaker, err_from_is_err_and}
use Rattle.linear.specs.declared.form.Term.{Term}
use Rattle.linear.specs.Forms.{Same, plus, scaled}
use Rattle.linear.specs.Terms.{Combination, constant_form}
use Rattle.linear.proofs.Making.{Multiplied, past_end, read_coefficient, multiplied_next, multiplied_sum, term_refused}
use Rattle.linear.proofs.form.Form.plus_multiple.Goals as goal

pub returns-in_err-sum-clause-bounds : goal.returns-in_err-sum-clause-bounds
returns-in_err-sum-clause-bounds c = λ h.
    let p = err_from_is_err_and c.from_residual.result c.from_residual.ensures.1 in
    let large = c.in_err-sum.ensures.bounds (sym (p.1 ∙ ap Err p.2) ∙ h) in
    let ts = c.side_of-side.result.terms.now in
    let i = c.loop-term.term-index in
    let factor = to_z-of_z w64 c.args.factor c.ranges.factor in
    let coefficient = read_coefficient ts i c.side_of-side.ensures.small c.loop-term-test.true in
    let fits : FitsSigned w64 c.product.result = search rules in
    let z : c.product.result ≡ c.args.factor *ℤ (get_or ts i past_end).coefficient = rw (factor, coefficient) at c.product.ensures in
    let m : Multiplied c.args.self c.loop-term.sum c.args.factor (take i ts) = rw factor at c.loop-term.invariant in
    let past = rw (to_z-of_z w64 c.product.result fits) at large in
    term_refused c.args.self c.loop-term.sum c.args.other.now c.args.factor c.product.result ts i past_end c.side_of-side.ensures.terms c.side_of-side.ensures.rising c.loop-term-test.true m z past

pub loop-term-preserved : goal.loop-term-preserved
loop-term-preserved c =
    let ts = c.side_of-side.result.terms.now in
    let i = c.loop-term.term-index in
    let factor = to_z-of_z w64 c.args.factor c.ranges.factor in
    let coefficient = read_coefficient ts i c.side_of-side.ensures.small c.loop-term-test.true in
    let fits : FitsSigned w64 c.product.result = search rules in
    let z : c.product.result ≡ c.args.factor *ℤ (get_or ts i past_end).coefficient = rw (factor, coefficient) at c.product.ensures in
    let m : Multiplied c.args.self c.loop-term.sum c.args.factor (take i ts) = rw factor at c.loop-term.invariant in
    let s = rw (to_z-of_z w64 c.product.result fits) at c.in_ok-sum.ensures.ok in
    rw factor (multiplied_next c.args.self c.loop-term.sum c.in_ok-sum.sum c.args.factor c.product.result ts i past_end c.loop-term-test.true m z s)

whole : (c : goal.After-plus_constant) → Multiplied c.args.self c.loop-term.sum c.args.factor c.args.other.now.terms
whole c =
    let ts = c.side_of-side.result.terms.now in
    let factor = to_z-of_z w64 c.args.factor c.ranges.factor in
    let m : Multiplied c.args.self c.loop-term.sum c.args.factor (take c.loop-term.term-index ts) = rw factor at c.loop-term.invariant in
    subst (λ (l : List Term). Multiplied c.args.self c.loop-term.sum c.args.factor l) (take_all c.loop-term.term-index ts c.loop-term-test.false ∙ c.side_of-side.ensures.terms) m

product : (c : goal.After-plus_constant) → c.constant_product.result ≡ c.args.factor *ℤ c.args.other.now.constant
product c =
    let factor = to_z-of_z w64 c.args.factor c.ranges.factor in
    let fits : FitsSigned w128 c.side_of-side.result.constant = search rules in
    rw (factor, to_z-of_z w128 c.side_of-side.result.constant fits, c.side_of-side.ensures.constant) at c.constant_product.ensures.value

pub returns-clause-ok : goal.returns-clause-ok
returns-clause-ok c =
    let fits : FitsSigned w128 c.constant_product.result = search rules in
    let s = rw (to_z-of_z w128 c.constant_product.result fits) at c.plus_constant.ensures.ok in
    IfOk-weaker c.plus_constant.result (λ (f : Combination). Same f (plus (constant_form c.constant_product.result) c.loop-term.sum)) (λ (f : Combination). Same f (plus c.args.self (scaled c.args.factor c.args.other.now)))
    (λ (f : Combination) (h : Same f (plus (constant_form c.constant_product.result) c.loop-term.sum)). multiplied_sum c.args.self c.loop-term.sum f c.args.other.now c.args.factor c.constant_product.result (whole c) (product c) h) s
