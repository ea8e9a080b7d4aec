use Rattle.std.proofs.Common.{◌≡◌, ◌∙◌, ℤ, ◌-ℤ◌, to_z, of_z}
use Rattle.std.specs.Int.{w128}
use Rattle.std.proofs.lemmas.Result.{IfOk-from_err}
use Rattle.footprints_zones.proofs.Orders.{difference_fits, difference_read, sum_between}
use Rattle.footprints_zones.proofs.order.between.Goals as goal

pub returns-in_err-push_parts : goal.returns-in_err-push_parts
returns-in_err-push_parts c = IfOk-from_err c.from_residual.result _ c.from_residual.ensures.0

pub returns-in_err-push_parts-2 : goal.returns-in_err-push_parts-2
returns-in_err-push_parts-2 c = IfOk-from_err c.from_residual-in_err-push_parts-2.result _ c.from_residual-in_err-push_parts-2.ensures.0

pub push_parts-requires-clause-small : goal.push_parts-requires-clause-small
push_parts-requires-clause-small c = c.side_of-high.ensures.small

pub push_parts-requires-2-clause-small : goal.push_parts-requires-2-clause-small
push_parts-requires-2-clause-small c = c.side_of-low.ensures.small

pub overflow_sub-result : goal.overflow_sub-result
overflow_sub-result c = difference_fits c.side_of-high.result.constant c.side_of-low.result.constant c.side_of-high.ensures.small_constant c.side_of-low.ensures.small_constant

pub returns : goal.returns
returns c =
    let start : ℤ = to_z w128 (of_z w128 (to_z w128 (of_z w128 c.side_of-high.result.constant) -ℤ to_z w128 (of_z w128 c.side_of-low.result.constant))) in
    let begins : start ≡ c.args.high.now.constant -ℤ c.args.low.now.constant =
    difference_read c.side_of-high.result.constant c.side_of-low.result.constant c.side_of-high.ensures.small_constant c.side_of-low.ensures.small_constant
    ∙ cc (c.side_of-high.ensures.constant, c.side_of-low.ensures.constant) in
    sum_between c.args.for_high.now c.args.high.now c.args.for_low.now c.args.low.now c.side_of-high.result.terms.now c.side_of-low.result.terms.now start c.push_parts.new.parts.items c.from_vec.result c.side_of-high.ensures.terms
    c.side_of-low.ensures.terms begins (rw c.new-parts.ensures.items at c.in_ok-push_parts.ensures.ok) (c.from_vec.ensures ∙ c.in_ok-push_parts-2.ensures.ok)
