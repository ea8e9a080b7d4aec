use Rattle.std.proofs.Common.{◌*ℤ◌, sym, ◌∙◌, rules, w64, FitsSigned}
use Rattle.std.specs.Int.{w128}
use Rattle.std.proofs.lemmas.Int.{to_z-of_z}
use Rattle.linear.specs.Made.{with_constant, with_term}
use Rattle.ranges.proofs.Making.{bounded_is}
use Rattle.ranges.proofs.form.with_operand.Goals as goal

pub returns-in-Register : goal.returns-in-Register
returns-in-Register c =
    let fits : FitsSigned w64 c.args.part.factor = search rules in
    let made = c.plus_term.ensures in
    rw c.in-Register.is
    (bounded_is _ _ (with_term c.args.form c.in-Register.register c.args.part.factor) c.unless_bounds.ensures.made c.unless_bounds.ensures.bounds c.unless_bounds.ensures.memory
    (rw (to_z-of_z w64 c.args.part.factor fits) at made.placed) (rw (to_z-of_z w64 c.args.part.factor fits) at made.refused))

pub returns-else-not-is_bounded : goal.returns-else-not-is_bounded
returns-else-not-is_bounded c =
    let fits : FitsSigned w64 c.args.part.factor = search rules in
    let fits_number : FitsSigned w64 c.in-Number.number = search rules in
    let fits_product : FitsSigned w128 c.product.result = search rules in
    let small = rw (to_z-of_z w64 c.args.part.factor fits) at (sym c.is_bounded.ensures ∙ c.if-not-is_bounded.false) in
    let value = rw (to_z-of_z w64 c.args.part.factor fits, to_z-of_z w64 c.in-Number.number fits_number) at c.product.ensures.value in
    let made = c.plus_constant.ensures in
    rw (c.in-Number.is, small)
    (bounded_is _ _ (with_constant c.args.form (c.args.part.factor *ℤ c.in-Number.number)) c.unless_bounds-in-Number.ensures.made c.unless_bounds-in-Number.ensures.bounds c.unless_bounds-in-Number.ensures.memory
    (rw (to_z-of_z w128 c.product.result fits_product, value) at made.exact) (rw (to_z-of_z w128 c.product.result fits_product, value) at made.refused))
