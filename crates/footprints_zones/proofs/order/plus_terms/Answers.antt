use Rattle.std.proofs.Common.{rules, w64, FitsSigned, to_z, of_z, get_or, pos}
use Rattle.std.specs.Int.{w128}
use Rattle.std.proofs.lemmas.Int.{to_z-of_z}
use Rattle.linear.specs.declared.form.Term.{Term}
use Rattle.footprints_zones.proofs.Orders.{term_added}
use Rattle.footprints_zones.proofs.order.plus_terms.Goals as goal

pub loop-term-preserved : goal.loop-term-preserved
loop-term-preserved c =
    let fits_other : FitsSigned w64 c.in_ok-other.other = search rules in
    let fits_factor : FitsSigned w64 c.signed.result = search rules in
    let fits_sum : FitsSigned w128 c.in_ok-sum.sum = search rules in
    let term : Term = get_or c.args.terms.now c.loop-term.term-index (record { register = record { 0 = 0 }; coefficient = pos 0 }) in
    let fits_coefficient : FitsSigned w64 term.coefficient = search rules in
    let value = rw (to_z-of_z w64 term.coefficient fits_coefficient) at c.signed.ensures.value in
    let made = rw (to_z-of_z w64 c.signed.result fits_factor, to_z-of_z w64 c.in_ok-other.other fits_other) at c.in_ok-sum.ensures.made in (
      search rules,
      rw (to_z-of_z w128 c.in_ok-sum.sum fits_sum)
          (term_added c.args.moves.now (to_z w64 (of_z w64 c.args.sign)) c.args.terms.now c.loop-term.term-index _ (to_z w128 c.loop-term.sum-bits) c.signed.result c.in_ok-other.other c.in_ok-sum.sum _
          c.loop-term-test.true value c.in_ok-other.ensures made c.loop-term.invariant.1),
    )
