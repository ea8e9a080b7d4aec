use Rattle.std.proofs.Common.{length, take, refl, rules, pos, w64, FitsSigned, get_or, to_z, of_z, arith}
use Rattle.std.proofs.lemmas.Int.{ints, to_z-of_z}
use Rattle.std.proofs.lemmas.List.{take_at}
use Rattle.linear.specs.declared.form.Term.{Term}
use Rattle.ranges_owed.specs.Inequalities.{part_of, parts_of}
use Rattle.ranges_owed.proofs.Joined.{mapped_after}
use Rattle.ranges_owed.proofs.inequality.add_parts.Goals as goal

abbrev none : Term
none = record { register = record { 0 = 0 }; coefficient = pos 0 }

pub signed-requires-clause-coefficient : goal.signed-requires-clause-coefficient
signed-requires-clause-coefficient c =
    let t = get_or c.args.terms.now c.loop-term.term-index none in
    let small = c.requires.small c.loop-term.term-index none c.loop-term-test.true in
    let fits : FitsSigned w64 t.coefficient = omega (arith, ints, small) in
    rw (to_z-of_z w64 t.coefficient fits) small

pub loop-term-preserved : goal.loop-term-preserved
loop-term-preserved c =
    let t = get_or c.args.terms.now c.loop-term.term-index none in
    let small = c.requires.small c.loop-term.term-index none c.loop-term-test.true in
    let fits : FitsSigned w64 t.coefficient = omega (arith, ints, small) in
    let fits_result : FitsSigned w64 c.signed.result = search rules in
    rw (c.in_ok-push.ensures.items, to_z-of_z w64 c.signed.result fits_result, c.signed.ensures, to_z-of_z w64 t.coefficient fits, c.operand_for.ensures)
    (mapped_after (part_of c.args.moves.now (to_z w64 (of_z w64 c.args.sign))) c.args.parts.now.items c.args.terms.now c.loop-term.term-index none c.loop-term.parts.items c.loop-term-test.true c.loop-term.invariant)

pub returns-clause-kept : goal.returns-clause-kept
returns-clause-kept c = rw c.loop-term.invariant (take_at c.args.parts.now.items (parts_of c.args.moves.now (to_z w64 (of_z w64 c.args.sign)) (take c.loop-term.term-index c.args.terms.now)) (length c.args.parts.now.items) refl)

pub returns-in_err-push-clause-kept : goal.returns-in_err-push-clause-kept
returns-in_err-push-clause-kept c = rw (c.in_err-push.ensures.items, c.loop-term.invariant) (take_at c.args.parts.now.items (parts_of c.args.moves.now (to_z w64 (of_z w64 c.args.sign)) (take c.loop-term.term-index c.args.terms.now)) (length c.args.parts.now.items) refl)
