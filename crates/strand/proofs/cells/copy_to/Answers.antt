use Rattle.std.proofs.Common.{◌≡◌, ◌+◌, suc, ℤ, sym, subst, arith, rules, w64}
use Rattle.std.specs.Prelude.{FitsSigned, slice_set}
use Rattle.std.proofs.lemmas.Int.{to_z-of_z}
use Rattle.strand.specs.Putting.{IsCopiedTo}
use Rattle.strand.proofs.Rows.{copied_more}
use Rattle.strand.proofs.cells.copy_to.Goals as goal

pub loop-number-preserved : goal.loop-number-preserved
loop-number-preserved c =
    let fits : FitsSigned w64 c.number_at.result = search rules in
    let n = c.loop-number.number in
    let row = c.loop-number.row in
    let place = c.args.place in
    let lt = c.loop-number-test.true in
    let within = c.requires.row in
    let long = c.loop-number.invariant.long in
    let more = copied_more c.args.numbers.now c.args.row.now row n place c.number_at.result c.number_at.ensures (omega (arith, lt, within, long)) c.loop-number.invariant in
    let same : n + 1 ≡ suc n = omega arith in
    subst (λ (z : ℤ). IsCopiedTo c.args.numbers.now (n + 1) place c.args.row.now (slice_set row (place + n) z)) (sym (to_z-of_z w64 c.number_at.result fits))
    (subst (λ i. IsCopiedTo c.args.numbers.now i place c.args.row.now (slice_set row (place + n) c.number_at.result)) (sym same) more)
