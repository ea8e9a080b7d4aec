use Rattle.std.proofs.Common.{◌≡◌, ◌∙◌, ◌*◌, ◌<◌, ◌++◌, ℕ, List, length, take, drop, refl, ap, subst, arith, ℤ}
use Rattle.std.proofs.Math.Nat.{suc-mul}
use Rattle.std.proofs.lemmas.Option.{slice_get_within}
use Rattle.kernel_calls.proofs.OneMore.{one_more}
use Rattle.kernel_calls.proofs.Parts.{as_long, part_long, rest_is}
use Rattle.kernel_calls.proofs.rows.run_rows.Goals as goal

pub loop-row-init : goal.loop-row-init
loop-row-init c = record {
  first = omega arith;
  from = omega arith;
  done = record { runs = λ j o low is. absurd (omega (arith, low)); others = refl };
}

pub loop-row-preserved : goal.loop-row-preserved
loop-row-preserved c =
    let l = c.loop-row in
    let kept = l.invariant in
    let within : l.row < length l.outcomes = let outcomes = l.auto.outcomes in let on = c.loop-row-test.true in omega (arith, outcomes, on) in
    let argument = suc-mul l.row c.args.rows.now.arguments_each in
    let cell = suc-mul l.row c.args.rows.now.cells_each in
    let argument_end = c.end_of-argument_end.ensures in
    let cell_end = c.end_of-cell_end.ensures in
    let long = c.run_row.auto.cells ∙ part_long (l.row * c.args.rows.now.cells_each) c.args.rows.now.cells_each _ _ l.cells kept.from cell_end in
    let put = ap (λ (rest : List ℤ). take l.cell l.cells ++ (c.run_row.new.cells ++ rest)) (rest_is (l.row * c.args.rows.now.cells_each) c.args.rows.now.cells_each _ _ l.cells kept.from cell_end) in
    let same = as_long (l.row * c.args.rows.now.cells_each) c.args.rows.now.cells_each _ _ l.cells kept.from cell_end c.run_row.new.cells _ long put in
    record {
      first = omega (arith, kept.first, argument, argument_end);
      from = omega (arith, kept.from, cell, cell_end, same);
      done = one_more _ _ _ _ _ _ _ _ _ kept.done within _ _ _ _ kept.first argument_end kept.from cell_end _ _ long put _ c.run_row.ensures;
    }

pub returns : goal.returns
returns c =
    let done = c.loop-row.invariant.done in
    let count = c.loop-row.outcomes in
    let over = c.loop-row-test.false in
    let end = c.loop-row.auto.row-end in
    let same = c.loop-row.auto.outcomes in
    let all : c.loop-row.row ≡ length count = omega (arith, over, end, same) in
    record {
      runs = λ row o is. done.runs row o (let within = slice_get_within count row o is in omega (arith, within, all)) is;
      others = subst (λ (n : ℕ). drop (n * c.args.rows.now.cells_each) c.loop-row.cells ≡ drop (n * c.args.rows.now.cells_each) c.args.cells.now) all done.others;
    }
