use Rattle.std.proofs.Common.{◌∙◌, rules, w64}
use Rattle.std.specs.Prelude.{FitsSigned, unsigned_abs}
use Rattle.std.proofs.lemmas.Int.{to_z-of_z}
use mir.Val.{to_z, of_z}
use Rattle.semantics.specs.Arithmetic.{cell_sum}
use Rattle.strand_pages.specs.Paging.{number_at}
use Rattle.strand_pages.proofs.Taken.{behind_row, row_added, row_stays}
use Rattle.strand_pages.proofs.added.add_into.Goals as goal

pub returns-then-index-row-clause-cells : goal.returns-then-index-row-clause-cells
returns-then-index-row-clause-cells c =
    let row = c.args.row.now in
    let from = to_z w64 (of_z w64 c.args.added.now.at) in
    let fit : FitsSigned w64 c.sum.result = search rules in
    let held : FitsSigned w64 (number_at row (unsigned_abs from)) = search rules in
    let more : FitsSigned w64 c.args.added.now.number = search rules in
    let at_fits : FitsSigned w64 c.args.added.now.at = search rules in
    row_added row c.args.added.now.at from (to_z-of_z w64 c.args.added.now.at at_fits) c.if-added-lt0.false c.args.added.now.number _ c.if-index-row.true
    (to_z-of_z w64 c.sum.result fit ∙ c.sum.ensures ∙ (λ i. cell_sum (to_z-of_z w64 (number_at row (unsigned_abs from)) held i) (to_z-of_z w64 c.args.added.now.number more i)))

pub returns-else-index-row-clause-cells : goal.returns-else-index-row-clause-cells
returns-else-index-row-clause-cells c =
    let at_fits : FitsSigned w64 c.args.added.now.at = search rules in
    row_stays c.args.row.now c.args.added.now.at c.args.added.now.number
    (behind_row c.args.row.now c.args.added.now.at (to_z w64 (of_z w64 c.args.added.now.at)) (to_z-of_z w64 c.args.added.now.at at_fits) c.if-index-row.false)
