use Rattle.std.proofs.Common.{◌*◌, ◌/◌, drop, arith}
use Rattle.strand_pages.proofs.Around.{last_page, taken_few, whole_page}
use Rattle.strand_pages.proofs.row.page_from.Goals as goal

pub returns-else-row-first-gt-CELLS-clause-page : goal.returns-else-row-first-gt-CELLS-clause-page
returns-else-row-first-gt-CELLS-clause-page c = let few = c.if-row-first-gt-CELLS.false in last_page c.args.row.now c.args.index c.requires (omega (arith, few))

pub returns-then-row-first-gt-CELLS-clause-page : goal.returns-then-row-first-gt-CELLS-clause-page
returns-then-row-first-gt-CELLS-clause-page c = whole_page c.args.row.now c.args.index

pub returns-then-row-first-gt-CELLS-clause-few : goal.returns-then-row-first-gt-CELLS-clause-few
returns-then-row-first-gt-CELLS-clause-few c = taken_few _ (drop (c.args.index / 64 * 64) c.args.row.now) (omega arith)

pub returns-else-row-first-gt-CELLS-clause-few : goal.returns-else-row-first-gt-CELLS-clause-few
returns-else-row-first-gt-CELLS-clause-few c = let few = c.if-row-first-gt-CELLS.false in taken_few _ (drop (c.args.index / 64 * 64) c.args.row.now) (omega (arith, few))
