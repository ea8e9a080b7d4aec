use Rattle.std.proofs.Common.{◌*◌, ◌+◌, arith, rules, w64}
use Rattle.std.specs.Prelude.{FitsSigned}
use Rattle.strand_pages.specs.Paging.{number_at}
use Rattle.strand_pages.proofs.Rows.{agrees_more, differs_more, differs_past}
use Rattle.strand_pages.proofs.page.Page.agrees_within.Goals as goal

pub returns-then-row-first-clause-no : goal.returns-then-row-first-clause-no
returns-then-row-first-clause-no c e = differs_past c.args.self.now c.args.row.now c.args.from c.args.end c.requires.some c.requires.page c.if-row-first.true c.requires.read

pub loop-place-preserved : goal.loop-place-preserved
loop-place-preserved c =
    let x = c.args.self.now in
    let row = c.args.row.now in
    let k = c.loop-place.place in
    let some = c.loop-place-test.true in
    let page = c.requires.page in
    let long = c.if-row-first.false in
    let on = c.requires.read k c.loop-place.auto.place some in
    let now : FitsSigned w64 (number_at row (x.number * 64 + k)) = search rules in
    let then : FitsSigned w64 (number_at x.values k) = search rules in (
      agrees_more x row c.args.from k (omega (arith, some, page)) (omega (arith, some, long)) on now then c.loop-place.same c.loop-place.invariant.0,
      differs_more x row c.args.from k (omega (arith, some, page)) (omega (arith, some, long)) on now then c.loop-place.same c.loop-place.invariant.1,
    )
