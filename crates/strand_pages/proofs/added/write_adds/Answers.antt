use Rattle.std.proofs.Common.{◌≡◌, ◌∙◌, ◌+◌, List, sym, subst, pos, take, get_or, true, false}
use Rattle.strand_pages.specs.Adding.{AddsArePut}
use Rattle.strand_pages.specs.Tables.{in_pages, pages_log}
use Rattle.strand_pages.specs.declared.added.Added.{Added}
use Rattle.strand_pages.proofs.Listed.{open_paged}
use Rattle.strand_pages.proofs.Taken.{one_more, put_closed, put_paged}
use Rattle.strand_pages.proofs.added.write_adds.Goals as goal
use Rattle.strand_pages.proofs.added.write_adds.Goals.{then-not-has_page, else-not-has_page}

pub loop-index-preserved : goal.loop-index-preserved
loop-index-preserved c =
    let x = pages_log c.args.pages.now in
    let adds = c.args.adds.now in
    let old = c.args.row.now in
    let i = c.loop-index.index in
    let none : Added = record { at = pos 0; number = pos 0 } in
    let e = get_or adds i none in
    let longer = sym (one_more adds i none c.loop-index-test.true) in
    elim c.if-not-has_page.branch [
      | then-not-has_page w ↦
          let closed : in_pages x.has_page e.at ≡ false = sym (open_paged c.args.pages.now e.at) ∙ sym w.if-not-has_page.ensures in
          let new = w.add_into.new.row in
          subst (AddsArePut x (take (i + 1) adds) old) (sym w.row-is) (subst (λ (l : List Added). AddsArePut x l old new) longer
          (put_closed x (take i adds) e old c.loop-index.row c.loop-index.invariant closed new w.add_into.ensures.long w.add_into.ensures.cells))
      | else-not-has_page w ↦
          let on : in_pages x.has_page e.at ≡ true = sym (open_paged c.args.pages.now e.at) ∙ sym w.if-not-has_page.ensures in
          let same = c.loop-index.row in
          subst (AddsArePut x (take (i + 1) adds) old) (sym w.row-is) (subst (λ (l : List Added). AddsArePut x l old same) longer
          (put_paged x (take i adds) e old same c.loop-index.invariant on))
    ]
