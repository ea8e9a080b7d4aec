use Rattle.std.proofs.Common.{◌≡◌, ◌∙◌, ap, sym, pos, take, get_or, true, false}
use Rattle.frame_strand.specs.Buffers.{raised_change}
use Rattle.strand_pages.specs.Logs.{Log, is_open, same_page, with_change}
use Rattle.strand_pages.specs.Tables.{pages_log, taken_in}
use Rattle.strand_pages.specs.declared.added.Added.{Added}
use Rattle.strand_pages.proofs.Taken.{may_take, one_more, taken_else, taken_here}
use Rattle.strand_pages.proofs.added.take_in.Goals as goal
use Rattle.strand_pages.proofs.added.take_in.Goals.{then-same_page, else-same_page}

pub loop-index-preserved : goal.loop-index-preserved
loop-index-preserved c =
    let x = pages_log c.args.pages.now in
    let a = c.args.at.now in
    let adds = c.args.adds.now in
    let i = c.loop-index.index in
    let none : Added = record { at = pos 0; number = pos 0 } in
    let e = get_or adds i none in
    let longer = ap (taken_in x a) (sym (one_more adds i none c.loop-index-test.true)) in
    elim c.if-same_page.branch [
      | then-same_page w ↦
          let here : same_page a e.at ≡ true = sym w.if-same_page.ensures in
          ap pages_log w.pages-is ∙
          w.add_at.ensures.done (w.add_at.ensures.open ∙ ap (λ (y : Log). is_open y e.at) c.loop-index.invariant ∙ may_take x a c.requires (take i adds) e here) ∙
          ap (λ (y : Log). with_change y e.at (raised_change e.number (y.writes e.at) (y.reads e.at))) c.loop-index.invariant ∙
          sym (taken_here x a c.requires (take i adds) e here) ∙ longer
      | else-same_page w ↦
          let away : same_page a e.at ≡ false = sym w.if-same_page.ensures in
          ap pages_log w.pages-is ∙ c.loop-index.invariant ∙ sym (taken_else x a c.requires (take i adds) e away) ∙ longer
    ]
