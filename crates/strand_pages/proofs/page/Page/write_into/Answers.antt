use Rattle.std.proofs.Common.{◌∙◌, sym}
use Rattle.strand_pages.proofs.Rows.{put_next}
use Rattle.strand_pages.proofs.page.Page.write_into.Goals as goal

pub loop-place-preserved : goal.loop-place-preserved
loop-place-preserved c =
    put_next c.args.self.now c.args.row.now c.loop-place.row c.loop-place.from c.loop-place.invariant c.put_from-from.new.row c.in-Some.place c.put_from-from.result c.in-Some.ensures.later
    c.put_from-from.ensures.later c.put_from-from.ensures.page (λ k le lt. sym (c.either-written.ensures k) ∙ c.in-Some.ensures.passed k le lt) c.put_from-from.ensures.put
