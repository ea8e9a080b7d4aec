use Rattle.std.proofs.Common.{◌∙◌, ap, refl}
use Rattle.frame_strand.specs.declared.cells.Change.TheVariants.{Stored}
use Rattle.strand_pages.specs.Tables.{log_of}
use Rattle.strand_pages.proofs.Listed.{now_open, put_in_page}
use Rattle.strand_pages.proofs.log.PageLog.store_first.Goals as goal

pub returns-clause-done : goal.returns-clause-done
returns-clause-done c =
    let t = c.self.inside.pages in
    let u = c.store_at.new.self in
    let list = c.self.inside.list in
    let x = log_of c.args.self.now in
    let at = c.args.at.now in
    let place = c.if-not-reserve.ensures.place refl in
    let opens = ap log_of c.self.view_is ∙ c.if-not-reserve.ensures.opened refl in
    record {
      place = place;
      is = put_in_page t u list x at place opens (Stored c.args.number.now) (c.store_at.ensures.done (c.store_at.ensures.open ∙ now_open t u list x at place opens));
    }
