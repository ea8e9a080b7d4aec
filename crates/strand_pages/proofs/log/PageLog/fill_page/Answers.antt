use Rattle.std.proofs.Common.{◌∙◌, ap, refl}
use Rattle.strand_pages.specs.Tables.{log_of}
use Rattle.strand_pages.proofs.Listed.{fill_in_page, now_open}
use Rattle.strand_pages.proofs.log.PageLog.fill_page.Goals as goal

pub returns-clause-filled : goal.returns-clause-filled
returns-clause-filled c always =
    let t = c.self.inside.pages in
    let u = c.fill.new.self in
    let list = c.self.inside.list in
    let x = log_of c.args.self.now in
    let at = c.args.at.now in
    let place = c.if-not-reserve.ensures.place refl in
    let opens = ap log_of c.self.view_is ∙ c.if-not-reserve.ensures.opened refl in
    fill_in_page t u list x at place opens c.args.values.now (c.fill.ensures.done (c.fill.ensures.open ∙ now_open t u list x at place opens))
