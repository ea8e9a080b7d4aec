use Rattle.std.proofs.Common.{◌≡◌, ◌∙◌, ap, refl, sym, subst, false}
use Rattle.strand_pages.specs.Logs.{Log, with_page}
use Rattle.strand_pages.specs.Tables.{IsFresh, Table, in_pages, log_of, pages_log, taken_in, with_adds}
use Rattle.strand_pages.proofs.Listed.{fresh_page, open_paged, taken_with_page}
use Rattle.strand_pages.proofs.log.PageLog.reserve.Goals as goal

closed : (c : goal.After-give) → in_pages (pages_log c.self.inside.pages).has_page c.args.at.now ≡ false
closed c = sym (open_paged c.self.inside.pages c.args.at.now) ∙ sym c.if-has_page.ensures

pub give-requires : goal.give-requires
give-requires c = subst (λ (x : Log). IsFresh x c.args.at.now) (sym (c.if-not-reserve.ensures.opened refl))
    (fresh_page c.self.inside.pages c.args.at.now (c.if-not-reserve.ensures.place refl) (sym (open_paged c.self.inside.pages c.args.at.now) ∙ sym c.if-has_page.ensures))

pub returns-clause-opened : goal.returns-clause-opened
returns-clause-opened c always =
    let list = c.self.inside.list in
    let at = c.args.at.now in
    (λ i. with_adds ((c.give.ensures ∙ ap (λ (x : Log). taken_in x at list) (c.if-not-reserve.ensures.opened refl)) i) list) ∙
    taken_with_page (pages_log c.self.inside.pages) at (c.if-not-reserve.ensures.place refl) (closed c) list ∙
    ap (λ (t : Table). with_page (log_of t) at) c.self.view_is
