use Rattle.std.proofs.Common.{◌≡◌, ◌∙◌, refl, sym, subst}
use Rattle.std.specs.Prelude.{OnOk}
use Rattle.frame_strand.specs.declared.cells.Change.TheVariants.{Stored}
use Rattle.strand_pages.specs.Doing.{IsChanged}
use Rattle.strand_pages.specs.Tables.{Table, log_of, pages_log, with_adds}
use Rattle.strand_pages.proofs.Listed.{in_page, put_in_page}
use Rattle.strand_pages.proofs.log.PageLog.store_at.Goals as goal

pub returns-then-store_at-clause-done : goal.returns-then-store_at-clause-done
returns-then-store_at-clause-done c =
    let t = c.self.inside.pages in
    let u = c.store_at.new.self in
    let list = c.self.inside.list in
    let at = c.args.at.now in
    let here = in_page t list at (sym c.if-store_at.ensures.open) in
    subst (λ (y : Table). IsChanged (log_of y) at (Stored c.args.number.now) (with_adds (pages_log u) list)) c.self.view_is (record {
      place = here.0;
      is = put_in_page t u list (with_adds (pages_log t) list) at here.0 here.1 (Stored c.args.number.now) (c.if-store_at.ensures.done refl);
    })

pub returns-clause-done : goal.returns-clause-done
returns-clause-done c =
    let same : record { pages = c.store_at.new.self; adds = c.self.inside.list } ≡ c.args.self.now =
    (λ i. record { pages = c.if-store_at.ensures.unchanged refl i; adds = c.self.inside.list }) ∙ c.self.view_is in
    subst (λ (y : Table). OnOk c.store_first.result (IsChanged (log_of y) c.args.at.now (Stored c.args.number.now) (log_of c.store_first.new.self))) same c.store_first.ensures.done
