use Rattle.std.proofs.Common.{◌≡◌, ◌∙◌, refl, sym, subst}
use Rattle.std.specs.Prelude.{OnOk}
use Rattle.frame_strand.specs.Buffers.{raised_change}
use Rattle.strand_pages.specs.Doing.{IsKept}
use Rattle.strand_pages.specs.Logs.{Log}
use Rattle.strand_pages.specs.Tables.{Table, log_of, pages_log, with_adds}
use Rattle.strand_pages.proofs.Listed.{add_in_page, in_page}
use Rattle.strand_pages.proofs.Opening.{changed_kept}
use Rattle.strand_pages.proofs.log.PageLog.add_at.Goals as goal

pub returns-then-add_at-clause-done : goal.returns-then-add_at-clause-done
returns-then-add_at-clause-done c =
    let t = c.self.inside.pages in
    let u = c.add_at.new.self in
    let list = c.self.inside.list in
    let at = c.args.at.now in
    let n = c.args.number.now in
    let x : Log = with_adds (pages_log t) list in
    let here = in_page t list at (sym c.if-add_at.ensures.open) in
    subst (λ (y : Table). IsKept (log_of y) at (raised_change n ((log_of y).writes at) ((log_of y).reads at)) (with_adds (pages_log u) list)) c.self.view_is
    (changed_kept x at (raised_change n (x.writes at) (x.reads at)) (with_adds (pages_log u) list) (add_in_page t u list x at here.0 here.1 n (c.if-add_at.ensures.done refl)))

pub returns-clause-done : goal.returns-clause-done
returns-clause-done c =
    let at = c.args.at.now in
    let n = c.args.number.now in
    let same : record { pages = c.add_at.new.self; adds = c.self.inside.list } ≡ c.args.self.now =
    (λ i. record { pages = c.if-add_at.ensures.unchanged refl i; adds = c.self.inside.list }) ∙ c.self.view_is in
    subst (λ (y : Table). OnOk c.add_first.result (IsKept (log_of y) at (raised_change n ((log_of y).writes at) ((log_of y).reads at)) (log_of c.add_first.new.self))) same c.add_first.ensures.done
