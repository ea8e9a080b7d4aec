use Rattle.std.proofs.Common.{subst}
use Rattle.std.specs.Prelude.{IfErr, OnOk}
use Rattle.std.proofs.lemmas.Result.{IfErr-weaker, on_ok_weaker}
use Rattle.strand_pages.specs.Doing.{IsLoaded, IsMissing}
use Rattle.strand_pages.specs.Tables.{Table, log_of, pages_log, with_adds}
use Rattle.strand_pages.proofs.Listed.{load_listed, missing_listed}
use Rattle.strand_pages.proofs.log.PageLog.load_at.Goals as goal

pub returns-clause-done : goal.returns-clause-done
returns-clause-done c = subst (λ (t : Table). OnOk c.load_at.result (IsLoaded (log_of t) c.args.at.now (with_adds (pages_log c.load_at.new.self) c.self.inside.list))) c.self.view_is
    (on_ok_weaker c.load_at.result (load_listed c.self.inside.pages c.load_at.new.self c.self.inside.list c.args.at.now) c.load_at.ensures.done)

pub returns-clause-refused : goal.returns-clause-refused
returns-clause-refused c = subst (λ (t : Table). IfErr c.load_at.result (λ stop. IsMissing (log_of t) c.args.at.now stop)) c.self.view_is
    (IfErr-weaker c.load_at.result (λ stop. IsMissing (pages_log c.self.inside.pages) c.args.at.now stop) _
    (λ stop missing. missing_listed c.self.inside.pages c.self.inside.list c.args.at.now stop missing) c.load_at.ensures.refused)
