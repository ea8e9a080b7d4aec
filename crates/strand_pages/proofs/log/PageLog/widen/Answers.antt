use Rattle.std.proofs.Common.{◌∙◌, ap, length, max}
use Rattle.std.proofs.lemmas.Result.{on_ok_weaker}
use Rattle.strand_pages.specs.Logs.{Log, pages_of}
use Rattle.strand_pages.specs.Tables.{Table, log_of, with_adds}
use Rattle.strand_pages.proofs.log.PageLog.widen.Goals as goal

pub returns-clause-wide : goal.returns-clause-wide
returns-clause-wide c = on_ok_weaker c.widen.result (λ wide. (λ i. with_adds (wide i) c.self.inside.list) ∙ ap wider c.self.view_is) c.widen.ensures.wide
  where
    wider : Table → Log
    wider t = record (log_of t) { pages = max (length t.pages.directory) (pages_of c.args.cells) }
