use Rattle.std.proofs.Common.{subst}
use Rattle.std.specs.Prelude.{IsTrue, ◌↔◌}
use Rattle.strand_pages.specs.Committing.{Agrees}
use Rattle.strand_pages.specs.Tables.{Table, log_of}
use Rattle.strand_pages.proofs.log.PageLog.reads_agree.Goals as goal

pub returns : goal.returns
returns c = subst (λ (t : Table). IsTrue c.reads_agree.result ↔ Agrees (log_of t) c.args.row.now) c.self.view_is c.reads_agree.ensures
