use Rattle.std.proofs.Common.{◌≡◌, false, true, sym, subst}
use Rattle.strand_pages.specs.Logs.{Log, has_place, is_open}
use Rattle.strand_pages.specs.Tables.{Table, log_of}
use Rattle.strand_pages.proofs.Opening.{opened, reserved_wider}
use Rattle.strand.proofs.cells.StrandCells.open.Goals as goal

pub returns-in-None-clause-wider : goal.returns-in-None-clause-wider
returns-in-None-clause-wider c = reserved_wider c.reserve.result c.args.self.now.log c.reserve.new.self c.args.at.now c.reserve.ensures.opened c.reserve.ensures.unchanged

pub returns-in-None-clause-yes : goal.returns-in-None-clause-yes
returns-in-None-clause-yes c = λ e none.
    subst (λ (y : Log). is_open y c.args.at.now ≡ true) (sym (c.reserve.ensures.opened e)) (opened (log_of c.args.self.now.log) c.args.at.now (c.reserve.ensures.place e))

pub returns-in-None-clause-no : goal.returns-in-None-clause-no
returns-in-None-clause-no c = λ e. (
  c.in-None.ensures.absent,
  subst (λ (t : Table). has_place (log_of t) c.args.at.now ≡ false) (sym (c.reserve.ensures.unchanged e)) (c.reserve.ensures.none e),
)
