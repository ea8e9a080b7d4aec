use Rattle.std.proofs.Common.{subst, w64, ℤ}
use Rattle.std.specs.Prelude.{OnOk}
use Rattle.std.proofs.lemmas.Int.{to_z-of_z}
use mir.Val.{to_z, of_z}
use Rattle.strand_pages.specs.Doing.{IsLoaded}
use Rattle.strand_pages.specs.Tables.{log_of}
use Rattle.strand_pages.proofs.Holding.{loads_keep}
use Rattle.strand_pages.proofs.access.PageLogCells.load.Goals as goal

pub returns-clause-does : goal.returns-clause-does
returns-clause-does c = subst (λ (z : ℤ). OnOk c.load_at.result (IsLoaded (log_of c.args.self.now) z (log_of c.load_at.new.self))) (to_z-of_z w64 c.args.at c.ranges.at) c.load_at.ensures.done

pub returns-clause-kept : goal.returns-clause-kept
returns-clause-kept c = loads_keep c.args.self.now c.load_at.new.self c.load_at.result (to_z w64 (of_z w64 c.args.at)) c.load_at.ensures.done c.load_at.ensures.unchanged
