use Rattle.std.proofs.Common.{◌≢◌, None, subst}
use Rattle.strand_pages.specs.Committing.{IsPutInto}
use Rattle.strand_pages.specs.Tables.{Table, log_of}
use Rattle.strand_pages.proofs.Listed.{written_listed}
use Rattle.strand_pages.proofs.Taken.{both_put}
use Rattle.strand_pages.proofs.log.PageLog.write_into.Goals as goal

pub write_into-requires : goal.write_into-requires
write_into-requires c a some = c.requires a (subst (λ (t : Table). (log_of t).writes a ≢ None) c.self.view_is (written_listed c.self.inside.pages c.self.inside.list a some))

pub returns : goal.returns
returns c = subst (λ (t : Table). IsPutInto (log_of t) c.args.row.now c.write_into-2.new.row) c.self.view_is
    (both_put c.self.inside.pages c.self.inside.list c.args.row.now c.write_into.new.row c.write_into-2.new.row c.write_into.ensures c.write_into-2.ensures)
