use Rattle.std.proofs.Common.{◌-◌}
use Rattle.strand_pages.proofs.Rows.{PutBelow}
use Rattle.strand_pages.proofs.page.Page.write_into.Given as goal

abbrev pub invariant-loop-place : goal.invariant-loop-place
invariant-loop-place l = PutBelow l.self l.initial.row l.row l.from

abbrev pub decreases-loop-place : goal.decreases-loop-place
decreases-loop-place l = 64 - l.from
