use Rattle.std.proofs.Common.{◌≤◌, ◌-◌}
use Rattle.strand_pages.proofs.Rows.{AgreesBelow}
use Rattle.strand_pages.proofs.page.Page.agrees.Given as goal

abbrev pub invariant-loop-place : goal.invariant-loop-place
invariant-loop-place l = (l.from ≤ 64) × AgreesBelow l.self l.row l.from

abbrev pub decreases-loop-place : goal.decreases-loop-place
decreases-loop-place l = 64 - l.from
