use Rattle.std.proofs.Common.{◌≡◌}
use Rattle.std.specs.Prelude.{vec_capacity}
use Rattle.frame_strand.specs.Indexing.{IsChained}
use Rattle.frame_strand.proofs.finding.unchain.Given as goal

abbrev pub invariant-loop-entry : goal.invariant-loop-entry
invariant-loop-entry l = IsChained l.heads.items l.entries.items × (vec_capacity l.entries ≡ vec_capacity l.fn.entries)

abbrev pub decreases-loop-entry : goal.decreases-loop-entry
decreases-loop-entry l = goal.left-loop-entry l
