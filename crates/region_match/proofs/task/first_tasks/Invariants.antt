use Rattle.std.proofs.Common.{◌≡◌, ◌+◌, not, length, count_by, replicate}
use Rattle.region_match.specs.declared.task.Task.TheVariants.{Unreached}
use Rattle.region_match.specs.Labels.{is_seen}
use Rattle.region_match.proofs.Labelling.{Labelling}
use Rattle.region_match.proofs.task.first_tasks.Given as goal

abbrev pub invariant-loop-block : goal.invariant-loop-block
invariant-loop-block l = l.tasks.items ≡ replicate l._block Unreached

abbrev pub invariant-loop-block-2 : goal.invariant-loop-block-2
invariant-loop-block-2 l = Labelling l.blocks l.tasks.items l.work.items

abbrev pub decreases-loop-block-2 : goal.decreases-loop-block-2
decreases-loop-block-2 l = count_by (λ x. not (is_seen x)) l.tasks.items + length l.work.items
