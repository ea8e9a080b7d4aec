use Rattle.std.proofs.Common.{take}
use Rattle.region_match.specs.Labels.{LabelsTargets}
use Rattle.region_match.proofs.task.label_targets.Given as goal

abbrev pub invariant-loop-edge : goal.invariant-loop-edge
invariant-loop-edge l = LabelsTargets l.from (take l.edge-index l.edges) l.task l.fn.tasks.items l.fn.work.items l.tasks.items l.work.items
