use Rattle.std.proofs.Common.{◌≡◌, true, not, take}
use Rattle.std.specs.List.{list_all}
use Rattle.program.specs.declared.annotation.Pending.{Pending}
use Rattle.footprints.specs.Footprints.{hands_on}
use Rattle.footprints.proofs.pass.has_passing.Given as goal

abbrev pub invariant-loop-item : goal.invariant-loop-item
invariant-loop-item l = list_all (λ (q : Pending). not (hands_on l.edge.way q.region)) (take l.item-index l.pending) ≡ true
