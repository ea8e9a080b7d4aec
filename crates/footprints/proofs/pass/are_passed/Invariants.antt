use Rattle.std.proofs.Common.{◌≡◌, true, take}
use Rattle.footprints.specs.Footprints.{are_passed}
use Rattle.footprints.specs.Touched.{with_facts}
use Rattle.footprints.proofs.pass.are_passed.Given as goal

abbrev pub invariant-loop-item : goal.invariant-loop-item
invariant-loop-item l = are_passed (with_facts l.facts l.edge) l.waiting (take l.item-index l.pending) ≡ true
