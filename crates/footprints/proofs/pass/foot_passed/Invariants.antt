use Rattle.std.proofs.Common.{◌≡◌, true, take}
use Rattle.footprints.specs.Footprints.{foot_passed}
use Rattle.footprints.specs.Touched.{with_facts}
use Rattle.footprints.proofs.pass.foot_passed.Given as goal

abbrev pub invariant-loop-zone : goal.invariant-loop-zone
invariant-loop-zone l = foot_passed (with_facts l.facts l.edge) l.waiting l.region (take l.zone-index l.foot) ≡ true
