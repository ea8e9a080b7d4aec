use Rattle.std.proofs.Common.{◌≡◌, take}
use Rattle.footprints_feet.specs.Feet.{foot_use}
use Rattle.footprints_feet.proofs.foot.zones_use.Given as goal

abbrev pub invariant-loop-zone : goal.invariant-loop-zone
invariant-loop-zone l = l.all ≡ foot_use l.place (take l.zone-index l.foot)
