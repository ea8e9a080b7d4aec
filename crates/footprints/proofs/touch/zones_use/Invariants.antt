use Rattle.std.proofs.Common.{◌≡◌, take}
use Rattle.footprints.proofs.Callees.{zones_use}
use Rattle.footprints.proofs.touch.zones_use.Given as goal

abbrev pub invariant-loop-zone : goal.invariant-loop-zone
invariant-loop-zone l = l.all ≡ zones_use l.place l.arguments (take l.zone-index l.zones)
