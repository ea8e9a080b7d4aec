use Rattle.std.proofs.Common.{◌≡◌, drop}
use Rattle.types.specs.names.Mention as spec
use Rattle.types.proofs.names.mention.add_zones.Given as goal

abbrev pub invariant-loop-zone : goal.invariant-loop-zone
invariant-loop-zone l = spec.with_zones l.items l.found (drop l.zone-index l.zones) ≡ spec.with_zones l.items l.initial.found l.zones
