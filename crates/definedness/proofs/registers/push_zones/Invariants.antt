use Rattle.std.proofs.Common.{◌≡◌, ◌++◌, take}
use Rattle.std.specs.List.{flat_map}
use Rattle.definedness.specs.RegisterActs.{zone_needs}
use Rattle.definedness.proofs.registers.push_zones.Given as goal

abbrev pub invariant-loop-zone : goal.invariant-loop-zone
invariant-loop-zone l = l.acts.items ≡ l.fn.acts.items ++ flat_map (zone_needs l.allocas) (take l.zone-index l.zones)
