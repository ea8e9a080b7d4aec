use Rattle.std.proofs.Common.{sym}
use Rattle.footprints_zones.specs.Zones.{span, as_written}
use Rattle.footprints_zones.proofs.Numbers.{meets_not_apart}
use Rattle.footprints_zones.proofs.measured.meets_measured.Goals as goal

pub returns-then-lie_apart : goal.returns-then-lie_apart
returns-then-lie_apart c =
    let z = as_written c.args.measured.now.zone.now in
    let y = span c.args.y.now.object c.args.y.now.moves.now c.args.y.now.zone.now in
    sym (meets_not_apart c.args.facts.now z y (c.lie_apart.ensures c.args.facts.now z y c.requires.zone c.requires.extent c.if-lie_apart.true))
