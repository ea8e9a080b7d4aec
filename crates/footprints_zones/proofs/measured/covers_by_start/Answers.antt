use Rattle.footprints_zones.specs.Zones.{Span, span, as_written}
use Rattle.footprints_zones.proofs.Numbers.{covers_around}
use Rattle.footprints_zones.proofs.measured.covers_by_start.Goals as goal

pub returns : goal.returns
returns c = λ facts of_zone of_y t.
    let z : Span = as_written c.args.measured.now.zone.now in
    let y : Span = span c.args.y.now.object c.args.y.now.moves.now c.args.y.now.zone.now in
    covers_around facts z y (c.is_of_kind.ensures.object c.if-not-is_of_kind.false) (c.is_of_kind.ensures.mode c.if-not-is_of_kind.false) (c.begins_before.ensures facts z y of_zone of_y c.if-not-begins_before.false) (c.ends_after.ensures facts z y of_zone of_y t)
