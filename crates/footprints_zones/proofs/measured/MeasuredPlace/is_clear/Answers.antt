use Rattle.std.proofs.Common.{rules}
use Rattle.footprints_zones.specs.Zones.{Span, span}
use Rattle.footprints_zones.specs.Places.{Place, place_of}
use Rattle.footprints_zones.proofs.Numbers.{clear_unless_met}
use Rattle.footprints_zones.proofs.measured.MeasuredPlace.is_clear.Goals as goal

pub returns-then-not-branch : goal.returns-then-not-branch
returns-then-not-branch c =
    let m = c.self.inside in
    let p : Place = place_of m.place.facts.now m.place.covering.now m.place.own m.place.pending.now in
    let y : Span = span c.args.y.now.object c.args.y.now.moves.now c.args.y.now.zone.now in
    let clear = clear_unless_met p y m.pending.items c.self.invariant.3 in
    search (rules, clear)

pub returns : goal.returns
returns c =
    let m = c.self.inside in
    let p : Place = place_of m.place.facts.now m.place.covering.now m.place.own m.place.pending.now in
    let y : Span = span c.args.y.now.object c.args.y.now.moves.now c.args.y.now.zone.now in
    let clear = clear_unless_met p y m.pending.items c.self.invariant.3 in
    search (rules, clear)
