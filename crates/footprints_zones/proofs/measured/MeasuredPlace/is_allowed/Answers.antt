use Rattle.std.proofs.Common.{rules, ◌≡◌, ◌∙◌, true, ap, sym, subst}
use Rattle.std.specs.Prelude.{All}
use Rattle.footprints_zones.specs.Ends.{AreBounds, IsMeasured, zones_of}
use Rattle.footprints_zones.specs.Zones.{Span, span, is_covered}
use Rattle.footprints_zones.specs.Places.{Place, place_of, is_allowed}
use Rattle.footprints_zones.proofs.Numbers.{allowed_if_covered}
use Rattle.footprints_zones.proofs.measured.MeasuredPlace.is_allowed.Goals as goal

pub returns-then-one_covers : goal.returns-then-one_covers
unfolding is_allowed
returns-then-one_covers c =
    let m = c.self.inside in
    let p : Place = place_of m.place.facts.now m.place.covering.now m.place.own m.place.pending.now in
    let y : Span = span c.args.y.now.object c.args.y.now.moves.now c.args.y.now.zone.now in
    let bounds = subst (All (AreBounds p.facts)) (sym c.as_slice.ensures.value) c.self.invariant.0 in
    let measured = subst (All (IsMeasured p.facts)) (sym c.as_slice-2.ensures.value) c.self.invariant.2 in
    let same = ap zones_of c.as_slice-2.ensures.value ∙ c.self.invariant.1 in
    let covered = c.one_covers.ensures p.facts measured (c.extent_of-extent.ensures p.facts bounds) c.if-one_covers.true in
    let allowed : is_covered p.facts p.covering y ≡ true = allowed_if_covered p y c.as_slice-2.result.now same covered in
    search (rules, allowed)
