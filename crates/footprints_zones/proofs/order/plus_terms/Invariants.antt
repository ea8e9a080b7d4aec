use Rattle.std.proofs.Common.{◌≡◌, ◌<◌, ◌^◌, drop, unsigned_abs, Some}
use Rattle.linear.specs.Terms.{constant_form}
use Rattle.ranges.specs.ranges_owed.Inequalities.{parts_of}
use Rattle.ranges.specs.Sums.{with_parts}
use Rattle.footprints_zones.proofs.order.plus_terms.Given as goal

abbrev pub invariant-loop-term : goal.invariant-loop-term
invariant-loop-term l =
    (unsigned_abs l.sum < 2 ^ 100)
    × (with_parts (parts_of l.moves l.sign (drop l.term-index l.terms)) (Some (constant_form l.sum)) ≡ with_parts (parts_of l.moves l.sign l.terms) (Some (constant_form l.number)))
