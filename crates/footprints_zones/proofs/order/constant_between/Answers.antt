use Rattle.std.proofs.Common.{rules, ◌≡◌, ◌∙◌, ◌-ℤ◌, [], length, sym, FitsSigned}
use Rattle.std.specs.Int.{w128}
use Rattle.std.proofs.lemmas.Bool.Decides.{Decides-eqb}
use Rattle.std.proofs.lemmas.Int.{to_z-of_z}
use Rattle.std.proofs.lemmas.List.{nil_from_length}
use Rattle.footprints_zones.proofs.Levels.{sum_of_constants}
use Rattle.footprints_zones.proofs.order.constant_between.Goals as goal

pub returns-then-is_empty-2 : goal.returns-then-is_empty-2
returns-then-is_empty-2 c = λ for_high for_low.
    let high = c.side_of-high.result in
    let low = c.side_of-low.result in
    let fits_high : FitsSigned w128 high.constant = search rules in
    let fits_low : FitsSigned w128 low.constant = search rules in
    let fits : FitsSigned w128 (high.constant -ℤ low.constant) = search rules in
    let no_high : c.args.high.now.terms ≡ [] = sym c.side_of-high.ensures.terms ∙ nil_from_length high.terms.now ((Decides-eqb (length high.terms.now) 0).0 (sym c.is_empty.ensures ∙ c.if-is_empty.true)) in
    let no_low : c.args.low.now.terms ≡ [] = sym c.side_of-low.ensures.terms ∙ nil_from_length low.terms.now ((Decides-eqb (length low.terms.now) 0).0 (sym c.is_empty-then-is_empty.ensures ∙ c.if-is_empty-2.true)) in
    rw (to_z-of_z w128 high.constant fits_high, to_z-of_z w128 low.constant fits_low, to_z-of_z w128 (high.constant -ℤ low.constant) fits, c.side_of-high.ensures.constant, c.side_of-low.ensures.constant)
    (sum_of_constants c.args.high.now c.args.low.now no_high no_low for_high for_low)
