use Rattle.std.proofs.Common.{refl, rules, FitsSigned, []}
use Rattle.std.specs.Int.{w128}
use Rattle.std.proofs.lemmas.Int.{to_z-of_z}
use Rattle.linear_shown.proofs.Coefficients.{agree_sums, sums_agree}
use Rattle.linear_shown.proofs.index.is_contradiction.Goals as goal

pub returns-then-is_at_most : goal.returns-then-is_at_most
returns-then-is_at_most c =
    let fits_f : FitsSigned w128 c.side_of_place-f.result.constant = search rules in
    let fits_g : FitsSigned w128 c.side_of_place-g.result.constant = search rules in
    let f = c.side_of_place-f.ensures in
    let g = c.side_of_place-g.ensures in (
      λ h. record {
        terms = rw (f.terms, g.terms) at (agree_sums [] _ _ 1 1 tt f.rising g.rising (c.agree.ensures.0 h));
        constant = let le = simp to_z-of_z at (c.if-is_at_most.ensures.0 refl) in rw (f.constant, g.constant) at le;
      },
      λ s. c.agree.ensures.1 (sums_agree [] _ _ 1 1 tt f.rising g.rising (rw (f.terms, g.terms) s.terms)),
    )
