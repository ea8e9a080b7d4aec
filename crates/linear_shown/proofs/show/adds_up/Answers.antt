use Rattle.std.proofs.Common.{refl, rules, FitsSigned}
use Rattle.std.specs.Int.{w128}
use Rattle.std.proofs.lemmas.Int.{to_z-of_z}
use Rattle.linear_shown.proofs.Coefficients.{agree_sums, sums_agree}
use Rattle.linear_shown.proofs.show.adds_up.Goals as goal

pub returns-then-is_at_most : goal.returns-then-is_at_most
returns-then-is_at_most c =
    let fits_f : FitsSigned w128 c.side_at-f.result.constant = search rules in
    let fits_g : FitsSigned w128 c.side_at-g.result.constant = search rules in
    let fits_e : FitsSigned w128 c.side_of-e.result.constant = search rules in
    let e = c.side_of-e.ensures in
    let f = c.side_at-f.ensures in
    let g = c.side_at-g.ensures in (
      λ h. record {
        terms = rw (e.terms, f.terms, g.terms) at (agree_sums _ _ _ c.args.a c.args.b e.rising f.rising g.rising (c.agree.ensures.0 h));
        constant = let le = simp to_z-of_z at (c.if-is_at_most.ensures.0 refl) in rw (e.constant, f.constant, g.constant) at le;
      },
      λ s. c.agree.ensures.1 (sums_agree _ _ _ c.args.a c.args.b e.rising f.rising g.rising (rw (e.terms, f.terms, g.terms) s.terms)),
    )
