use Rattle.std.proofs.Common.{◌≡◌, ◌∙◌, ◌+ℤ◌, ◌*ℤ◌, pos, ap, rules, w64, FitsSigned}
use Rattle.std.proofs.lemmas.Int.{to_z-of_z}
use Rattle.linear.specs.Lookup.{looked_up}
use Rattle.linear_shown.proofs.Signed.{same_bits, sum_fits_64, sum_is}
use Rattle.linear_shown.proofs.show.agrees_at.Goals as goal

pub returns : goal.returns
returns c =
    let fits_f : FitsSigned w64 c.scaled-of_f.result = search rules in
    let fits_g : FitsSigned w64 c.scaled-of_g.result = search rules in
    let fits_e : FitsSigned w64 c.coefficient-3.result = search rules in
    let fits_cf : FitsSigned w64 c.coefficient.result = search rules in
    let fits_cg : FitsSigned w64 c.coefficient-2.result = search rules in
    let of_f : c.scaled-of_f.result ≡ pos c.args.a *ℤ looked_up c.args.f.now c.args.register.0 = c.scaled-of_f.ensures.value ∙ ap (λ z. pos c.args.a *ℤ z) (to_z-of_z w64 c.coefficient.result fits_cf ∙ c.coefficient.ensures.value) in
    let of_g : c.scaled-of_g.result ≡ pos c.args.b *ℤ looked_up c.args.g.now c.args.register.0 = c.scaled-of_g.ensures.value ∙ ap (λ z. pos c.args.b *ℤ z) (to_z-of_z w64 c.coefficient-2.result fits_cg ∙ c.coefficient-2.ensures.value) in
    let both = same_bits w64 c.coefficient-3.result (c.scaled-of_f.result +ℤ c.scaled-of_g.result) _ fits_e (sum_fits_64 c.scaled-of_f.result c.scaled-of_g.result c.scaled-of_f.ensures.small c.scaled-of_g.ensures.small) (sum_is w64 c.scaled-of_f.result c.scaled-of_g.result fits_f fits_g) in
    rw (← of_f, ← of_g, ← c.coefficient-3.ensures.value) both
