use Rattle.std.proofs.Common.{◌≡◌, ◌∙◌, ◌+ℤ◌, ◌*ℤ◌, pos, ap, rules, FitsSigned}
use Rattle.std.specs.Int.{w128}
use Rattle.std.proofs.lemmas.Int.{to_z-of_z}
use Rattle.linear_shown.proofs.Signed.{le_bits, sum_fits_128, sum_is}
use Rattle.linear_shown.proofs.show.is_at_most.Goals as goal

pub returns : goal.returns
returns c =
    let fits_f : FitsSigned w128 c.scaled_constant.result = search rules in
    let fits_g : FitsSigned w128 c.scaled_constant-2.result = search rules in
    let of_f : c.scaled_constant.result ≡ pos c.args.a *ℤ c.args.f = c.scaled_constant.ensures.value ∙ ap (λ z. pos c.args.a *ℤ z) (to_z-of_z w128 c.args.f c.ranges.f) in
    let of_g : c.scaled_constant-2.result ≡ pos c.args.b *ℤ c.args.g = c.scaled_constant-2.ensures.value ∙ ap (λ z. pos c.args.b *ℤ z) (to_z-of_z w128 c.args.g c.ranges.g) in
    rw (← of_f, ← of_g) (le_bits w128 (c.scaled_constant.result +ℤ c.scaled_constant-2.result) _ c.args.e (sum_fits_128 c.scaled_constant.result c.scaled_constant-2.result c.scaled_constant.ensures.small c.scaled_constant-2.ensures.small) c.ranges.e (sum_is w128 c.scaled_constant.result c.scaled_constant-2.result fits_f fits_g))
