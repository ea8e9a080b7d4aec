use Rattle.std.proofs.Common.{rules, ◌≡◌, ◌<◌, ◌≤ℤ◌, ◌^◌, FitsSigned, ◌+ℤ◌, ◌-ℤ◌, unsigned_abs, subst, ℤ, ℕ}
use Rattle.std.specs.Int.{w64}
use Rattle.std.proofs.lemmas.Int.{to_z-of_z}
use Rattle.footprints_zones.specs.Ends.{IsLeast}
use Rattle.footprints_zones.proofs.EndBounds.{difference_shown}
use Rattle.footprints_zones.proofs.EndsMade.{order_read, sum_fits}
use Rattle.footprints_zones.proofs.ends.is_difference_at_least.Goals as goal

pub returns-in-Some-least_multiple : goal.returns-in-Some-least_multiple
returns-in-Some-least_multiple c = λ facts for_high high_form for_low low_form of_high of_low same more.
    let h = c.args.high.now in
    let l = c.args.low.now in
    let times : ℤ = c.in-Some.times in
    let least : ℤ = c.in-Some-least_multiple.least in
    let fits_high : FitsSigned w64 h.coefficient = search rules in
    let fits_low : FitsSigned w64 l.coefficient = search rules in
    let fits_times : FitsSigned w64 times = search rules in
    let fits_high_constant : FitsSigned w64 h.constant = search rules in
    let fits_low_constant : FitsSigned w64 l.constant = search rules in
    let is_times : times ≡ h.coefficient -ℤ l.coefficient = rw (to_z-of_z w64 h.coefficient fits_high, to_z-of_z w64 l.coefficient fits_low) at c.in-Some.ensures.1 in
    let size : c.unsigned_abs.result ≡ unsigned_abs times = rw (to_z-of_z w64 times fits_times) at c.unsigned_abs.ensures.value in
    let small : unsigned_abs times < 2 ^ 24 = subst (λ (n : ℕ). n < 2 ^ 24) size c.if-unsigned_abs-ge16777216.false in
    let known : IsLeast facts h.bounds.register times least = rw (to_z-of_z w64 times fits_times) at (c.in-Some-least_multiple.ensures.least facts of_high.between.bounds) in
    let past : l.constant ≤ℤ (least +ℤ h.constant) = order_read c.from.result c.from-in-Some-least_multiple.result l.constant h.constant least fits_low_constant fits_high_constant c.in-Some-least_multiple.ensures.small c.from.ensures c.from-in-Some-least_multiple.ensures more in
    difference_shown facts for_high high_form for_low low_form h l times least of_high of_low same is_times small known past

pub overflow_add-result : goal.overflow_add-result
overflow_add-result c =
    let h = c.args.high.now in
    let fits_high_constant : FitsSigned w64 h.constant = search rules in
    sum_fits c.in-Some-least_multiple.least h.constant c.from-in-Some-least_multiple.result c.in-Some-least_multiple.ensures.small fits_high_constant c.from-in-Some-least_multiple.ensures
