use Rattle.std.proofs.Common.{rules, FitsSigned, ◌≤ℤ◌}
use Rattle.std.specs.Int.{w128}
use Rattle.footprints_zones.proofs.EndBounds.{past_shown}
use Rattle.footprints_zones.proofs.ends.is_past.Goals as goal

pub returns-in-Some-Some : goal.returns-in-Some-Some
returns-in-Some-Some c = λ facts for_high high_form for_low low_form of_high of_low other past.
    let fits_least : FitsSigned w128 c.in-Some-Some.least = search rules in
    let fits_most : FitsSigned w128 c.in-Some-Some.most = search rules in
    let more : c.in-Some-Some.most ≤ℤ c.in-Some-Some.least = search rules in
    past_shown facts for_high high_form for_low low_form c.args.high.now c.args.low.now c.in-Some-Some.least c.in-Some-Some.most of_high of_low other c.in-Some-Some.is-0 c.in-Some-Some.is-1 more
