use Rattle.std.proofs.Common.{subst}
use Rattle.std.specs.Prelude.{IfSome}
use Rattle.footprints_zones.specs.Ends.{IsEnd}
use Rattle.footprints_zones.proofs.extent.are_in_order.Goals as goal

pub returns-in-Some-Some : goal.returns-in-Some-Some
returns-in-Some-Some c = λ facts for_high high_form for_low low_form of_high of_low.
    c.is_at_least.ensures facts for_high high_form for_low low_form
    (subst (λ o. IfSome o (IsEnd facts for_high high_form)) c.in-Some-Some.is-0 of_high)
    (subst (λ o. IfSome o (IsEnd facts for_low low_form)) c.in-Some-Some.is-1 of_low)
