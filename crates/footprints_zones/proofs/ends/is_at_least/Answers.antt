use Rattle.std.proofs.Common.{rules, inl, inr}
use Rattle.footprints_zones.specs.Ends.{AreOther}
use Rattle.footprints_zones.proofs.ends.is_at_least.Goals as goal
use Rattle.footprints_zones.proofs.ends.is_at_least.Goals.{else-high-ne0-via-then-high-ne0+then-low-ne0+else-high-low, else-high-ne0-via-then-high-ne0+else-low-ne0, else-high-ne0-via-else-high-ne0}

pub returns-else-high-ne0 : goal.returns-else-high-ne0
returns-else-high-ne0 c = λ facts for_high high_form for_low low_form of_high of_low past.
    let other : AreOther c.args.high.now c.args.low.now = elim c.else-high-ne0.branch [
      | else-high-ne0-via-then-high-ne0+then-low-ne0+else-high-low w ↦ inr (inr (search rules))
      | else-high-ne0-via-then-high-ne0+else-low-ne0 w ↦ inr (inl (search rules))
      | else-high-ne0-via-else-high-ne0 w ↦ inl (search rules)
    ] in
    c.is_past.ensures facts for_high high_form for_low low_form of_high of_low other past
