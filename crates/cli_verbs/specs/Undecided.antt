-- When there is no verdict.
use Rattle.std.specs.Prelude.{◌≡◌, ℕ, Option, Some}
use Rattle.ranges.specs.declared.unverified.Unverified.{Unverified}
use Rattle.ranges.specs.declared.unverified.Unverified.TheVariants as unverified

-- the effort that was granted is spent only if it is bounded, and then it is named
abbrev pub IsSpentWithin : Option ℕ → Unverified → Type 0
IsSpentWithin effort (unverified.Refused refused) = Unit {0}
IsSpentWithin effort (unverified.OutOfEffort granted) = effort ≡ Some granted
