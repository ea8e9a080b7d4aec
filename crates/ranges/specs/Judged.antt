-- What a phase says that does not pass a program.
use Rattle.std.specs.Prelude.{◌≡◌, ℕ, Option, Some}
use Rattle.refusal.specs.declared.broken.Broken.{Broken}
use Rattle.refusal.specs.Named.{NamesEarliest}
use Rattle.ranges.specs.declared.unverified.Unverified.{Unverified}
use Rattle.ranges.specs.declared.unverified.Unverified.TheVariants.{Refused, OutOfEffort}

-- where it names one of these rules, that is the earliest that is broken; or it names the effort that was granted, if
-- that is bounded
abbrev pub JudgesEarliest : Option ℕ → (Broken → Type 0) → Unverified → Type 0
JudgesEarliest effort IsBroken (Refused refused) = NamesEarliest IsBroken refused
JudgesEarliest effort IsBroken (OutOfEffort granted) = effort ≡ Some granted
