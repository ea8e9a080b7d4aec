-- What is named of two, and what a contract says of a refusal by rules.
use Rattle.std.specs.Prelude.{◌≡◌, Option, Some, None}
use Rattle.refusal.specs.declared.broken.Broken.{Broken}
use Rattle.refusal.specs.declared.refused.Refused.{Refused}
use Rattle.refusal.specs.Refusals.{IfBroken}
use Rattle.refusal.specs.Earliest.{IsFirst}
use Rattle.refusal.specs.Before.{earlier_of}

-- what is named of two
abbrev pub IsLowerOf : Option Broken → Option Broken → Option Broken → Type 0
IsLowerOf None right named = named ≡ right
IsLowerOf (Some a) None named = named ≡ Some a
IsLowerOf (Some a) (Some b) named = named ≡ Some (earlier_of a b)

-- what a contract says of a refusal by these rules: where one is named, it is the earliest
abbrev pub NamesEarliest : (Broken → Type 0) → Refused → Type 0
NamesEarliest IsBroken refused = IfBroken (IsFirst IsBroken) refused
