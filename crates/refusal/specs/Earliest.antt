-- Which fault is named where several rules are broken: that of the lowest line, and there of the lowest number.
use Rattle.std.specs.Prelude.{◌≡◌, ◌≤◌, Option, Some, None}
use Rattle.refusal.specs.declared.broken.Broken.{Broken}

abbrev pub IsAtOrBefore : Broken → Broken → Type 0
IsAtOrBefore a b = (a.line ≤ b.line) × (a.line ≡ b.line → a.number ≤ b.number)

-- a judgement: the rules hold and none is broken, or a broken rule is named that no other stands before
abbrev pub IsJudged : Type 0 → (Broken → Type 0) → Option Broken → Type 0
IsJudged Holds IsBroken None = Holds × ((b : Broken) → IsBroken b → ⊥)
IsJudged Holds IsBroken (Some a) = IsBroken a × ((b : Broken) → IsBroken b → IsAtOrBefore a b)

-- what is named where these rules are broken: nothing where none is, else the earliest
abbrev pub IsEarliest : (Broken → Type 0) → Option Broken → Type 0
IsEarliest IsBroken named = IsJudged (Unit {0}) IsBroken named

-- one of these broken rules, and none of them stands before it
abbrev pub IsFirst : (Broken → Type 0) → Broken → Type 0
IsFirst IsBroken broken = IsEarliest IsBroken (Some broken)
