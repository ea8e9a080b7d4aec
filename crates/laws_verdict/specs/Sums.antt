-- The law: a sum of operands has a form, far beyond what annotations within their limits ask.
use Rattle.std.specs.Prelude.{◌<◌, ◌≤◌, ◌^◌, All, IsSome, unsigned_abs, sum_by}
use Rattle.program.specs.declared.instruction.Operand.{Operand}
use Rattle.program.specs.declared.instruction.Operand.TheVariants.{Number, Register}
use Rattle.ranges.specs.ranges_owed.declared.sum.Part.{Part}
use Rattle.ranges.specs.ranges_owed.declared.sum.Sum.{Sum}
use Rattle.ranges.specs.Sums.{sum_form}

-- a number of 64 bits, or a register
abbrev pub IsWord : Operand → Type 0
IsWord (Number z) = unsigned_abs z ≤ 2 ^ 63
IsWord (Register r) = Unit {0}

-- Sixteen registers, each a million times, stay below 2^24. A sum of a rule on numbers or zones has the terms of two
-- forms, one of a rule on costs of three, and a form has four terms, each at most a million times a register.
pub record IsModest (sum : Sum) : Type 0 where
  pub factors : sum_by (λ (p : Part). unsigned_abs p.factor) sum.parts < 2 ^ 24
  pub numbers : All (λ (p : Part). IsWord p.operand) sum.parts
  pub constant : unsigned_abs sum.constant < 2 ^ 99

-- so no number of it passes the bounds of a form
abbrev pub ModestSumsHaveForms : Type 0
ModestSumsHaveForms = (sum : Sum) → IsModest sum → IsSome (sum_form sum)
