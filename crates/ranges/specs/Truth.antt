-- What sums say of the registers' values.
use Rattle.std.specs.Prelude.{ℕ, ℤ, pos, ◌+ℤ◌, ◌*ℤ◌, ◌≤ℤ◌, List, [], ◌∷◌}
use Rattle.program.specs.declared.instruction.Operand.{Operand}
use Rattle.program.specs.declared.instruction.Operand.TheVariants.{Number, Register}
use Rattle.ranges_owed.specs.declared.sum.Part.{Part}
use Rattle.ranges_owed.specs.declared.sum.Sum.{Sum}

abbrev pub operand_value : (ℕ → ℤ) → Operand → ℤ
operand_value v (Number z) = z
operand_value v (Register r) = v r.0

abbrev pub parts_value : (ℕ → ℤ) → List Part → ℤ
parts_value v [] = pos 0
parts_value v (p ∷ ps) = (p.factor *ℤ operand_value v p.operand) +ℤ parts_value v ps

abbrev pub sum_value : (ℕ → ℤ) → Sum → ℤ
sum_value v s = s.constant +ℤ parts_value v s.parts

-- the sum is at least 0 at these values
abbrev pub IsTrueAt : (ℕ → ℤ) → Sum → Type 0
IsTrueAt v s = pos 0 ≤ℤ sum_value v s
