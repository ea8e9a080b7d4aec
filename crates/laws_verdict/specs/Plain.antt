-- A sum as it stands, over the integers without bounds.
use Rattle.std.specs.Prelude.{ℤ, ◌*ℤ◌, List, [], ◌∷◌}
use Rattle.linear.specs.Forms.{plus}
use Rattle.linear.specs.Terms.{Combination, constant_form}
use Rattle.linear.specs.Bounded.{term_form}
use Rattle.program.specs.declared.instruction.Operand.{Operand}
use Rattle.program.specs.declared.instruction.Operand.TheVariants.{Number, Register}
use Rattle.ranges.specs.ranges_owed.declared.sum.Part.{Part}
use Rattle.ranges.specs.ranges_owed.declared.sum.Sum.{Sum}

abbrev pub operand_form : ℤ → Operand → Combination
operand_form factor (Number z) = constant_form (factor *ℤ z)
operand_form factor (Register r) = term_form r factor

abbrev pub parts_form : ℤ → List Part → Combination
parts_form constant [] = constant_form constant
parts_form constant (p ∷ parts) = plus (operand_form p.factor p.operand) (parts_form constant parts)

-- its parts and its constant added up
abbrev pub plain_form : Sum → Combination
plain_form sum = parts_form sum.constant sum.parts
