-- Sums of operands times numbers.
use Rattle.std.specs.Prelude.{ℤ, List, [], ◌∷◌}
use Rattle.program.specs.declared.instruction.Operand.{Operand}
use Rattle.ranges_owed.specs.declared.sum.Sum.{Sum}

-- of one, two and three operands

abbrev pub one : ℤ → ℤ → Operand → Sum
one constant a x = record { constant = constant; parts = record { factor = a; operand = x } ∷ [] }

abbrev pub two : ℤ → ℤ → Operand → ℤ → Operand → Sum
two constant a x b y = record
    { constant = constant; parts = record { factor = a; operand = x } ∷ (record { factor = b; operand = y } ∷ []) }

abbrev pub three : ℤ → ℤ → Operand → ℤ → Operand → ℤ → Operand → Sum
three constant a x b y c z =
    record {
      constant = constant;
      parts = record { factor = a; operand = x }
          ∷ (record { factor = b; operand = y } ∷ (record { factor = c; operand = z } ∷ []));
    }
