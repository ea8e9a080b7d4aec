-- What the facts at an instruction must show, so that it does not trap and its callee's conditions hold.
use Rattle.std.specs.Prelude.{ℕ, ℤ, pos, negsuc, ◌-ℤ◌, ◌*ℤ◌, List, [], ◌∷◌, map, Option, Some, None, slice_get}
use Rattle.program.specs.syntax.declared.operator.BinaryOperator.{BinaryOperator}
use Rattle.program.specs.syntax.declared.operator.BinaryOperator.TheVariants.{AddNoWrap}
use Rattle.program.specs.syntax.declared.operator.BinaryOperator.TheVariants.{SubtractNoWrap, MultiplyNoWrap}
use Rattle.program.specs.syntax.declared.operator.BinaryOperator.TheVariants.{SignedDivide, UnsignedDivide}
use Rattle.program.specs.syntax.declared.operator.BinaryOperator.TheVariants.{SignedRemainder, UnsignedRemainder}
use Rattle.program.specs.syntax.declared.operator.BinaryOperator.TheVariants.{ShiftLeft}
use Rattle.program.specs.syntax.declared.operator.BinaryOperator.TheVariants.{LogicalShiftRight, ArithmeticShiftRight}
use Rattle.program.specs.syntax.declared.operator.Width.{Width}
use Rattle.program.specs.syntax.declared.operator.Width.TheVariants.{Bits64, Bits32}
use Rattle.program.specs.declared.annotation.Inequality.{Inequality}
use Rattle.program.specs.declared.instruction.Argument.{Argument}
use Rattle.program.specs.declared.instruction.Instruction.{Instruction}
use Rattle.program.specs.declared.instruction.Instruction.TheVariants as instruction
use Rattle.program.specs.declared.instruction.Operand.{Operand}
use Rattle.program.specs.declared.instruction.Terminator.{Terminator}
use Rattle.program.specs.declared.instruction.Terminator.TheVariants as terminator
use Rattle.program.specs.declared.function.Function.{Function}
use Rattle.program.specs.declared.function.Program.{Program}
use Rattle.program.specs.Objects.{object_cells}
use Rattle.cfg.specs.declared.structure.Move.{Move}
use Rattle.ranges_owed.specs.declared.sum.Part.{Part}
use Rattle.ranges_owed.specs.declared.sum.Sum.{Sum}
use Rattle.ranges_owed.specs.declared.sum.Obligation.{Obligation}
use Rattle.ranges_owed.specs.Sums.{one, two}
use Rattle.ranges_owed.specs.Inequalities.{difference_of, argument_moves, result_moves}
use Rattle.ranges_owed.specs.Scales.{scale_of}

-- the sum is shown to be at least 0
abbrev pub must : ℕ → Sum → Obligation
must number sum = record { number = number; choices = sum ∷ [] }

-- ---- the width's numbers

-- the least value has this size
abbrev pub half : Width → ℤ
half Bits64 = pos 9223372036854775808
half Bits32 = pos 2147483648

abbrev pub greatest : Width → ℤ
greatest Bits64 = pos 9223372036854775807
greatest Bits32 = pos 2147483647

-- the greatest amount of a shift
abbrev pub last_bit : Width → ℤ
last_bit Bits64 = pos 63
last_bit Bits32 = pos 31

-- ---- by operators

-- 502: y >= 1 or y <= -1
abbrev pub is_not_zero : Operand → Obligation
is_not_zero y = record { number = 502; choices = one (negsuc 0) (pos 1) y ∷ (one (negsuc 0) (negsuc 0) y ∷ []) }

-- 502: y >= 0, or y <= -2, or x is above the least value
abbrev pub is_not_least_by_minus_one : Width → Operand → Operand → Obligation
is_not_least_by_minus_one w x y = record {
  number = 502;
  choices = one (pos 0) (pos 1) y ∷
      (one (negsuc 1) (negsuc 0) y ∷ (one (greatest w) (pos 1) x ∷ []));
}

-- 503: the product lies in the width
abbrev pub product_owed : Width → Option Part → List Obligation
product_owed w None = record { number = 503; choices = [] } ∷ []
product_owed w (Some p) = must 503 (one (half w) p.factor p.operand) ∷
    (must 503 (one (greatest w) (negsuc 0 *ℤ p.factor) p.operand) ∷ [])

-- 504: 0 <= y <= 63, or 31
abbrev pub is_amount : Width → Operand → List Obligation
is_amount w y = must 504 (one (pos 0) (pos 1) y) ∷ (must 504 (one (last_bit w) (negsuc 0) y) ∷ [])

abbrev pub binary_owed : BinaryOperator → Width → Operand → Operand → List Obligation
binary_owed AddNoWrap w x y = must 503 (two (half w) (pos 1) x (pos 1) y) ∷
    (must 503 (two (greatest w) (negsuc 0) x (negsuc 0) y) ∷ [])
binary_owed SubtractNoWrap w x y = must 503 (two (half w) (pos 1) x (negsuc 0) y) ∷
    (must 503 (two (greatest w) (negsuc 0) x (pos 1) y) ∷ [])
binary_owed MultiplyNoWrap w x y = product_owed w (scale_of x y)
binary_owed SignedDivide w x y = is_not_zero y ∷ (is_not_least_by_minus_one w x y ∷ [])
binary_owed UnsignedDivide w x y = is_not_zero y ∷ []
binary_owed SignedRemainder w x y = is_not_zero y ∷ (is_not_least_by_minus_one w x y ∷ [])
binary_owed UnsignedRemainder w x y = is_not_zero y ∷ []
binary_owed ShiftLeft w x y = is_amount w y
binary_owed LogicalShiftRight w x y = is_amount w y
binary_owed ArithmeticShiftRight w x y = is_amount w y
binary_owed other w x y = []

-- ---- objects

-- 501: 0 <= index <= cells - 1
abbrev pub index_owed : ℕ → Operand → List Obligation
index_owed cells index = must 501 (one (pos 0) (pos 1) index) ∷ (must 501 (one (pos cells -ℤ pos 1) (negsuc 0) index) ∷
    [])

-- ---- inequalities

-- each inequality holds with the moves' operands put in
abbrev pub inequalities_owed : ℕ → List Move → List Inequality → List Obligation
inequalities_owed number moves qs = map (λ q. must number (difference_of moves q)) qs

-- 506: the callee's `requires`, with the arguments put in
abbrev pub call_owed : Option Function → List Argument → List Obligation
call_owed None arguments = []
call_owed (Some callee) arguments = inequalities_owed 506 (argument_moves 0 arguments) callee.requirements

-- what the facts at an instruction must show
abbrev pub owed : Program → Function → Instruction → List Obligation
owed program function (instruction.Binary d operator width x y) = binary_owed operator width x y
owed program function (instruction.ElementPointer d object index) =
    index_owed (object_cells program function object) index
owed program function (instruction.Call d callee arguments) = call_owed (slice_get program.functions callee.0) arguments
owed program function other = []

-- 507: at a `ret` the function's `ensures`, with the returned operand put in
abbrev pub owed_at_end : Function → Terminator → List Obligation
owed_at_end function (terminator.Return value) = inequalities_owed 507 (result_moves function value) function.guarantees
owed_at_end function other = []
