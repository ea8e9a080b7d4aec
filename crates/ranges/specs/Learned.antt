-- What an instruction makes known: sums that are at least 0 once it is done.
use Rattle.std.specs.Prelude.{ℤ, pos, negsuc, ◌-ℤ◌, ◌*ℤ◌, int_le, Bool, ◌&&◌, List, [], ◌∷◌, ◌++◌, Option, Some, None}
use Rattle.std.specs.Prelude.{slice_get, if◌then◌else◌}
use Rattle.linear.specs.declared.form.RegisterId.{RegisterId}
use Rattle.linear.specs.declared.form.Fact.{Fact}
use Rattle.program.specs.syntax.declared.operator.BinaryOperator.{BinaryOperator}
use Rattle.program.specs.syntax.declared.operator.BinaryOperator.TheVariants.{AddNoWrap}
use Rattle.program.specs.syntax.declared.operator.BinaryOperator.TheVariants.{SubtractNoWrap, MultiplyNoWrap}
use Rattle.program.specs.syntax.declared.operator.BinaryOperator.TheVariants.{SignedDivide}
use Rattle.program.specs.syntax.declared.operator.BinaryOperator.TheVariants.{SignedRemainder}
use Rattle.program.specs.syntax.declared.operator.BinaryOperator.TheVariants.{And}
use Rattle.program.specs.syntax.declared.operator.Conversion.{Conversion}
use Rattle.program.specs.syntax.declared.operator.Conversion.TheVariants.{Truncate, SignExtend, ZeroExtend}
use Rattle.program.specs.declared.instruction.Argument.{Argument}
use Rattle.program.specs.declared.instruction.Instruction.{Instruction}
use Rattle.program.specs.declared.instruction.Instruction.TheVariants as instruction
use Rattle.program.specs.declared.instruction.Operand.{Operand}
use Rattle.program.specs.declared.instruction.Operand.TheVariants.{Number, Register}
use Rattle.program.specs.declared.function.Function.{Function}
use Rattle.ranges_owed.specs.declared.sum.Part.{Part}
use Rattle.ranges_owed.specs.declared.sum.Sum.{Sum}
use Rattle.ranges_owed.specs.Scales.{scale_of}
use Rattle.ranges_owed.specs.Sums.{one, two, three}
use Rattle.ranges.specs.Sums.{shows}
use Rattle.ranges_owed.specs.Inequalities.{call_moves, differences_of}

-- d = c * x, as two inequalities
abbrev pub is_multiple : Operand → ℤ → Operand → List Sum
is_multiple d c x = two (pos 0) (pos 1) d (negsuc 0 *ℤ c) x ∷ (two (pos 0) (negsuc 0) d c x ∷ [])

abbrev pub is_product : Operand → Option Part → List Sum
is_product d None = []
is_product d (Some p) = is_multiple d p.factor p.operand

-- d from least to greatest
abbrev pub is_between : ℤ → ℤ → Operand → List Sum
is_between least greatest d = one (negsuc 0 *ℤ least) (pos 1) d ∷ (one greatest (negsuc 0) d ∷ [])

-- c * d <= x, x <= c * d + c - 1, d >= 0
abbrev pub is_quotient : Operand → Operand → ℤ → List Sum
is_quotient d x c = two (pos 0) (pos 1) x (negsuc 0 *ℤ c) d ∷ (two (c -ℤ pos 1) c d (negsuc 0) x ∷
    (one (pos 0) (pos 1) d ∷ []))

-- a number to divide by, of an operand that is not below 0
abbrev pub is_divisor : List Fact → Operand → ℤ → Bool
is_divisor known x c = (int_le (pos 1) c && int_le c (pos 1000000)) && shows known (one (pos 0) (pos 1) x)

abbrev pub quotient_by : List Fact → Operand → Operand → Operand → List Sum
quotient_by known d x (Number c) = if is_divisor known x c then is_quotient d x c else []
quotient_by known d x (Register r) = []

abbrev pub remainder_by : List Fact → Operand → Operand → Operand → List Sum
remainder_by known d x (Number c) = if is_divisor known x c then is_between (pos 0) (c -ℤ pos 1) d else []
remainder_by known d x (Register r) = []

abbrev pub masked_by : Operand → Operand → List Sum
masked_by d (Number m) = if int_le (pos 0) m then is_between (pos 0) m d else []
masked_by d (Register r) = []

abbrev pub binary_sums : List Fact → BinaryOperator → Operand → Operand → Operand → List Sum
binary_sums known AddNoWrap d x y = three (pos 0) (pos 1) d (negsuc 0) x (negsuc 0) y ∷
    (three (pos 0) (negsuc 0) d (pos 1) x (pos 1) y ∷ [])
binary_sums known SubtractNoWrap d x y = three (pos 0) (pos 1) d (negsuc 0) x (pos 1) y ∷
    (three (pos 0) (negsuc 0) d (pos 1) x (negsuc 0) y ∷ [])
binary_sums known MultiplyNoWrap d x y = is_product d (scale_of x y)
binary_sums known SignedDivide d x y = quotient_by known d x y
binary_sums known SignedRemainder d x y = remainder_by known d x y
binary_sums known And d x y = masked_by d y
binary_sums known other d x y = []

-- whether x is shown to lie from -2147483648 to 2147483647
abbrev pub is_32_bits : List Fact → Operand → Bool
is_32_bits known x = shows known (one (pos 2147483648) (pos 1) x) && shows known (one (pos 2147483647) (negsuc 0) x)

abbrev pub conversion_sums : List Fact → Conversion → Operand → Operand → List Sum
conversion_sums known SignExtend d x = is_between (negsuc 2147483647) (pos 2147483647) d ++ is_multiple d (pos 1) x
conversion_sums known Truncate d x = is_between (negsuc 2147483647) (pos 2147483647) d ++
    (if is_32_bits known x then is_multiple d (pos 1) x else [])
conversion_sums known ZeroExtend d x = is_between (pos 0) (pos 4294967295) d ++
    (if shows known (one (pos 0) (pos 1) x) then is_multiple d (pos 1) x else [])

-- the callee's `ensures`, with the arguments and the result's register put in
abbrev pub call_sums : Option Function → List Argument → Option RegisterId → List Sum
call_sums None arguments d = []
call_sums (Some callee) arguments d = differences_of (call_moves callee arguments d) callee.guarantees

-- what an instruction makes known, where `known` is known before it
abbrev pub learned : List Function → List Fact → Instruction → List Sum
learned functions known (instruction.Binary d operator width x y) = binary_sums known operator (Register d) x y
learned functions known (instruction.Convert d conversion x) = conversion_sums known conversion (Register d) x
learned functions known (instruction.Call d callee arguments) = call_sums (slice_get functions callee.0) arguments d
learned functions known other = []
