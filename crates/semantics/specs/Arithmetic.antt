-- Operations on words of 64 and of 32 bits (LLVM Language Reference, "Binary Operations", "Bitwise Binary Operations",
-- "Conversion Operations", "icmp"). A word is a signed number of its width.
use Rattle.std.specs.Prelude.{ℕ, ◌-◌, ◌^◌, ◌/◌, ◌%◌, Bool, cond, not, ◌&&◌, nat_lt, nat_le, ℤ, pos, negsuc, ◌+ℤ◌, ◌-ℤ◌}
use Rattle.std.specs.Prelude.{◌*ℤ◌, int_lt, int_le, int_div, int_rem}
use Rattle.std.specs.Int.{w32, w64, cast_signed, cast_unsigned, int_wrap, int_bit_and, int_bit_or, int_bit_xor, int_shl}
use Rattle.std.specs.Int.{int_shr}
use Rattle.std.specs.Int.{Width as WordWidth}
use Rattle.std.specs.Ordering.{int_eq}
use mir.Val.{bits, hbits}
use Rattle.program.specs.syntax.declared.operator.Width.{Width}
use Rattle.program.specs.syntax.declared.operator.Width.TheVariants.{Bits64, Bits32}
use Rattle.program.specs.syntax.declared.operator.BinaryOperator.{BinaryOperator}
use Rattle.program.specs.syntax.declared.operator.BinaryOperator.TheVariants.{Add, Subtract, Multiply, AddNoWrap}
use Rattle.program.specs.syntax.declared.operator.BinaryOperator.TheVariants.{SubtractNoWrap, MultiplyNoWrap}
use Rattle.program.specs.syntax.declared.operator.BinaryOperator.TheVariants.{SignedDivide}
use Rattle.program.specs.syntax.declared.operator.BinaryOperator.TheVariants.{UnsignedDivide, SignedRemainder}
use Rattle.program.specs.syntax.declared.operator.BinaryOperator.TheVariants.{UnsignedRemainder, ShiftLeft}
use Rattle.program.specs.syntax.declared.operator.BinaryOperator.TheVariants.{LogicalShiftRight}
use Rattle.program.specs.syntax.declared.operator.BinaryOperator.TheVariants.{ArithmeticShiftRight, And, Or}
use Rattle.program.specs.syntax.declared.operator.BinaryOperator.TheVariants.{ExclusiveOr}
use Rattle.program.specs.syntax.declared.operator.Predicate.{Predicate}
use Rattle.program.specs.syntax.declared.operator.Predicate.TheVariants.{Equal, NotEqual, UnsignedGreater}
use Rattle.program.specs.syntax.declared.operator.Predicate.TheVariants.{UnsignedAtLeast, UnsignedLess, UnsignedAtMost}
use Rattle.program.specs.syntax.declared.operator.Predicate.TheVariants.{SignedGreater}
use Rattle.program.specs.syntax.declared.operator.Predicate.TheVariants.{SignedAtLeast, SignedLess, SignedAtMost}
use Rattle.program.specs.syntax.declared.operator.Conversion.{Conversion}
use Rattle.program.specs.syntax.declared.operator.Conversion.TheVariants.{Truncate, SignExtend, ZeroExtend}

-- why a run cannot go on
pub data Trap : Type 0 where
  -- a register or cell without value, a sum, difference or product past the width under nsw, a shift amount past the
  -- width
  Undefined : Trap
  BadIndex : Trap  -- an index outside its object
  BadDivisor : Trap  -- division by 0, or of the least value by -1
  -- a reattach that is not of its task's detach, a ret inside a task, an end with a child left, a region of another
  -- task
  Unmatched : Trap

pub data Answer : Type 0 where
  Gives : (z : ℤ) → Answer
  Traps : (trap : Trap) → Answer

abbrev pub word : Width → WordWidth
word Bits64 = w64
word Bits32 = w32

-- what is left of a number in the width's bits
abbrev pub wrapped : Width → ℤ → ℤ
wrapped w z = int_wrap (word w) z

abbrev pub least : Width → ℤ
least w = negsuc (2 ^ hbits (word w) - 1)

abbrev pub greatest : Width → ℤ
greatest w = pos (2 ^ hbits (word w) - 1)

abbrev pub fits : Width → ℤ → Bool
fits w z = int_le (least w) z && int_le z (greatest w)

-- modulo 2 to the number of bits
abbrev pub unsigned : Width → ℤ → ℕ
unsigned w z = cast_unsigned (word w) z

abbrev pub signed : Width → ℕ → ℤ
signed w n = cast_signed (word w) n

abbrev pub without_wrap : Width → ℤ → Answer
without_wrap w z = cond (fits w z) (Gives z) (Traps Undefined)

abbrev pub divides_signed : Width → ℤ → ℤ → Bool
divides_signed w x y = not (int_eq y (pos 0)) && not (int_eq x (least w) && int_eq y (negsuc 0))

abbrev pub divides_unsigned : ℤ → Bool
divides_unsigned y = not (int_eq y (pos 0))

abbrev pub is_amount : Width → ℤ → Bool
is_amount w y = nat_lt (unsigned w y) (bits (word w))

abbrev pub if_divisor : Bool → ℤ → Answer
if_divisor good z = cond good (Gives z) (Traps BadDivisor)

abbrev pub if_amount : Bool → ℤ → Answer
if_amount good z = cond good (Gives z) (Traps Undefined)

abbrev pub binary : BinaryOperator → Width → ℤ → ℤ → Answer
binary Add w x y = Gives (wrapped w (x +ℤ y))
binary Subtract w x y = Gives (wrapped w (x -ℤ y))
binary Multiply w x y = Gives (wrapped w (x *ℤ y))
binary AddNoWrap w x y = without_wrap w (x +ℤ y)
binary SubtractNoWrap w x y = without_wrap w (x -ℤ y)
binary MultiplyNoWrap w x y = without_wrap w (x *ℤ y)
binary SignedDivide w x y = if_divisor (divides_signed w x y) (int_div x y)
binary UnsignedDivide w x y = if_divisor (divides_unsigned y) (signed w (unsigned w x / unsigned w y))
binary SignedRemainder w x y = if_divisor (divides_signed w x y) (int_rem x y)
binary UnsignedRemainder w x y = if_divisor (divides_unsigned y) (signed w (unsigned w x % unsigned w y))
binary ShiftLeft w x y = if_amount (is_amount w y) (int_shl (word w) x (unsigned w y))
binary LogicalShiftRight w x y = if_amount (is_amount w y) (signed w (unsigned w x / 2 ^ unsigned w y))
binary ArithmeticShiftRight w x y = if_amount (is_amount w y) (int_shr x (unsigned w y))
binary And w x y = Gives (int_bit_and (word w) x y)
binary Or w x y = Gives (int_bit_or (word w) x y)
binary ExclusiveOr w x y = Gives (int_bit_xor (word w) x y)

abbrev pub compares : Predicate → Width → ℤ → ℤ → Bool
compares Equal w x y = int_eq x y
compares NotEqual w x y = not (int_eq x y)
compares UnsignedGreater w x y = nat_lt (unsigned w y) (unsigned w x)
compares UnsignedAtLeast w x y = nat_le (unsigned w y) (unsigned w x)
compares UnsignedLess w x y = nat_lt (unsigned w x) (unsigned w y)
compares UnsignedAtMost w x y = nat_le (unsigned w x) (unsigned w y)
compares SignedGreater w x y = int_lt y x
compares SignedAtLeast w x y = int_le y x
compares SignedLess w x y = int_lt x y
compares SignedAtMost w x y = int_le x y

abbrev pub converts : Conversion → ℤ → ℤ
converts Truncate x = wrapped Bits32 x
converts SignExtend x = x
converts ZeroExtend x = pos (unsigned Bits32 x)

-- a sum in a cell, modulo 2 ^ 64 (LLVM Language Reference, "atomicrmw")
abbrev pub cell_sum : ℤ → ℤ → ℤ
cell_sum x y = wrapped Bits64 (x +ℤ y)
