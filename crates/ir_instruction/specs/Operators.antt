-- The words of operations.
use Rattle.std.specs.Prelude.{ℕ, List, ◌∷◌, codes, Option, Some, None, if◌then◌else◌, option_map}
use Rattle.std.specs.Str.{bytes_eq}
use Rattle.syntax.specs.declared.operator.BinaryOperator.{BinaryOperator}
use Rattle.syntax.specs.declared.operator.BinaryOperator.TheVariants.{Add, Subtract, Multiply, AddNoWrap}
use Rattle.syntax.specs.declared.operator.BinaryOperator.TheVariants.{SubtractNoWrap, MultiplyNoWrap}
use Rattle.syntax.specs.declared.operator.BinaryOperator.TheVariants.{SignedDivide, UnsignedDivide, SignedRemainder}
use Rattle.syntax.specs.declared.operator.BinaryOperator.TheVariants.{UnsignedRemainder, ShiftLeft}
use Rattle.syntax.specs.declared.operator.BinaryOperator.TheVariants.{LogicalShiftRight, ArithmeticShiftRight, And, Or}
use Rattle.syntax.specs.declared.operator.BinaryOperator.TheVariants.{ExclusiveOr}
use Rattle.syntax.specs.declared.operator.Predicate.{Predicate}
use Rattle.syntax.specs.declared.operator.Predicate.TheVariants.{Equal, NotEqual, UnsignedGreater, UnsignedAtLeast}
use Rattle.syntax.specs.declared.operator.Predicate.TheVariants.{UnsignedLess, UnsignedAtMost}
use Rattle.syntax.specs.declared.operator.Predicate.TheVariants.{SignedGreater, SignedAtLeast, SignedLess, SignedAtMost}
use Rattle.ir_instruction.specs.declared.symbol.Symbol.{Symbol}
use Rattle.ir_instruction.specs.declared.symbol.Symbol.TheVariants.{Word}

-- the operation that a word names without nsw
unfoldable pub operator_of : List ℕ → Option BinaryOperator
operator_of word = if bytes_eq word (codes "add") then Some Add else if bytes_eq word (codes "sub") then Some Subtract
    else if bytes_eq word (codes "mul") then Some Multiply else if bytes_eq word (codes "sdiv") then Some SignedDivide
    else if bytes_eq word (codes "udiv") then Some UnsignedDivide
    else if bytes_eq word (codes "srem") then Some SignedRemainder
    else if bytes_eq word (codes "urem") then Some UnsignedRemainder
    else if bytes_eq word (codes "shl") then Some ShiftLeft
    else if bytes_eq word (codes "lshr") then Some LogicalShiftRight
    else if bytes_eq word (codes "ashr") then Some ArithmeticShiftRight
    else if bytes_eq word (codes "and") then Some And else if bytes_eq word (codes "or") then Some Or
    else if bytes_eq word (codes "xor") then Some ExclusiveOr else None

-- the same operation with nsw, where it has one
abbrev pub without_wrap : BinaryOperator → Option BinaryOperator
without_wrap Add = Some AddNoWrap
without_wrap Subtract = Some SubtractNoWrap
without_wrap Multiply = Some MultiplyNoWrap
without_wrap _ = None

unfoldable pub predicate_of : List ℕ → Option Predicate
predicate_of word = if bytes_eq word (codes "eq") then Some Equal else if bytes_eq word (codes "ne") then Some NotEqual
    else if bytes_eq word (codes "ugt") then Some UnsignedGreater
    else if bytes_eq word (codes "uge") then Some UnsignedAtLeast
    else if bytes_eq word (codes "ult") then Some UnsignedLess
    else if bytes_eq word (codes "ule") then Some UnsignedAtMost
    else if bytes_eq word (codes "sgt") then Some SignedGreater
    else if bytes_eq word (codes "sge") then Some SignedAtLeast else if bytes_eq word (codes "slt") then Some SignedLess
    else if bytes_eq word (codes "sle") then Some SignedAtMost else None

abbrev pub predicate_at : List Symbol → Option (Predicate × List Symbol)
predicate_at (Word word ∷ rest) = option_map (λ predicate. (predicate, rest)) (predicate_of word)
predicate_at _ = None
