-- What stands at the front of a line's rest, and what is left behind it.
use Rattle.std.specs.Prelude.{ℕ, Bool, false, List, [], ◌∷◌, codes, ◌==◌, Option, Some, None, if◌then◌else◌, option_map}
use Rattle.std.specs.Str.{bytes_eq}
use Rattle.syntax.specs.declared.instruction.Operand.{Operand}
use Rattle.syntax.specs.declared.instruction.Operand.TheVariants as operand
use Rattle.syntax.specs.declared.instruction.Address.{Address}
use Rattle.syntax.specs.declared.instruction.Address.TheVariants as address
use Rattle.syntax.specs.declared.operator.Width.{Width}
use Rattle.syntax.specs.declared.operator.Width.TheVariants as width
use Rattle.syntax.specs.declared.module.ResultType.{ResultType}
use Rattle.syntax.specs.declared.module.ResultType.TheVariants as result_type
use Rattle.ir_instruction.specs.declared.symbol.Numeral.{Numeral}
use Rattle.ir_instruction.specs.declared.symbol.Symbol.{Symbol}
use Rattle.ir_instruction.specs.declared.symbol.Symbol.TheVariants.{Register, Global, Number, Word, Mark}
use Rattle.ir_instruction.specs.Outcome.{◌>>=◌}
use Rattle.ir_instruction.specs.Numerals.{value_of, count_of, cells_of_bytes}

abbrev pub mark_at : ℕ → List Symbol → Option (List Symbol)
mark_at mark (Mark found ∷ rest) = if found == mark then Some rest else None
mark_at mark _ = None

abbrev pub word_at : List ℕ → List Symbol → Option (List Symbol)
word_at text (Word found ∷ rest) = if bytes_eq found text then Some rest else None
word_at text _ = None

abbrev pub named_at : List ℕ → List Symbol → Option (List Symbol)
named_at text (Global found ∷ rest) = if bytes_eq found text then Some rest else None
named_at text _ = None

abbrev pub end_at : List Symbol → Option (Unit {0})
end_at [] = Some tt
end_at (s ∷ rest) = None

abbrev pub is_word : List ℕ → List Symbol → Bool
is_word text (Word found ∷ rest) = bytes_eq found text
is_word text _ = false

abbrev pub is_mark : ℕ → List Symbol → Bool
is_mark mark (Mark found ∷ rest) = found == mark
is_mark mark _ = false

abbrev pub behind : List Symbol → List Symbol
behind [] = []
behind (s ∷ rest) = rest

abbrev pub register_at : List Symbol → Option (List ℕ × List Symbol)
register_at (Register name ∷ rest) = Some (name, rest)
register_at _ = None

abbrev pub global_at : List Symbol → Option (List ℕ × List Symbol)
global_at (Global name ∷ rest) = Some (name, rest)
global_at _ = None

abbrev pub label_at : List Symbol → Option (List ℕ × List Symbol)
label_at line = word_at (codes "label") line >>= register_at

abbrev pub numeral_at : List Symbol → Option (Numeral × List Symbol)
numeral_at (Number n ∷ rest) = Some (n, rest)
numeral_at _ = None

abbrev pub operand_at : List Symbol → Option (Operand × List Symbol)
operand_at (Number n ∷ rest) = Some (operand.Number (value_of n), rest)
operand_at (Register name ∷ rest) = Some (operand.Register name, rest)
operand_at _ = None

abbrev pub address_at : List Symbol → Option (Address × List Symbol)
address_at (Global name ∷ rest) = Some (address.Global name, rest)
address_at (Register name ∷ rest) = Some (address.Register name, rest)
address_at _ = None

abbrev pub pointer_at : List Symbol → Option (Address × List Symbol)
pointer_at line = word_at (codes "ptr") line >>= address_at

abbrev pub count_at : List Symbol → Option (ℕ × List Symbol)
count_at (Number n ∷ rest) = option_map (λ count. (count, rest)) (count_of n)
count_at _ = None

-- [N x i64]
abbrev pub array_at : List Symbol → Option (ℕ × List Symbol)
array_at line = mark_at 91 line >>= count_at >>= λ count. word_at (codes "x") count.1 >>= word_at (codes "i64") >>=
    mark_at 93 >>= λ rest. Some (count.0, rest)

-- so many bytes, as cells
abbrev pub bytes_at : List Symbol → Option (ℕ × List Symbol)
bytes_at (Number n ∷ rest) = option_map (λ cells. (cells, rest)) (cells_of_bytes n)
bytes_at _ = None

abbrev pub width_at : List Symbol → Option (Width × List Symbol)
width_at line = if is_word (codes "i64") line then Some (width.Bits64, behind line)
    else if is_word (codes "i32") line then Some (width.Bits32, behind line) else None

abbrev pub result_type_at : List Symbol → Option (ResultType × List Symbol)
result_type_at line = if is_word (codes "i64") line then Some (result_type.Number, behind line)
    else if is_word (codes "void") line then Some (result_type.Void, behind line) else None
