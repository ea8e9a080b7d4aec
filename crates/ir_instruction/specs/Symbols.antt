-- What the tokens of a line stand for.
use Rattle.std.specs.Prelude.{ℕ, ◌^◌, ℤ, pos, negsuc, nat_lt, nat_le, ◌==◌, Bool, true, false, List, drop, length}
use Rattle.std.specs.Prelude.{slice_index, Option, Some, None}
use Rattle.std.specs.Prelude.{if◌then◌else◌}
use Rattle.std.specs.Str.Parse.{signed_digits_value}
use Rattle.ir_lex.specs.declared.token.Kind.{Kind}
use Rattle.ir_lex.specs.declared.token.Kind.TheVariants as kinds
use Rattle.ir_lex.specs.declared.token.Token.{Token}
use Rattle.ir_lex.specs.Texts.{text_at}
use Rattle.ir_instruction.specs.declared.symbol.Numeral.{Numeral}
use Rattle.ir_instruction.specs.declared.symbol.Numeral.TheVariants.{Small, Large}
use Rattle.ir_instruction.specs.declared.symbol.Symbol.{Symbol}
use Rattle.ir_instruction.specs.declared.symbol.Symbol.TheVariants.{Register, Global, Number, Word, Mark, Note}

abbrev pub fits_i64 : ℤ → Bool
fits_i64 (pos n) = nat_lt n (2 ^ 63)
fits_i64 (negsuc n) = nat_lt n (2 ^ 63)

-- the number that digits behind an optional sign write, where it is in i64
unfoldable pub number_of : List ℕ → Option ℤ
number_of text = if fits_i64 (signed_digits_value 10 text) then Some (signed_digits_value 10 text) else None

abbrev pub small_or_large : List ℕ → Option ℤ → Numeral
small_or_large text None = Large text
small_or_large text (Some n) = Small n

abbrev pub numeral_of : List ℕ → Numeral
numeral_of text = small_or_large text (number_of text)

-- %name or @name
abbrev pub named : List ℕ → Symbol
named text = if slice_index text 0 == 37 then Register (drop 1 text) else Global (drop 1 text)

abbrev pub symbol_of : Kind → List ℕ → Symbol
symbol_of kinds.Name text = named text
symbol_of kinds.Number text = Number (numeral_of text)
symbol_of kinds.Word text = Word text
symbol_of kinds.Mark text = Mark (slice_index text 0)
symbol_of kinds.Note text = Note

abbrev pub symbol_at : List ℕ → Token → Symbol
symbol_at line t = symbol_of t.kind (text_at line t)

-- a number is in i64, and a name has at most 64 bytes
abbrev pub is_within_limits : Symbol → Bool
is_within_limits (Register name) = nat_le (length name) 64
is_within_limits (Global name) = nat_le (length name) 64
is_within_limits (Number (Large digits)) = false
is_within_limits (Word name) = nat_le (length name) 64
is_within_limits other = true
