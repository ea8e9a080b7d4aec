-- Numbers without sign, and their values.
use Rattle.std.specs.Prelude.{ℕ, Bool, false, ◌&&◌, ◌||◌, ◌==◌, nat_lt, ◌^◌, List, [], ◌∷◌, length, Option, Some, None}
use Rattle.std.specs.Prelude.{if◌then◌else◌}
use Rattle.std.specs.Str.Parse.{digits_value}
use Rattle.ir_lex.specs.Spelling.{is_positive}

-- a number without sign
abbrev pub is_numeral : List ℕ → Bool
is_numeral [] = false
is_numeral (b ∷ bs) = (b == 48 && length bs == 0) || is_positive (b ∷ bs)

abbrev pub small_value : List ℕ → Option ℕ
small_value digits = if nat_lt (digits_value 10 digits) (2 ^ 64) then Some (digits_value 10 digits) else None
