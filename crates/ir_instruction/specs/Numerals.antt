-- Numbers as lines spell them.
use Rattle.std.specs.Prelude.{ℕ, ◌+◌, ◌-◌, ◌*◌, ◌/◌, ◌%◌, ℤ, pos, negsuc, nat_lt, nat_le, slice_index, Bool, false, not}
use Rattle.std.specs.Prelude.{◌&&◌, ◌==◌, List, [], ◌∷◌}
use Rattle.std.specs.Prelude.{length, Option, Some, None, if◌then◌else◌}
use Rattle.std.specs.Ordering.{int_eq}
use Rattle.std.specs.Str.{bytes_eq}
use Rattle.ir_instruction.specs.declared.symbol.Numeral.{Numeral}
use Rattle.ir_instruction.specs.declared.symbol.Numeral.TheVariants.{Small, Large}

-- the number, or 0 where it is outside i64
abbrev pub value_of : Numeral → ℤ
value_of (Small n) = n
value_of (Large digits) = pos 0

abbrev pub is_negative : List ℕ → Bool
is_negative [] = false
is_negative (b ∷ bs) = b == 45

abbrev pub digit_from_end : ℕ → List ℕ → ℕ
digit_from_end k digits = slice_index digits (length digits - k) - 48

-- A number of three digits or more is a multiple of 8 where its last three digits are, as 1000 is.
abbrev pub is_multiple_of_eight : List ℕ → Bool
is_multiple_of_eight digits = nat_le 3 (length digits) &&
    (digit_from_end 3 digits * 100 + digit_from_end 2 digits * 10 + digit_from_end 1 digits) % 8 == 0

-- a number from 1 on; one that is too large counts as 1
abbrev pub count_of : Numeral → Option ℕ
count_of (Small (pos n)) = if nat_lt 0 n then Some n else None
count_of (Small (negsuc n)) = None
count_of (Large digits) = if is_negative digits then None else Some 1

-- how many cells of 8 bytes so many bytes are, if they are some
abbrev pub cells_of_bytes : Numeral → Option ℕ
cells_of_bytes (Small (pos n)) = if nat_lt 0 n && n % 8 == 0 then Some (n / 8) else None
cells_of_bytes (Small (negsuc n)) = None
cells_of_bytes (Large digits) = if not (is_negative digits) && is_multiple_of_eight digits then Some 1 else None

abbrev pub is_same_number : Numeral → Numeral → Bool
is_same_number (Small n) (Small m) = int_eq n m
is_same_number (Large n) (Large m) = bytes_eq n m
is_same_number _ _ = false
