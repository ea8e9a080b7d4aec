-- Numbers as text and as bytes.
use Rattle.std.specs.Prelude.{◌≡◌, ◌≢◌, ℕ, ℤ, FitsSigned, Bool, not, ◌==◌, ◌||◌, List, [], ◌∷◌, ◌++◌, ◌+◌, All, filter}
use Rattle.std.specs.Prelude.{flat_map, length, reverse, true}
use Rattle.std.specs.List.{list_all, prefix_len}
use Rattle.std.specs.Fmt.{signed_decimal}
use Rattle.std.specs.Int.{w64, cast_signed, cast_unsigned, from_le_bytes, to_le_bytes}
use Rattle.std.specs.Str.Parse.{IsNumeral, signed_digits_value, without_leading_sign}
use Rattle.cli_words.specs.declared.io.fault.DataFault.{DataFault}
use Rattle.cli_words.specs.declared.io.fault.DataFault.TheVariants.{Memory, NoNumber}

-- ---- text

-- space, tab, LF and CR part numbers
abbrev pub is_blank : ℕ → Bool
is_blank byte = byte == 32 || byte == 9 || byte == 10 || byte == 13

abbrev pub is_solid : ℕ → Bool
is_solid byte = not (is_blank byte)

-- LF ends a line
abbrev pub is_end : ℕ → Bool
is_end byte = byte == 10

abbrev pub is_inside : ℕ → Bool
is_inside byte = not (byte == 10)

-- a sign or none, and digits: a number of 64 bits
pub record IsNumber (word : List ℕ) (z : ℤ) : Type 0 where
  pub is_numeral : IsNumeral 10 (without_leading_sign word)
  pub value : signed_digits_value 10 word ≡ z
  pub fits : FitsSigned w64 z

-- the first word of a text and what follows it
pub record IsNext (text word after : List ℕ) : Type 0 where
  pub blanks : List ℕ
  pub is_split : text ≡ blanks ++ (word ++ after)
  pub are_blank : list_all is_blank blanks ≡ true
  pub are_solid : list_all is_solid word ≡ true
  pub is_some : word ≢ []
  pub is_whole : prefix_len is_solid after ≡ 0

-- the text begins with these numbers, and this follows them
abbrev pub Begins : List ℕ → List ℤ → List ℕ → Type 0
Begins text [] rest = text ≡ rest
Begins text (z ∷ numbers) rest = (word after : List ℕ) × IsNext text word after × IsNumber word z ×
    Begins after numbers rest

-- the text has these numbers and nothing else
pub record IsNumbers (text : List ℕ) (numbers : List ℤ) : Type 0 where
  pub rest : List ℕ
  pub begins : Begins text numbers rest
  pub is_all : list_all is_blank rest ≡ true

-- the line and the column of what stands behind this beginning of a text
abbrev pub line_after : List ℕ → ℕ
line_after before = 1 + length (filter is_end before)

abbrev pub column_after : List ℕ → ℕ
column_after before = 1 + prefix_len is_inside (reverse before)

-- behind some numbers stands a word that is none
pub record IsNoNumber (text : List ℕ) (line column : ℕ) : Type 0 where
  pub numbers : List ℤ
  pub rest : List ℕ
  pub begins : Begins text numbers rest
  pub word : List ℕ
  pub after : List ℕ
  pub is_next : IsNext rest word after
  pub is_none : (z : ℤ) → IsNumber word z → ⊥
  pub before : List ℕ
  pub is_split : text ≡ before ++ (word ++ after)
  pub is_line : line ≡ line_after before
  pub is_column : column ≡ column_after before

-- want of memory may come at any place
abbrev pub IsFault : List ℕ → DataFault → Type 0
IsFault text (NoNumber line column) = IsNoNumber text line column
IsFault text Memory = Unit {0}

-- a line for each number
abbrev pub line_of : ℤ → List ℕ
line_of z = signed_decimal z ++ 10 ∷ []

-- what is printed of numbers is read as these numbers
abbrev pub ReadsBack : Type 0
ReadsBack = (numbers : List ℤ) → All (FitsSigned w64) numbers → IsNumbers (flat_map line_of numbers) numbers

-- ---- bytes

-- the low byte first
unfoldable pub bytes_of : ℤ → List ℕ
bytes_of z = to_le_bytes w64 (cast_unsigned w64 z)

unfoldable pub word_of : List ℕ → ℤ
word_of bytes = cast_signed w64 (from_le_bytes w64 bytes)
