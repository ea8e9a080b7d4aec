-- How tokens are spelled.
use Rattle.std.specs.Prelude.{ℕ, Bool, false, ◌&&◌, ◌||◌, not, ◌==◌, nat_le, List, [], ◌∷◌, length, Option}
use Rattle.std.specs.Prelude.{Some, None, if◌then◌else◌}
use Rattle.std.specs.List.{list_all}
use Rattle.std.specs.Char.{is_ascii_digit, is_ascii_alphabetic}
use Rattle.ir_lex.specs.declared.token.Kind.{Kind}
use Rattle.ir_lex.specs.declared.token.Kind.TheVariants.{Name, Number, Word}

-- a space or a tab
abbrev pub is_space : ℕ → Bool
is_space b = b == 32 || b == 9

-- one of = , ( ) [ ] { } :
abbrev pub is_mark : ℕ → Bool
is_mark b = b == 61 || b == 44 || b == 40 || b == 41 || b == 91 || b == 93 || b == 123 || b == 125 || b == 58

-- a run goes on up to a space, a mark or a semicolon; in an annotation up to a space
abbrev pub is_run_byte : ℕ → Bool
is_run_byte b = not (is_space b || is_mark b || b == 59)

abbrev pub is_word_byte : ℕ → Bool
is_word_byte b = not (is_space b)

-- a letter, _ or .
abbrev pub begins_name : ℕ → Bool
begins_name b = is_ascii_alphabetic b || b == 95 || b == 46

abbrev pub continues_name : ℕ → Bool
continues_name b = begins_name b || is_ascii_digit b

abbrev pub is_name : List ℕ → Bool
is_name [] = false
is_name (b ∷ bs) = begins_name b && list_all continues_name bs

-- a digit from 1 on, and digits
abbrev pub is_positive : List ℕ → Bool
is_positive [] = false
is_positive (b ∷ bs) = (nat_le 49 b && nat_le b 57) && list_all is_ascii_digit bs

abbrev pub is_number : List ℕ → Bool
is_number [] = false
is_number (b ∷ bs) = (b == 48 && length bs == 0) || (b == 45 && is_positive bs) || is_positive (b ∷ bs)

-- a name behind % or @
abbrev pub is_marked_name : List ℕ → Bool
is_marked_name [] = false
is_marked_name (b ∷ bs) = (b == 37 || b == 64) && is_name bs

abbrev pub kind_of : List ℕ → Option Kind
kind_of run = if is_name run then Some Word else if is_number run then Some Number
    else if is_marked_name run then Some Name else None

-- a word of an annotation has printed ASCII and no semicolon
abbrev pub is_printed : ℕ → Bool
is_printed b = (nat_le 33 b && nat_le b 126) && not (b == 59)

abbrev pub is_note_mark : List ℕ → Bool
is_note_mark (b ∷ c ∷ bs) = b == 59 && c == 33
is_note_mark other = false
