-- The cases of a switch.
use Rattle.std.specs.Prelude.{ℕ, Bool, true, not, ◌&&◌, ◌||◌, nat_le, List, [], ◌∷◌, length, map}
use Rattle.std.specs.List.{list_all, list_any}
use Rattle.std.specs.Str.{bytes_eq}
use Rattle.syntax.specs.declared.operator.Width.{Width}
use Rattle.syntax.specs.Widths.{is_same_width}
use Rattle.syntax.specs.declared.terminator.Case.{Case}
use Rattle.ir_instruction.specs.declared.switch.SpelledCase.{SpelledCase}
use Rattle.ir_instruction.specs.Numerals.{value_of, is_same_number}

abbrev pub share_number_or_label : SpelledCase → SpelledCase → Bool
share_number_or_label c d = bytes_eq c.target d.target || is_same_number c.number d.number

abbrev pub are_distinct : List SpelledCase → Bool
are_distinct [] = true
are_distinct (c ∷ cs) = not (list_any (share_number_or_label c) cs) && are_distinct cs

abbrev pub is_case_of : Width → List ℕ → SpelledCase → Bool
is_case_of width default c = is_same_width c.width width && not (bytes_eq c.target default)

-- At most 64 cases of this width, whose numbers differ, and whose labels differ from one another and from the default.
abbrev pub are_cases_of : Width → List ℕ → List SpelledCase → Bool
are_cases_of width default cs = nat_le (length cs) 64 && list_all (is_case_of width default) cs && are_distinct cs

abbrev pub case_from : SpelledCase → Case
case_from c = record { number = value_of c.number; target = c.target }

abbrev pub cases_from : List SpelledCase → List Case
cases_from cs = map case_from cs
