-- Lists within a line.
use Rattle.std.specs.Prelude.{ℕ, zero, suc, List, [], ◌∷◌, length, codes, Option, Some, None, if◌then◌else◌}
use Rattle.syntax.specs.declared.instruction.Argument.{Argument}
use Rattle.syntax.specs.declared.instruction.Argument.TheVariants as argument
use Rattle.syntax.specs.declared.instruction.PhiEntry.{PhiEntry}
use Rattle.syntax.specs.declared.module.Parameter.{Parameter}
use Rattle.syntax.specs.declared.module.Parameter.TheVariants as parameter
use Rattle.ir_instruction.specs.declared.symbol.Symbol.{Symbol}
use Rattle.ir_instruction.specs.declared.switch.SpelledCase.{SpelledCase}
use Rattle.ir_instruction.specs.Outcome.{◌>>=◌}
use Rattle.ir_instruction.specs.Fronts.{mark_at, word_at, is_word, is_mark, behind, register_at}
use Rattle.ir_instruction.specs.Fronts.{label_at, numeral_at, operand_at, pointer_at, bytes_at, width_at}

-- the first element, and the others where more of them begin
abbrev pub more_at : {A : Type 0} → A × List Symbol → (List Symbol → Option (List A × List Symbol)) →
    Option (List Symbol) → Option (List A × List Symbol)
more_at first others None = Some (first.0 ∷ [], first.1)
more_at first others (Some rest) = others rest >>= λ found. Some (first.0 ∷ found.0, found.1)

-- One element or more, and what is left: element reads one, next tells where another one begins, and there are no more
-- of them than the number says.
unfoldable pub list_at : {A : Type 0} → (List Symbol → Option (A × List Symbol)) →
    (List Symbol → Option (List Symbol)) → ℕ → List Symbol → Option (List A × List Symbol)
list_at element next zero line = None
list_at element next (suc most) line = element line >>= λ first. more_at first (list_at element next most)
    (next first.1)

-- another element stands behind a comma
abbrev pub comma_at : List Symbol → Option (List Symbol)
comma_at line = if is_mark 44 line then Some (behind line) else None

-- another element stands where no ] does
abbrev pub case_follows : List Symbol → Option (List Symbol)
case_follows line = if is_mark 93 line then None else Some line

-- ptr noalias dereferenceable(B) %p
abbrev pub pointer_parameter_at : List Symbol → Option (Parameter × List Symbol)
pointer_parameter_at line = word_at (codes "ptr") line >>= word_at (codes "noalias") >>=
    word_at (codes "dereferenceable") >>= mark_at 40 >>= bytes_at >>= λ cells. mark_at 41 cells.1 >>= register_at >>=
    λ name. Some (parameter.Pointer name.0 cells.0, name.1)

abbrev pub number_parameter_at : List Symbol → Option (Parameter × List Symbol)
number_parameter_at line = word_at (codes "i64") line >>= register_at >>= λ name. Some (parameter.Number name.0, name.1)

abbrev pub parameter_at : List Symbol → Option (Parameter × List Symbol)
parameter_at line = if is_word (codes "ptr") line then pointer_parameter_at line else number_parameter_at line

abbrev pub pointer_argument_at : List Symbol → Option (Argument × List Symbol)
pointer_argument_at line = pointer_at line >>= λ found. Some (argument.Pointer found.0, found.1)

abbrev pub number_argument_at : List Symbol → Option (Argument × List Symbol)
number_argument_at line = word_at (codes "i64") line >>= operand_at >>= λ found. Some (argument.Number found.0, found.1)

abbrev pub argument_at : List Symbol → Option (Argument × List Symbol)
argument_at line = if is_word (codes "ptr") line then pointer_argument_at line else number_argument_at line

-- [ V, %l ]
abbrev pub entry_at : List Symbol → Option (PhiEntry × List Symbol)
entry_at line = mark_at 91 line >>= operand_at >>= λ found. mark_at 44 found.1 >>= register_at >>=
    λ name. mark_at 93 name.1 >>= λ rest. Some (record { value = found.0; predecessor = name.0 }, rest)

-- T N, label %l
abbrev pub case_at : List Symbol → Option (SpelledCase × List Symbol)
case_at line = width_at line >>= λ width. numeral_at width.1 >>= λ number. mark_at 44 number.1 >>= label_at >>=
    λ target. Some (record { width = width.0; number = number.0; target = target.0 }, target.1)

-- elements parted by commas up to ), which may be none
abbrev pub all_at : {A : Type 0} → (List Symbol → Option (A × List Symbol)) → List Symbol →
    Option (List A × List Symbol)
all_at element line = if is_mark 41 line then Some ([], behind line)
    else (list_at element comma_at (length line) line >>= λ found. mark_at 41 found.1 >>= λ rest. Some (found.0, rest))

-- cases up to ]
abbrev pub all_cases_at : List Symbol → Option (List SpelledCase × List Symbol)
all_cases_at line = list_at case_at case_follows (length line) line >>= λ found. mark_at 93 found.1 >>=
    λ rest. Some (found.0, rest)

-- entries up to the line's end
abbrev pub all_entries_at : List Symbol → Option (List PhiEntry × List Symbol)
all_entries_at line = list_at entry_at comma_at (length line) line
