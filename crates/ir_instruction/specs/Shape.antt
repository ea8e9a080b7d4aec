-- The shape of a line: words, marks, and gaps for what differs from line to line.
use Rattle.std.specs.Prelude.{ℕ, List, [], ◌∷◌, Option, Some}
use Rattle.syntax.specs.declared.instruction.Operand.{Operand}
use Rattle.syntax.specs.declared.instruction.Address.{Address}
use Rattle.syntax.specs.declared.instruction.Argument.{Argument}
use Rattle.syntax.specs.declared.instruction.PhiEntry.{PhiEntry}
use Rattle.syntax.specs.declared.module.Parameter.{Parameter}
use Rattle.syntax.specs.declared.module.ResultType.{ResultType}
use Rattle.syntax.specs.declared.operator.Width.{Width}
use Rattle.syntax.specs.declared.operator.Predicate.{Predicate}
use Rattle.ir_instruction.specs.declared.symbol.Symbol.{Symbol}
use Rattle.ir_instruction.specs.declared.switch.SpelledCase.{SpelledCase}
use Rattle.ir_instruction.specs.Outcome.{◌>>=◌}
use Rattle.ir_instruction.specs.Fronts.{mark_at, word_at, named_at, end_at, register_at, global_at, label_at}
use Rattle.ir_instruction.specs.Fronts.{operand_at, pointer_at, array_at, width_at}
use Rattle.ir_instruction.specs.Fronts.{result_type_at}
use Rattle.ir_instruction.specs.Operators.{predicate_at}
use Rattle.ir_instruction.specs.Lists.{parameter_at, argument_at, all_at, all_cases_at, all_entries_at}

pub data Gap : Type 0 where
  register : Gap  -- %x
  function : Gap  -- @f
  label : Gap  -- label %l
  operand : Gap  -- V
  pointer : Gap  -- ptr P
  array : Gap  -- [N x i64]
  width : Gap  -- i64 or i32
  result_type : Gap  -- i64 or void
  predicate : Gap  -- eq, ne, ..
  parameters : Gap  -- PARAM, ..)
  arguments : Gap  -- ARG, ..)
  cases : Gap  -- T N, label %l ..]
  entries : Gap  -- [ V, %l ], .. up to the line's end

pub data Piece : Type 0 where
  word : List ℕ → Piece
  mark : ℕ → Piece
  named : List ℕ → Piece  -- this global
  gap : Gap → Piece
  space : Piece  -- a space of the canonical print

abbrev pub Held : Gap → Type 0
Held register = List ℕ
Held function = List ℕ
Held label = List ℕ
Held operand = Operand
Held pointer = Address
Held array = ℕ
Held width = Width
Held result_type = ResultType
Held predicate = Predicate
Held parameters = List Parameter
Held arguments = List Argument
Held cases = List SpelledCase
Held entries = List PhiEntry

-- what a shape's gaps hold, in order
abbrev pub Gaps : List Piece → Type 0
Gaps [] = Unit {0}
Gaps (gap g ∷ shape) = Held g × Gaps shape
Gaps (other ∷ shape) = Gaps shape

-- what a gap at the front of a line's rest holds, and what is left
abbrev pub gap_at : (g : Gap) → List Symbol → Option (Held g × List Symbol)
gap_at register = register_at
gap_at function = global_at
gap_at label = label_at
gap_at operand = operand_at
gap_at pointer = pointer_at
gap_at array = array_at
gap_at width = width_at
gap_at result_type = result_type_at
gap_at predicate = predicate_at
gap_at parameters = all_at parameter_at
gap_at arguments = all_at argument_at
gap_at cases = all_cases_at
gap_at entries = all_entries_at

-- what stands in the gaps of a line of this shape; nothing where the line has another
abbrev pub gaps_of : (shape : List Piece) → List Symbol → Option (Gaps shape)
gaps_of [] line = end_at line
gaps_of (word text ∷ shape) line = word_at text line >>= gaps_of shape
gaps_of (mark byte ∷ shape) line = mark_at byte line >>= gaps_of shape
gaps_of (named text ∷ shape) line = named_at text line >>= gaps_of shape
gaps_of (gap g ∷ shape) line = gap_at g line >>= λ found. gaps_of shape found.1 >>= λ gaps. Some (found.0, gaps)
gaps_of (space ∷ shape) line = gaps_of shape line
