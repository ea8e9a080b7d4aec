-- Which values the gaps of a line can hold.
use Rattle.std.specs.Prelude.{nat_lt, Bool, true, false, not, ◌&&◌, List, [], ◌∷◌}
use Rattle.std.specs.Str.{bytes_eq}
use Rattle.syntax.specs.declared.instruction.AllocaSize.TheVariants.{Array}
use Rattle.syntax.specs.declared.instruction.Instruction.{Instruction}
use Rattle.syntax.specs.declared.instruction.Instruction.TheVariants as instruction
use Rattle.syntax.specs.declared.terminator.Terminator.{Terminator}
use Rattle.syntax.specs.declared.terminator.Terminator.TheVariants as terminator
use Rattle.ir_instruction.specs.Cases.{are_cases_of}
use Rattle.ir_instruction.specs.Spelling.{spelled_cases}
use Rattle.std.specs.List.{list_all}
use Rattle.syntax.specs.declared.module.Parameter.{Parameter}
use Rattle.syntax.specs.declared.module.Parameter.TheVariants as parameter
use Rattle.ir_instruction.specs.Shape.{Gap, register, function, label, operand, pointer, array, width, result_type}
use Rattle.ir_instruction.specs.Shape.{predicate, parameters, arguments}
use Rattle.ir_instruction.specs.Shape.{cases, entries, Piece, word, mark, named, gap, space, Held, Gaps}

-- a pointer has a cell at least
abbrev pub has_cells : Parameter → Bool
has_cells (parameter.Number name) = true
has_cells (parameter.Pointer name cells) = nat_lt 0 cells

abbrev pub is_some_list : {A : Type 0} → List A → Bool
is_some_list [] = false
is_some_list (x ∷ xs) = true

-- arrays have a cell at least; a phi has an entry and a switch a case
abbrev pub fits : (g : Gap) → Held g → Bool
fits register name = true
fits function name = true
fits label name = true
fits operand value = true
fits pointer address = true
fits array n = nat_lt 0 n
fits width w = true
fits result_type r = true
fits predicate p = true
fits parameters ps = list_all has_cells ps
fits arguments xs = true
fits cases cs = is_some_list cs
fits entries es = is_some_list es

-- what a shape's gaps hold fits them
abbrev pub gaps_fit : (shape : List Piece) → Gaps shape → Bool
gaps_fit [] gaps = true
gaps_fit (word text ∷ shape) gaps = gaps_fit shape gaps
gaps_fit (mark byte ∷ shape) gaps = gaps_fit shape gaps
gaps_fit (named text ∷ shape) gaps = gaps_fit shape gaps
gaps_fit (gap g ∷ shape) gaps = fits g gaps.0 && gaps_fit shape gaps.1
gaps_fit (space ∷ shape) gaps = gaps_fit shape gaps

-- entries go up to the line's end
abbrev pub may_stand : Gap → List Piece → Bool
may_stand entries [] = true
may_stand entries (p ∷ ps) = false
may_stand _ shape = true

abbrev pub all_fit : (shape : List Piece) → Gaps shape → Bool
all_fit [] gaps = true
all_fit (word text ∷ shape) gaps = all_fit shape gaps
all_fit (mark byte ∷ shape) gaps = all_fit shape gaps
all_fit (named text ∷ shape) gaps = all_fit shape gaps
all_fit (gap g ∷ shape) gaps = (fits g gaps.0 && may_stand g shape) && all_fit shape gaps.1
all_fit (space ∷ shape) gaps = all_fit shape gaps

abbrev pub instruction_fits : Instruction → Bool
instruction_fits (instruction.Alloca d (Array n)) = nat_lt 0 n
instruction_fits (instruction.StoreZeros n p) = nat_lt 0 n
instruction_fits _ = true

-- the labels of a branch, a detach and a switch differ, and so do the numbers of a switch
abbrev pub terminator_fits : Terminator → Bool
terminator_fits (terminator.Branch c t f) = not (bytes_eq t f)
terminator_fits (terminator.Detach s d c) = not (bytes_eq d c)
terminator_fits (terminator.Switch w v d cs) = is_some_list (spelled_cases w cs) && are_cases_of w d
    (spelled_cases w cs)
terminator_fits _ = true
