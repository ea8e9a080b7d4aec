-- Which symbols and spaces make a line that is cut at its symbols again.
use Rattle.std.specs.Prelude.{Bool, true, false, ◌&&◌, List, [], ◌∷◌}
use Rattle.ir_lex.specs.Spelling.{is_name, is_mark}
use Rattle.ir_instruction.specs.declared.symbol.Numeral.TheVariants.{Small, Large}
use Rattle.ir_instruction.specs.declared.symbol.Symbol.{Symbol}
use Rattle.ir_instruction.specs.declared.symbol.Symbol.TheVariants.{Register, Global, Number, Word, Mark, Note}
use Rattle.ir_instruction.specs.Symbols.{fits_i64}
use Rattle.ir_instruction.specs.Spelling.{Atom, Token, Blank}

-- names are spelled as names, and numbers are in i64
abbrev pub is_spelled : Symbol → Bool
is_spelled (Register name) = is_name name
is_spelled (Global name) = is_name name
is_spelled (Number (Small n)) = fits_i64 n
is_spelled (Number (Large digits)) = false
is_spelled (Word text) = is_name text
is_spelled (Mark byte) = is_mark byte
is_spelled Note = false

-- a space, a mark or the end comes next
abbrev pub parts : List Atom → Bool
parts [] = true
parts (Blank ∷ atoms) = true
parts (Token (Mark byte) ∷ atoms) = is_mark byte
parts (Token _ ∷ atoms) = false

-- marks part themselves
abbrev pub is_parted_from : Symbol → List Atom → Bool
is_parted_from (Mark byte) atoms = true
is_parted_from _ atoms = parts atoms

abbrev pub are_spelled : List Atom → Bool
are_spelled [] = true
are_spelled (Blank ∷ atoms) = are_spelled atoms
are_spelled (Token s ∷ atoms) = (is_spelled s && is_parted_from s atoms) && are_spelled atoms
