-- The words of an annotation but forms.
use Rattle.std.specs.Prelude.{ℕ, ◌==◌, nat_le, List, [], ◌∷◌, length, codes, Result, Ok, Err, if◌then◌else◌}
use Rattle.std.specs.Str.{bytes_eq}
use Rattle.syntax.specs.declared.annotation.Relation.{Relation}
use Rattle.syntax.specs.declared.annotation.Relation.TheVariants.{AtMost, AtLeast}
use Rattle.syntax.specs.declared.instruction.Address.{Address}
use Rattle.syntax.specs.declared.instruction.Address.TheVariants as address
use Rattle.syntax.specs.declared.operator.Mode.{Mode}
use Rattle.syntax.specs.declared.operator.Mode.TheVariants.{Reads, Writes, Adds}
use Rattle.ir_lex.specs.Numerals.{is_numeral, small_value}
use Rattle.ir_lex.specs.Spelling.{is_name}
use Rattle.ir_annotation.specs.declared.limits.Limited.{Limited}
use Rattle.ir_annotation.specs.Reading.{◌>>=◌}
use Rattle.ir_annotation.specs.Limits.{limited, up_to}

-- a number without sign, with its limit
unfoldable pub number_of : ℕ → List ℕ → Result (Limited ℕ) ℕ
number_of most word = if is_numeral word then Ok (up_to most (small_value word)) else Err 103

unfoldable pub name_of : List ℕ → Result (Limited (List ℕ)) ℕ
name_of name = if is_name name then Ok (limited name (nat_le (length name) 64)) else Err 103

-- % and a name
abbrev pub register_of : List ℕ → Result (Limited (List ℕ)) ℕ
register_of [] = Err 103
register_of (sigil ∷ name) = if sigil == 37 then name_of name else Err 103

-- a register, or @ and a name
abbrev pub object_of : List ℕ → Result (Limited Address) ℕ
object_of [] = Err 103
object_of (sigil ∷ name) = if sigil == 37 then (name_of name >>=
    λ n. Ok (limited (address.Register n.value) n.is_within_limits)) else if sigil == 64 then (name_of name >>=
    λ n. Ok (limited (address.Global n.value) n.is_within_limits)) else Err 103

abbrev pub relation_of : List ℕ → Result Relation ℕ
relation_of word = if bytes_eq word (codes "<=") then Ok AtMost else if bytes_eq word (codes ">=") then Ok AtLeast
    else Err 103

abbrev pub mode_of : List ℕ → Result Mode ℕ
mode_of word = if bytes_eq word (codes "reads") then Ok Reads else if bytes_eq word (codes "writes") then Ok Writes
    else if bytes_eq word (codes "adds") then Ok Adds else Err 103
