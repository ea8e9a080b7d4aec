-- The kinds of items: which one a line is, and what it says.
use Rattle.std.specs.Prelude.{ℕ, ◌==◌, List, [], ◌∷◌, codes, Option, None, if◌then◌else◌, option_map}
use Rattle.std.specs.Str.{bytes_eq}
use Rattle.syntax.specs.declared.instruction.Instruction.{Instruction}
use Rattle.ir_instruction.specs.declared.symbol.Symbol.{Symbol}
use Rattle.ir_instruction.specs.declared.symbol.Symbol.TheVariants.{Register, Global, Word, Mark}
use Rattle.ir_instruction.specs.Outcome.{◌>>=◌}
use Rattle.ir_instruction.specs.Fronts.{is_mark, behind, mark_at}
use Rattle.ir_instruction.specs.Shape.{Gaps, gaps_of}
use Rattle.ir_instruction.specs.Grammar.{phi_shape, phi_from, call, fixed, store, atomic_shape, atomic_from}
use Rattle.ir_instruction.specs.Grammar.{call_void_shape, call_void_from}
use Rattle.ir_instruction.specs.Grammar.{global_shape, define_shape, terminator_in}
use Rattle.ir_reader.specs.declared.item.item.Item.{Item}
use Rattle.ir_reader.specs.declared.item.item.Item.TheVariants as item

abbrev pub global_from : ℕ → List ℕ → Gaps global_shape → Item
global_from at name g = item.Global (record { line = at; name = name; cells = g.0 })

abbrev pub define_from : Gaps define_shape → Item
define_from g = item.Define g.1.0 g.0 g.1.1.0

-- behind '%d =' and a word
abbrev pub worded_definition : ℕ → List ℕ → List ℕ → List Symbol → Option Item
worded_definition at d text rest = if bytes_eq text (codes "phi") then option_map (λ g. item.Phi (phi_from at d g))
    (gaps_of phi_shape rest) else if bytes_eq text (codes "call") then option_map item.Instruction (call d rest)
    else option_map item.Instruction (fixed d text rest)

-- behind '%d ='
unfoldable pub definition : ℕ → List ℕ → List Symbol → Option Item
definition at d (Word text ∷ rest) = worded_definition at d text rest
definition at d _ = None

-- behind a first word that is no label
unfoldable pub worded : List ℕ → List Symbol → Option Item
worded text rest = if bytes_eq text (codes "define") then option_map define_from (gaps_of define_shape rest)
    else if bytes_eq text (codes "store") then option_map item.Instruction (store rest)
    else if bytes_eq text (codes "atomicrmw") then option_map (λ g. item.Instruction (atomic_from g)) (gaps_of
    atomic_shape rest) else if bytes_eq text (codes "call") then option_map (λ g. item.Instruction (call_void_from g))
    (gaps_of call_void_shape rest) else option_map item.Terminator (terminator_in text rest)

-- The item of a line that has tokens and is no annotation; at is the line's number. A word before a colon is a label,
-- however it is spelled.
unfoldable pub item_in : ℕ → List Symbol → Option Item
item_in at (Register d ∷ rest) = mark_at 61 rest >>= definition at d
item_in at (Global name ∷ rest) = option_map (global_from at name) (gaps_of global_shape rest)
item_in at (Word text ∷ rest) = if is_mark 58 rest then option_map (λ g. item.Label text)
    (gaps_of [] (behind rest)) else worded text rest
item_in at (Mark byte ∷ rest) = if byte == 125 then option_map (λ g. item.Close) (gaps_of [] rest) else None
item_in at _ = None
