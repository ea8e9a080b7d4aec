-- The canonical print is read back, line by line.
use Rattle.std.specs.Prelude.{◌≡◌, ℕ, true, List, ◌∷◌, ◌++◌, Some, Ok}
use Rattle.std.specs.List.{list_all}
use Rattle.ir_annotation.specs.Lines.{annotation_of}
use Rattle.ir_reader.specs.declared.item.item.Item.{Item}
use Rattle.ir_instruction.specs.declared.symbol.Symbol.{Symbol}
use Rattle.ir_instruction.specs.Symbols.{is_within_limits}
use Rattle.ir_reader.specs.item.Grammar.{item_in}
use Rattle.ir_reader.specs.item.Lines.{annotation_line, line_of}
use Rattle.ir_instruction.specs.Spelling.{spaces, text_of, symbols_in}
use Rattle.ir_reader.specs.item.Items.{item_atoms}
use Rattle.ir_lex.specs.Words.{words_text, are_words}
use Rattle.ir_instruction.specs.Spelled.{are_spelled}
use Rattle.ir_reader.specs.item.Items.{item_fits}
use Rattle.ir_reader.specs.declared.item.line.Line.{Line}
use Rattle.ir_reader.specs.item.Printed.{item_on, IsKeptItem, item_text, said}

-- behind any spaces an item's print says the item
abbrev pub ItemsAreReadBack : Type 0
ItemsAreReadBack = (at k : ℕ) (i : Item) → item_fits at i ≡ true → are_spelled (item_atoms i) ≡ true
    → line_of at (spaces k ++ text_of (item_atoms i))
    ≡ Ok (Some (record { item = i; is_within_limits = list_all is_within_limits (symbols_in (item_atoms i)) }))

-- and words behind ;! say the annotation that they make
abbrev pub WordsAreReadBack : Type 0
WordsAreReadBack = (at k : ℕ) (words : List (List ℕ)) → are_words words ≡ true
    → line_of at (spaces k ++ (59 ∷ 33 ∷ words_text words)) ≡ annotation_line (annotation_of words at)

-- Symbols within the limits that say an item are its spelling, and the item is one that a line of this number can say.
abbrev pub SymbolsSpellTheirItem : Type 0
SymbolsSpellTheirItem = (at : ℕ) (line : List Symbol) (i : Item) → list_all is_within_limits line ≡ true →
    item_in at line ≡ Some i
    → (line ≡ symbols_in (item_atoms i)) × (item_fits at i ≡ true)

-- The line that prints an item which is kept says the item, on its own line and within the limits.
abbrev pub KeptItemsAreReadBack : Type 0
KeptItemsAreReadBack = (at k : ℕ) (i : Item) → IsKeptItem i →
    line_of at (spaces k ++ item_text i) ≡ Ok (Some (said (item_on at i)))

-- what a line says within the limits is kept
abbrev pub ReadItemsAreKept : Type 0
ReadItemsAreKept = (at : ℕ) (line : List ℕ) (l : Line) → line_of at line ≡ Ok (Some l) → l.is_within_limits ≡ true →
    IsKeptItem l.item
