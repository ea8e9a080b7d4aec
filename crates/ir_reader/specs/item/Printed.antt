-- Items as a module's text keeps them, and the lines that print them.
use Rattle.std.specs.Prelude.{◌≡◌, ℕ, true, List, ◌∷◌}
use Rattle.std.specs.List.{list_all}
use Rattle.ir_lex.specs.Words.{words_text}
use Rattle.ir_annotation.specs.Annotations.{IsKeptAnnotation, annotation_words, annotation_on}
use Rattle.ir_reader.specs.declared.item.item.Item.{Item}
use Rattle.ir_reader.specs.declared.item.item.Item.TheVariants as item
use Rattle.ir_reader.specs.declared.item.line.Line.{Line}
use Rattle.ir_instruction.specs.Symbols.{is_within_limits}
use Rattle.ir_instruction.specs.Spelling.{text_of, symbols_in}
use Rattle.ir_reader.specs.item.Items.{item_atoms}
use Rattle.ir_instruction.specs.Spelled.{are_spelled}
use Rattle.ir_reader.specs.item.Items.{item_fits}

-- the same item on another line
abbrev pub item_on : ℕ → Item → Item
item_on at (item.Global g) = item.Global (record g { line = at })
item_on at (item.Phi p) = item.Phi (record p { line = at })
item_on at (item.Annotation a) = item.Annotation (annotation_on at a)
item_on at i = i

-- its parts fit its shape, its names are names of at most 64 bytes, and its numbers are in i64
pub record IsSpelledItem (i : Item) : Type 0 where
  pub fits : item_fits 0 (item_on 0 i) ≡ true
  pub spelled : are_spelled (item_atoms i) ≡ true
  pub within : list_all is_within_limits (symbols_in (item_atoms i)) ≡ true

abbrev pub IsKeptItem : Item → Type 0
IsKeptItem (item.Annotation a) = IsKeptAnnotation a
IsKeptItem i = IsSpelledItem i

-- what prints an item, behind any spaces
abbrev pub item_text : Item → List ℕ
item_text (item.Annotation a) = 59 ∷ 33 ∷ words_text (annotation_words a)
item_text i = text_of (item_atoms i)

-- within the limits
abbrev pub said : Item → Line
said i = record { item = i; is_within_limits = true }
