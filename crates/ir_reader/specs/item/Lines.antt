-- What a line says.
use Rattle.std.specs.Prelude.{◌≡◌, ℕ, List, [], ◌∷◌, map, Option, Some, None, Result, Ok, Err, IsUtf8}
use Rattle.std.specs.List.{list_all}
use Rattle.ir_annotation.specs.declared.meaning.AnnotationLine.{AnnotationLine}
use Rattle.ir_annotation.specs.Lines.{annotation_of}
use Rattle.ir_lex.specs.declared.token.Kind.{Kind}
use Rattle.ir_lex.specs.declared.token.Kind.TheVariants as kinds
use Rattle.ir_lex.specs.declared.token.Token.{Token}
use Rattle.ir_lex.specs.Tokens.{tokens_of}
use Rattle.ir_lex.specs.Texts.{text_at}
use Rattle.ir_reader.specs.declared.item.item.Item.{Item}
use Rattle.ir_reader.specs.declared.item.item.Item.TheVariants.{Annotation}
use Rattle.ir_reader.specs.declared.item.line.Line.{Line}
use Rattle.ir_instruction.specs.declared.symbol.Symbol.{Symbol}
use Rattle.ir_instruction.specs.Symbols.{symbol_at, is_within_limits}
use Rattle.ir_reader.specs.item.Grammar.{item_in}

abbrev pub annotation_line : Result AnnotationLine ℕ → Result (Option Line) ℕ
annotation_line (Ok found) =
    Ok (Some (record { item = Annotation found.annotation; is_within_limits = found.is_within_limits }))
annotation_line (Err number) = Err number

abbrev pub item_line : List Symbol → Option Item → Result (Option Line) ℕ
item_line symbols None = Err 103
item_line symbols (Some item) = Ok (Some (record { item = item; is_within_limits = list_all is_within_limits symbols }))

abbrev pub tokens_line : ℕ → List ℕ → Kind → List Token → List Token → Result (Option Line) ℕ
tokens_line at line kinds.Note words tokens = annotation_line (annotation_of (map (text_at line) words) at)
tokens_line at line _ words tokens = item_line (map (symbol_at line) tokens) (item_in at (map (symbol_at line) tokens))

-- what the tokens of a line say: nothing, an annotation, or an item of another kind; else 103 or 107
abbrev pub meaning_of : ℕ → List ℕ → List Token → Result (Option Line) ℕ
meaning_of at line [] = Ok None
meaning_of at line (t ∷ ts) = tokens_line at line t.kind ts (t ∷ ts)

abbrev pub meaning_if_any : ℕ → List ℕ → Option (List Token) → Result (Option Line) ℕ
meaning_if_any at line None = Err 102
meaning_if_any at line (Some tokens) = meaning_of at line tokens

-- what a line of UTF-8 says, or its fault; at is its number
abbrev pub line_of : ℕ → List ℕ → Result (Option Line) ℕ
line_of at line = meaning_if_any at line (tokens_of line)

-- 101 where the line is no UTF-8
pub data IsLineFault (at : ℕ) (line : List ℕ) : ℕ → Type 0 where
  NotUtf8 : (IsUtf8 line → ⊥) → IsLineFault at line 101
  NotSaid : (number : ℕ) → IsUtf8 line → line_of at line ≡ Err number → IsLineFault at line number
