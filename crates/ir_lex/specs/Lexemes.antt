-- What each token of a line is.
use Rattle.std.specs.Prelude.{◌≡◌, ℕ, ◌<◌, ◌≤◌, true, List, codes, length, map}
use Rattle.ir_lex.specs.declared.token.Kind.{Kind}
use Rattle.ir_lex.specs.declared.token.Kind.TheVariants.{Name, Number, Word, Mark, Note}
use Rattle.ir_lex.specs.declared.token.Token.{Token}
use Rattle.std.specs.List.{list_all}
use Rattle.ir_lex.specs.Spelling.{is_number, is_marked_name, is_mark, is_printed}
use Rattle.ir_lex.specs.Texts.{text_at}

abbrev pub HasKind : Kind → List ℕ → Type 0
HasKind Name text = is_marked_name text ≡ true
HasKind Number text = is_number text ≡ true
HasKind Word text = list_all is_printed text ≡ true
HasKind Mark text = (length text ≡ 1) × (list_all is_mark text ≡ true)
HasKind Note text = text ≡ codes ";!"

-- a token lies in its line, and its bytes are of its kind
pub record IsTokenOf (line : List ℕ) (t : Token) : Type 0 where
  pub some : t.from < t.to
  pub within : t.to ≤ length line
  pub kind : HasKind t.kind (text_at line t)

-- a token without its place: its kind and its bytes
abbrev pub Lexeme : Type 0
Lexeme = Kind × List ℕ

abbrev pub lexeme_at : List ℕ → Token → Lexeme
lexeme_at line t = (t.kind, text_at line t)

abbrev pub lexemes_of : List ℕ → List Token → List Lexeme
lexemes_of line ts = map (lexeme_at line) ts
