-- Items that are read are as a module's text keeps them.
use Rattle.std.proofs.Common.{◌≡◌, ℕ, true, eqb, List, [], ◌∷◌, map, All, Option, Some, None, Result, Ok, Err, refl, sym, subst, ap, ◌∙◌}
use Rattle.std.specs.Prelude.{nat_lt}
use Rattle.std.specs.List.{list_all, AllByRecursion}
use Rattle.std.proofs.lemmas.Bool.{and_parts}
use Rattle.ir_lex.specs.declared.token.Kind.{Kind}
use Rattle.ir_lex.specs.declared.token.Kind.TheVariants as kinds
use Rattle.ir_lex.specs.declared.token.Token.{Token}
use Rattle.ir_lex.specs.Tokens.{tokens_of}
use Rattle.ir_lex.specs.Lexemes.{IsTokenOf}
use Rattle.ir_lex.specs.Texts.{text_at}
use Rattle.ir_lex.proofs.Hold.{all_hold}
use Rattle.ir_lex.proofs.PlainWords.{IsPlainToken, ArePlain, plain_words}
use Rattle.ir_annotation.specs.declared.meaning.AnnotationLine.{AnnotationLine}
use Rattle.ir_annotation.specs.Lines.{annotation_of}
use Rattle.ir_annotation.proofs.LinesRead.{annotation_read}
use Rattle.ir_reader.specs.declared.item.item.Item.{Item}
use Rattle.ir_reader.specs.declared.item.item.Item.TheVariants as item
use Rattle.ir_reader.specs.declared.item.line.Line.{Line}
use Rattle.ir_instruction.specs.declared.symbol.Symbol.{Symbol}
use Rattle.ir_instruction.specs.Symbols.{symbol_at, is_within_limits}
use Rattle.ir_instruction.specs.Fits.{is_some_list}
use Rattle.ir_reader.specs.item.Items.{item_fits, item_atoms}
use Rattle.ir_reader.specs.item.Grammar.{item_in}
use Rattle.ir_reader.specs.item.Lines.{annotation_line, item_line, tokens_line, meaning_of, meaning_if_any, line_of}
use Rattle.ir_instruction.specs.Spelling.{symbols_in}
use Rattle.ir_instruction.specs.Spelled.{is_spelled}
use Rattle.ir_reader.specs.item.Printed.{item_on, IsSpelledItem, IsKeptItem}
use Rattle.ir_instruction.proofs.Parted.{is_no_note, no_notes, spelled_if_parted, are_parted, shape_parted, instruction_parted, terminator_parted}
use Rattle.ir_reader.proofs.item.ItemTakes.{item_takes}
use Rattle.ir_instruction.proofs.SymbolsSpelled.{symbols_spelled}
use Rattle.ir_instruction.specs.Grammar.{phi_shape, global_shape, define_shape}

-- ---- items

item_parted : (i : Item) → are_parted (item_atoms i) ≡ true
item_parted (item.Global g) = shape_parted global_shape refl (g.cells, tt)
item_parted (item.Define name r ps) = shape_parted define_shape refl (r, (name, (ps, tt)))
item_parted (item.Label name) = refl
item_parted (item.Phi p) = shape_parted phi_shape refl (p.width, (p.entries, tt))
item_parted (item.Instruction i) = instruction_parted i
item_parted (item.Terminator t) = terminator_parted t
item_parted item.Close = refl
item_parted (item.Annotation a) = refl

fits_on : (at : ℕ) (i : Item) → item_fits at i ≡ true → item_fits 0 (item_on 0 i) ≡ true
fits_on at (item.Global g) h = (and_parts (eqb g.line at) (nat_lt 0 g.cells) h).1
fits_on at (item.Phi p) h = (and_parts (eqb p.line at) (is_some_list p.entries) h).1
fits_on at (item.Define name r ps) h = h
fits_on at (item.Label name) h = h
fits_on at (item.Instruction i) h = h
fits_on at (item.Terminator t) h = h
fits_on at item.Close h = h
fits_on at (item.Annotation a) h = absurd cc

kept_item : (at : ℕ) (i : Item) → item_fits at i ≡ true → IsSpelledItem i → IsKeptItem i
kept_item at (item.Global g) h s = s
kept_item at (item.Phi p) h s = s
kept_item at (item.Define name r ps) h s = s
kept_item at (item.Label name) h s = s
kept_item at (item.Instruction i) h s = s
kept_item at (item.Terminator t) h s = s
kept_item at item.Close h s = s
kept_item at (item.Annotation a) h s = absurd cc

-- the tokens of a line say an item
said_kept : (at : ℕ) (line : List ℕ) (ts : List Token) (i : Item) → All (IsTokenOf line) ts → AllByRecursion (IsPlainToken line) ts → list_all is_within_limits (map (symbol_at line) ts) ≡ true
    → item_in at (map (symbol_at line) ts) ≡ Some i → IsKeptItem i
said_kept at line ts i each plain w h =
    let ss : List Symbol = map (symbol_at line) ts in
    let taken = item_takes at ss i w h in
    let none : list_all is_no_note ss ≡ true = ap (list_all is_no_note) taken.0 ∙ no_notes (item_atoms i) (item_parted i) in
    let spelled : list_all is_spelled (symbols_in (item_atoms i)) ≡ true = ap (list_all is_spelled) (sym taken.0) ∙ symbols_spelled line ts each plain none w in
    kept_item at i taken.1 (record {
      fits = fits_on at i taken.1;
      spelled = spelled_if_parted (item_atoms i) (item_parted i) spelled;
      within = ap (list_all is_within_limits) (sym taken.0) ∙ w;
    })

abbrev KeptIfWithin : Line → Type 0
KeptIfWithin l = l.is_within_limits ≡ true → IsKeptItem l.item

item_line_kept : (at : ℕ) (line : List ℕ) (ts : List Token) (found : Option Item) (l : Line) → All (IsTokenOf line) ts → AllByRecursion (IsPlainToken line) ts
    → item_in at (map (symbol_at line) ts) ≡ found → item_line (map (symbol_at line) ts) found ≡ Ok (Some l) → KeptIfWithin l
item_line_kept at line ts None l each plain e h = absurd cc
item_line_kept at line ts (Some i) l each plain e h =
    let all : Line = record { item = i; is_within_limits = list_all is_within_limits (map (symbol_at line) ts) } in
    let same : all ≡ l = cc in
    let here : KeptIfWithin all = λ (w : list_all is_within_limits (map (symbol_at line) ts) ≡ true). said_kept at line ts i each plain w e in
    subst KeptIfWithin same here

note_kept : (at : ℕ) (words : List (List ℕ)) (found : Result AnnotationLine ℕ) (l : Line) → annotation_of words at ≡ found → annotation_line found ≡ Ok (Some l) → KeptIfWithin l
note_kept at words (Err number) l e h = absurd cc
note_kept at words (Ok found) l e h =
    let all : Line = record { item = item.Annotation found.annotation; is_within_limits = found.is_within_limits } in
    let same : all ≡ l = cc in
    let here : KeptIfWithin all = λ (w : found.is_within_limits ≡ true). annotation_read at words found e w in
    subst KeptIfWithin same here

by_kind : (at : ℕ) (line : List ℕ) (kind : Kind) (t : Token) (ts : List Token) (l : Line) → t.kind ≡ kind → All (IsTokenOf line) (t ∷ ts) → ArePlain line (t ∷ ts) → tokens_line at line kind ts (t ∷ ts) ≡ Ok (Some l) → KeptIfWithin l
by_kind at line kinds.Note t ts l k each plain h = note_kept at (map (text_at line) ts) (annotation_of (map (text_at line) ts) at) l refl h
by_kind at line kinds.Name t ts l k each plain h = item_line_kept at line (t ∷ ts) (item_in at (map (symbol_at line) (t ∷ ts))) l each (plain (λ (n : t.kind ≡ kinds.Note). let e : kinds.Name ≡ kinds.Note = sym k ∙ n in cc)) refl h
by_kind at line kinds.Number t ts l k each plain h = item_line_kept at line (t ∷ ts) (item_in at (map (symbol_at line) (t ∷ ts))) l each (plain (λ (n : t.kind ≡ kinds.Note). let e : kinds.Number ≡ kinds.Note = sym k ∙ n in cc)) refl h
by_kind at line kinds.Word t ts l k each plain h = item_line_kept at line (t ∷ ts) (item_in at (map (symbol_at line) (t ∷ ts))) l each (plain (λ (n : t.kind ≡ kinds.Note). let e : kinds.Word ≡ kinds.Note = sym k ∙ n in cc)) refl h
by_kind at line kinds.Mark t ts l k each plain h = item_line_kept at line (t ∷ ts) (item_in at (map (symbol_at line) (t ∷ ts))) l each (plain (λ (n : t.kind ≡ kinds.Note). let e : kinds.Mark ≡ kinds.Note = sym k ∙ n in cc)) refl h

meaning_kept : (at : ℕ) (line : List ℕ) (ts : List Token) (l : Line) → All (IsTokenOf line) ts → ArePlain line ts → meaning_of at line ts ≡ Ok (Some l) → KeptIfWithin l
meaning_kept at line [] l each plain h = let none : Ok None ≡ Ok (Some l) = h in absurd cc
meaning_kept at line (t ∷ ts) l each plain h = by_kind at line t.kind t ts l refl each plain h

any_kept : (at : ℕ) (line : List ℕ) (o : Option (List Token)) (l : Line) → tokens_of line ≡ o → meaning_if_any at line o ≡ Ok (Some l) → KeptIfWithin l
any_kept at line None l e h = absurd cc
any_kept at line (Some ts) l e h = meaning_kept at line ts l (all_hold line ts e) (plain_words line ts e) h

-- What a line says within the limits is kept.
pub line_kept : (at : ℕ) (line : List ℕ) (l : Line) → line_of at line ≡ Ok (Some l) → l.is_within_limits ≡ true → IsKeptItem l.item
line_kept at line l h = any_kept at line (tokens_of line) l refl h
