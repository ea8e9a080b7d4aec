-- What tokens stand for is spelled as they are.
use Rattle.std.proofs.Common.{◌≡◌, ℕ, Bool, true, false, cond, eqb, List, [], ◌∷◌, length, map, All, Some, None, refl, arith}
use Rattle.std.specs.Prelude.{◌||◌, ℤ, slice_index}
use Rattle.std.specs.List.{list_all, AllByRecursion}
use Rattle.std.specs.Str.Parse.{signed_digits_value}
use Rattle.std.proofs.lemmas.List.Elements.{All-head, All-tail}
use Rattle.std.proofs.lemmas.Bool.{and_parts}
use Rattle.ir_lex.specs.declared.token.Kind.{Kind}
use Rattle.ir_lex.specs.declared.token.Kind.TheVariants as kinds
use Rattle.ir_lex.specs.declared.token.Token.{Token}
use Rattle.ir_lex.specs.Spelling.{is_name, is_marked_name, is_mark}
use Rattle.ir_lex.specs.Lexemes.{HasKind, IsTokenOf}
use Rattle.ir_lex.specs.Texts.{text_at}
use Rattle.ir_lex.proofs.PlainWords.{IsNameIfWord, IsPlainToken}
use Rattle.ir_instruction.specs.declared.symbol.Numeral.{Numeral}
use Rattle.ir_instruction.specs.declared.symbol.Symbol.TheVariants as symbols
use Rattle.ir_instruction.specs.Symbols.{fits_i64, number_of, small_or_large, numeral_of, named, symbol_of, symbol_at, is_within_limits}
use Rattle.ir_instruction.specs.Spelled.{is_spelled}
use Rattle.ir_instruction.proofs.Parted.{is_no_note}

named_spelled : (text : List ℕ) → is_marked_name text ≡ true → is_spelled (named text) ≡ true
named_spelled [] h = absurd cc
named_spelled (b ∷ bs) h =
    let t = and_parts (eqb b 37 || eqb b 64) (is_name bs) h in
    elim (eqb b 37) as (λ v. is_spelled (cond v (symbols.Register bs) (symbols.Global bs)) ≡ true) [ true ↦ t.1 | false ↦ t.1 ]

numeral_spelled : (text : List ℕ) → is_within_limits (symbols.Number (numeral_of text)) ≡ true → is_spelled (symbols.Number (numeral_of text)) ≡ true
unfolding number_of
numeral_spelled text w =
    let z : ℤ = signed_digits_value 10 text in
    let numeral : Bool → Numeral = λ (v : Bool). small_or_large text (cond v (Some z) None) in
    elim (fits_i64 z) as (λ v. fits_i64 z ≡ v → is_within_limits (symbols.Number (numeral v)) ≡ true → is_spelled (symbols.Number (numeral v)) ≡ true) [
      | true ↦ λ (e : fits_i64 z ≡ true) (h : true ≡ true). e
      | false ↦ λ (e : fits_i64 z ≡ false) (h : false ≡ true). absurd cc
    ] refl w

mark_spelled : (text : List ℕ) → length text ≡ 1 → list_all is_mark text ≡ true → is_mark (slice_index text 0) ≡ true
mark_spelled [] n h = absurd (omega arith)
mark_spelled (b ∷ bs) n h = (and_parts (is_mark b) (list_all is_mark bs) h).0

symbol_spelled : (kind : Kind) (text : List ℕ) → HasKind kind text → IsNameIfWord kind text → is_no_note (symbol_of kind text) ≡ true → is_within_limits (symbol_of kind text) ≡ true → is_spelled (symbol_of kind text) ≡ true
symbol_spelled kinds.Name text h n other w = named_spelled text h
symbol_spelled kinds.Number text h n other w = numeral_spelled text w
symbol_spelled kinds.Word text h n other w = n
symbol_spelled kinds.Mark text h n other w = mark_spelled text h.0 h.1
symbol_spelled kinds.Note text h n other w = absurd cc

-- The symbols of a line are spelled, where none is ;! and each is within the limits.
pub symbols_spelled : (line : List ℕ) (ts : List Token) → All (IsTokenOf line) ts → AllByRecursion (IsPlainToken line) ts → list_all is_no_note (map (symbol_at line) ts) ≡ true → list_all is_within_limits (map (symbol_at line) ts) ≡ true
    → list_all is_spelled (map (symbol_at line) ts) ≡ true
symbols_spelled line [] each plain other w = refl
symbols_spelled line (t ∷ ts) each plain other w =
    let one : IsTokenOf line t = All-head (IsTokenOf line) t ts each in
    let o = and_parts (is_no_note (symbol_at line t)) (list_all is_no_note (map (symbol_at line) ts)) other in
    let v = and_parts (is_within_limits (symbol_at line t)) (list_all is_within_limits (map (symbol_at line) ts)) w in
    let here : is_spelled (symbol_at line t) ≡ true = symbol_spelled t.kind (text_at line t) one.kind plain.0 o.0 v.0 in
    rw (here, symbols_spelled line ts (All-tail (IsTokenOf line) t ts each) plain.1 o.1 v.1) refl
