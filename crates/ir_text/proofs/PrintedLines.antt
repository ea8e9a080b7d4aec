-- A text of printed lines is cut into them.
use Rattle.std.proofs.Common.{◌≡◌, ℕ, Bool, true, false, eqb, List, [], ◌∷◌, ◌++◌, length, take, map, refl, ap, ◌∙◌, arith}
use Rattle.std.specs.Prelude.{if◌then◌else◌}
use Rattle.std.specs.List.{list_all, prefix_len, flat_map}
use Rattle.std.proofs.lemmas.Bool.{eqb-true, and_parts}
use Rattle.std.proofs.lemmas.List.{take_at}
use Rattle.ir_reader.specs.declared.item.item.Item.{Item}
use Rattle.ir_reader.specs.item.Printed.{IsKeptItem, item_text}
use Rattle.ir_reader.proofs.item.Shown.{is_shown, item_shown, spaces_shown}
use Rattle.ir_text.specs.Items.{indentation, printed_content, printed_line}
use Rattle.ir_reader.specs.Lines.{is_inner, onto_first, lines_of, content}
use Rattle.ir_lex.proofs.Names.{by_test}

no_end : (b : ℕ) → is_shown b ≡ true → eqb b 10 ≡ false
no_end b h = by_test (eqb b 10) (λ (e : eqb b 10 ≡ true). let same : is_shown b ≡ is_shown 10 = ap is_shown (eqb-true b 10 e) in absurd cc) (λ (e : eqb b 10 ≡ false). e)

line_first : (c rest : List ℕ) → list_all is_shown c ≡ true → lines_of ((c ++ 10 ∷ []) ++ rest) ≡ (c ++ 10 ∷ []) ∷ lines_of rest
line_first [] rest h = refl
line_first (b ∷ c) rest h =
    let t = and_parts (is_shown b) (list_all is_shown c) h in
    let text : List ℕ = (c ++ 10 ∷ []) ++ rest in
    ap (λ (v : Bool). if v then (b ∷ []) ∷ lines_of text else onto_first b (lines_of text)) (no_end b t.0) ∙ ap (onto_first b) (line_first c rest t.1)

inner_len : (c : List ℕ) → list_all is_shown c ≡ true → prefix_len is_inner (c ++ 10 ∷ []) ≡ length c
inner_len [] h = refl
inner_len (b ∷ c) h =
    let t = and_parts (is_shown b) (list_all is_shown c) h in
    rw (no_end b t.0, inner_len c t.1) (omega arith)

pub content_is : (c : List ℕ) → list_all is_shown c ≡ true → content (c ++ 10 ∷ []) ≡ c
content_is c h = ap (λ (n : ℕ). take n (c ++ 10 ∷ [])) (inner_len c h) ∙ take_at c (10 ∷ []) (length c) refl

pub content_shown : (i : Item) → IsKeptItem i → list_all is_shown (printed_content i) ≡ true
content_shown i is = spaces_shown (indentation i) (item_text i) (item_shown i is)

abbrev pub AreKept : List Item → Type 0
AreKept [] = Unit {0}
AreKept (i ∷ items) = IsKeptItem i × AreKept items

pub printed_lines : (items : List Item) → AreKept items → lines_of (flat_map printed_line items) ≡ map printed_line items
printed_lines [] is = refl
printed_lines (i ∷ items) is =
    line_first (printed_content i) (flat_map printed_line items) (content_shown i is.0) ∙ ap (λ (lines : List (List ℕ)). printed_line i ∷ lines) (printed_lines items is.1)
