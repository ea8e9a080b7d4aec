-- The bytes of lines that are printed.
use Rattle.std.proofs.Common.{◌≡◌, ℕ, zero, suc, ◌^◌, ◌<◌, inl, inr, Bool, true, false, cond, eqb, leb, List, [], ◌∷◌, ◌++◌, length, length-append, refl, ap, ◌∙◌, arith}
use Rattle.std.specs.Prelude.{◌&&◌, ◌||◌, not, nat_le, ℤ, pos, negsuc, unsigned_abs, codes, flat_map, All, IsUtf8}
use Rattle.std.specs.List.{list_all, AllByRecursion}
use Rattle.std.specs.Char.{is_ascii_digit}
use Rattle.std.specs.Str.{all_ascii_digits}
use Rattle.std.specs.Fmt.{decimal, signed_decimal}
use Rattle.std.proofs.lemmas.Bool.{leb-true, eqb-true, le-leb, and_parts, or_cases}
use Rattle.std.proofs.lemmas.Fmt.{decimal_nonempty}
use Rattle.std.proofs.lemmas.Str.{IsUtf8-from_ascii}
use Rattle.std.proofs.lemmas.Str.Ascii.{IsAscii-from_all}
use Rattle.std.proofs.lemmas.List.Elements.{All-from_recursion, All-head, All-tail}
use Rattle.std.proofs.lemmas.List.Folds.{list_all-append}
use Rattle.syntax.specs.declared.annotation.Term.{Term}
use Rattle.syntax.specs.declared.annotation.Form.{Form}
use Rattle.syntax.specs.declared.annotation.Relation.{Relation}
use Rattle.syntax.specs.declared.annotation.Relation.TheVariants.{AtMost, AtLeast}
use Rattle.syntax.specs.declared.annotation.Inequality.{Inequality}
use Rattle.syntax.specs.declared.annotation.Zone.{Zone}
use Rattle.syntax.specs.declared.instruction.Address.{Address}
use Rattle.syntax.specs.declared.instruction.Address.TheVariants as address
use Rattle.syntax.specs.declared.operator.Mode.{Mode}
use Rattle.syntax.specs.declared.operator.Mode.TheVariants.{Reads, Writes, Adds}
use Rattle.ir_lex.specs.Spelling.{is_mark, is_printed}
use Rattle.ir_lex.specs.Words.{words_text, are_words}
use Rattle.ir_lex.proofs.Plain.{name_printed, number_printed, digit_printed}
use Rattle.ir_annotation.specs.declared.meaning.Annotation.{Annotation}
use Rattle.ir_annotation.specs.declared.meaning.Annotation.TheVariants as annotation
use Rattle.ir_annotation.specs.Canonical.{IsTerm, IsCanonical}
use Rattle.ir_annotation.specs.Spelling.{sign_text, factor_text, term_text, constant_text, terms_text, form_text, relation_text, mode_text, object_text}
use Rattle.ir_annotation.specs.Annotations.{IsShortName, address_name, IsInequality, IsZone, IsKeptAnnotation, inequality_words, zone_words, moded_zone_words, annotation_words}
use Rattle.ir_lex.proofs.Digits.{decimal_digits}
use Rattle.ir_reader.specs.declared.item.item.Item.{Item}
use Rattle.ir_reader.specs.declared.item.item.Item.TheVariants as item
use Rattle.ir_instruction.specs.declared.symbol.Numeral.TheVariants.{Small, Large}
use Rattle.ir_instruction.specs.declared.symbol.Symbol.{Symbol}
use Rattle.ir_instruction.specs.declared.symbol.Symbol.TheVariants as symbols
use Rattle.ir_instruction.specs.Spelling.{Atom, Token, Blank, symbol_text, text_of, spaces}
use Rattle.ir_reader.specs.item.Items.{item_atoms}
use Rattle.ir_instruction.specs.Spelled.{is_spelled, is_parted_from, are_spelled}
use Rattle.ir_reader.specs.item.Printed.{IsKeptItem, item_text}
use Rattle.ir_instruction.proofs.Digits.{number_of_printed}

-- ---- words of annotations

abbrev Printed : List ℕ → Type 0
Printed w = list_all is_printed w ≡ true

join : (xs ys : List ℕ) → Printed xs → Printed ys → Printed (xs ++ ys)
join xs ys hx hy = list_all-append is_printed xs ys ∙ rw (hx, hy) refl

digits_printed : (ds : List ℕ) → all_ascii_digits ds ≡ true → Printed ds
digits_printed [] h = refl
digits_printed (b ∷ bs) h = let t = and_parts (is_ascii_digit b) (all_ascii_digits bs) h in rw (digit_printed b t.0, digits_printed bs t.1) refl

decimal_printed : (n : ℕ) → n < 2 ^ 63 → Printed (decimal n)
decimal_printed n h = digits_printed (decimal n) (decimal_digits n h)

signed_printed : (z : ℤ) → unsigned_abs z < 2 ^ 63 → Printed (signed_decimal z)
signed_printed (pos n) h = decimal_printed n h
signed_printed (negsuc n) h = rw (decimal_printed (suc n) h) refl

if_printed : (b : Bool) (x y : List ℕ) → Printed x → Printed y → Printed (cond b x y)
if_printed true x y hx hy = hx
if_printed false x y hx hy = hy

sign_printed : (is_first : Bool) (z : ℤ) → Printed (sign_text is_first z)
sign_printed is_first z = if_printed _ (codes "-") (cond is_first [] (codes "+")) refl (if_printed is_first [] (codes "+") refl refl)

factor_printed : (n : ℕ) → n < 2 ^ 63 → Printed (factor_text n)
factor_printed n h = if_printed (eqb n 1) [] (decimal n ++ codes "*") refl (join (decimal n) (codes "*") (decimal_printed n h) refl)

term_printed : (is_first : Bool) (t : Term) → IsTerm t → Printed (term_text is_first t)
term_printed is_first t is =
    let sign : List ℕ = sign_text is_first t.coefficient in
    let factor : List ℕ = factor_text (unsigned_abs t.coefficient) in
    join ((sign ++ factor) ++ codes "%") t.register
    (join (sign ++ factor) (codes "%") (join sign factor (sign_printed is_first t.coefficient) (factor_printed (unsigned_abs t.coefficient) is.fits)) refl)
    (name_printed t.register is.name)

others_printed : (ts : List Term) → All IsTerm ts → Printed (flat_map (term_text false) ts)
others_printed [] each = refl
others_printed (t ∷ ts) each =
    join (term_text false t) (flat_map (term_text false) ts) (term_printed false t (All-head IsTerm t ts each)) (others_printed ts (All-tail IsTerm t ts each))

constant_printed : (z : ℤ) → unsigned_abs z < 2 ^ 63 → Printed (constant_text z)
constant_printed z h = if_printed (eqb (unsigned_abs z) 0) [] (sign_text false z ++ decimal (unsigned_abs z)) refl (join (sign_text false z) (decimal (unsigned_abs z)) (sign_printed false z) (decimal_printed (unsigned_abs z) h))

-- a word of printed bytes
record IsWord (w : List ℕ) : Type 0 where
  some : 0 < length w
  printed : Printed w

signed_some : (z : ℤ) → unsigned_abs z < 2 ^ 63 → 0 < length (signed_decimal z)
signed_some (pos n) h = decimal_nonempty n (omega arith)
signed_some (negsuc n) h = omega arith

term_some : (is_first : Bool) (t : Term) → 0 < length (term_text is_first t)
term_some is_first t =
    let front : List ℕ = sign_text is_first t.coefficient ++ factor_text (unsigned_abs t.coefficient) in
    omega (arith, length-append (front ++ codes "%") t.register, length-append front (codes "%"))

terms_word : (ts : List Term) (z : ℤ) → All IsTerm ts → unsigned_abs z < 2 ^ 63 → IsWord (terms_text ts z)
terms_word [] z each h = record { some = signed_some z h; printed = signed_printed z h }
terms_word (t ∷ ts) z each h =
    let first : List ℕ = term_text true t in
    let later : List ℕ = flat_map (term_text false) ts in
    record {
      some = omega (arith, term_some true t, length-append (first ++ later) (constant_text z), length-append first later);
      printed = join (first ++ later) (constant_text z) (join first later (term_printed true t (All-head IsTerm t ts each)) (others_printed ts (All-tail IsTerm t ts each))) (constant_printed z h);
    }

form_word : (f : Form) → IsCanonical f → IsWord (form_text f)
unfolding form_text
form_word f is = terms_word f.terms f.constant is.terms is.constant

decimal_word : (n : ℕ) → n < 2 ^ 63 → IsWord (decimal n)
decimal_word n h = record { some = decimal_nonempty n (omega arith); printed = decimal_printed n h }

relation_word : (r : Relation) → IsWord (relation_text r)
relation_word AtMost = record { some = omega arith; printed = refl }
relation_word AtLeast = record { some = omega arith; printed = refl }

mode_word : (m : Mode) → IsWord (mode_text m)
mode_word Reads = record { some = omega arith; printed = refl }
mode_word Writes = record { some = omega arith; printed = refl }
mode_word Adds = record { some = omega arith; printed = refl }

sigil_word : (b : ℕ) (name : List ℕ) → is_printed b ≡ true → IsShortName name → IsWord (b ∷ name)
sigil_word b name h is = record { some = omega arith; printed = rw (h, name_printed name is.spelled) refl }

object_word : (a : Address) → IsShortName (address_name a) → IsWord (object_text a)
object_word (address.Register name) is = sigil_word 37 name refl is
object_word (address.Global name) is = sigil_word 64 name refl is

word_then : (w : List ℕ) (ws : List (List ℕ)) → IsWord w → are_words ws ≡ true → are_words (w ∷ ws) ≡ true
word_then [] ws is h = absurd (omega (arith, is.some))
word_then (b ∷ w) ws is h = let p : Printed (b ∷ w) = is.printed in rw (p, h) refl

inequality_are : (i : Inequality) → IsInequality i → are_words (inequality_words i) ≡ true
inequality_are i is =
    word_then (form_text i.left) (relation_text i.relation ∷ form_text i.right ∷ []) (form_word i.left is.left)
    (word_then (relation_text i.relation) (form_text i.right ∷ []) (relation_word i.relation) (word_then (form_text i.right) [] (form_word i.right is.right) refl))

zone_are : (z : Zone) → IsZone z → are_words (zone_words z) ≡ true
zone_are z is =
    word_then (object_text z.object) (form_text z.low ∷ form_text z.high ∷ []) (object_word z.object is.object)
    (word_then (form_text z.low) (form_text z.high ∷ []) (form_word z.low is.low) (word_then (form_text z.high) [] (form_word z.high is.high) refl))

moded_are : (z : Zone) → IsZone z → are_words (moded_zone_words z) ≡ true
moded_are z is = word_then (mode_text z.mode) (zone_words z) (mode_word z.mode) (zone_are z is)

keyword_then : (w : List ℕ) (ws : List (List ℕ)) → 0 < length w → Printed w → are_words ws ≡ true → are_words (w ∷ ws) ≡ true
keyword_then w ws some printed h = word_then w ws (record { some = some; printed = printed }) h

pub annotation_words_are : (a : Annotation) → IsKeptAnnotation a → are_words (annotation_words a) ≡ true
annotation_words_are (annotation.Requires i) is = inequality_are i is
annotation_words_are (annotation.Ensures i) is = inequality_are i is
annotation_words_are (annotation.FunctionZone z) is = moded_are z is
annotation_words_are (annotation.Measure m) is =
    word_then (form_text m.form) (codes "max" ∷ decimal m.bound ∷ []) (form_word m.form is.form) (word_then (decimal m.bound) [] (decimal_word m.bound (omega (arith, is.bound))) refl)
annotation_words_are (annotation.Budget b) is =
    word_then (decimal b.self_calls) (decimal b.instructions ∷ []) (decimal_word b.self_calls (omega (arith, is.self_calls)))
    (word_then (decimal b.instructions) [] (decimal_word b.instructions (omega (arith, is.instructions))) refl)
annotation_words_are (annotation.Keeps i) is = inequality_are i is
annotation_words_are (annotation.Pending p) is = word_then (37 ∷ p.region) (moded_zone_words p.zone) (sigil_word 37 p.region refl is.region) (moded_are p.zone is.zone)
annotation_words_are (annotation.Left l) is =
    word_then (form_text l.self_calls) (form_text l.instructions ∷ []) (form_word l.self_calls is.self_calls) (word_then (form_text l.instructions) [] (form_word l.instructions is.instructions) refl)
annotation_words_are (annotation.Foot z) is = moded_are z is
annotation_words_are (annotation.Shows i) is = inequality_are i is

-- ---- bytes of lines

-- from a space to ~
abbrev pub is_shown : ℕ → Bool
is_shown b = nat_le 32 b && nat_le b 126

abbrev Shown : List ℕ → Type 0
Shown bs = list_all is_shown bs ≡ true

put : (xs ys : List ℕ) → Shown xs → Shown ys → Shown (xs ++ ys)
put xs ys hx hy = list_all-append is_shown xs ys ∙ rw (hx, hy) refl

printed_byte_shown : (b : ℕ) → is_printed b ≡ true → is_shown b ≡ true
printed_byte_shown b h =
    let t = and_parts (leb 33 b && leb b 126) (not (eqb b 59)) h in
    let r = and_parts (leb 33 b) (leb b 126) t.0 in
    rw (le-leb 32 b (omega (arith, leb-true 33 b r.0)), r.1) refl

printed_shown : (bs : List ℕ) → Printed bs → Shown bs
printed_shown [] h = refl
printed_shown (b ∷ bs) h = let t = and_parts (is_printed b) (list_all is_printed bs) h in rw (printed_byte_shown b t.0, printed_shown bs t.1) refl

at_mark : (b c : ℕ) → eqb b c ≡ true → is_shown c ≡ true → is_shown b ≡ true
at_mark b c h s = ap is_shown (eqb-true b c h) ∙ s

mark_shown : (b : ℕ) → is_mark b ≡ true → is_shown b ≡ true
mark_shown b h = elim (or_cases (eqb b 61 || eqb b 44 || eqb b 40 || eqb b 41 || eqb b 91 || eqb b 93 || eqb b 123 || eqb b 125) (eqb b 58) h) [
  | inl w ↦ elim (or_cases (eqb b 61 || eqb b 44 || eqb b 40 || eqb b 41 || eqb b 91 || eqb b 93 || eqb b 123) (eqb b 125) w) [
    | inl w ↦ elim (or_cases (eqb b 61 || eqb b 44 || eqb b 40 || eqb b 41 || eqb b 91 || eqb b 93) (eqb b 123) w) [
      | inl w ↦ elim (or_cases (eqb b 61 || eqb b 44 || eqb b 40 || eqb b 41 || eqb b 91) (eqb b 93) w) [
        | inl w ↦ elim (or_cases (eqb b 61 || eqb b 44 || eqb b 40 || eqb b 41) (eqb b 91) w) [
          | inl w ↦ elim (or_cases (eqb b 61 || eqb b 44 || eqb b 40) (eqb b 41) w) [
            | inl w ↦ elim (or_cases (eqb b 61 || eqb b 44) (eqb b 40) w) [
              | inl w ↦ elim (or_cases (eqb b 61) (eqb b 44) w) [ inl w ↦ at_mark b 61 w refl | inr w ↦ at_mark b 44 w refl ]
              | inr w ↦ at_mark b 40 w refl
            ]
            | inr w ↦ at_mark b 41 w refl
          ]
          | inr w ↦ at_mark b 91 w refl
        ]
        | inr w ↦ at_mark b 93 w refl
      ]
      | inr w ↦ at_mark b 123 w refl
    ]
    | inr w ↦ at_mark b 125 w refl
  ]
  | inr w ↦ at_mark b 58 w refl
]

symbol_shown : (s : Symbol) → is_spelled s ≡ true → Shown (symbol_text s)
symbol_shown (symbols.Register name) h = rw (printed_shown name (name_printed name h)) refl
symbol_shown (symbols.Global name) h = rw (printed_shown name (name_printed name h)) refl
symbol_shown (symbols.Number (Small n)) h = printed_shown (signed_decimal n) (number_printed (signed_decimal n) (number_of_printed n h).number)
symbol_shown (symbols.Number (Large digits)) h = absurd cc
symbol_shown (symbols.Word text) h = printed_shown text (name_printed text h)
symbol_shown (symbols.Mark byte) h = rw (mark_shown byte h) refl
symbol_shown symbols.Note h = absurd cc

atoms_shown : (atoms : List Atom) → are_spelled atoms ≡ true → Shown (text_of atoms)
atoms_shown [] h = refl
atoms_shown (Blank ∷ atoms) h = atoms_shown atoms h
atoms_shown (Token s ∷ atoms) h =
    let t = and_parts (is_spelled s && is_parted_from s atoms) (are_spelled atoms) h in
    let u = and_parts (is_spelled s) (is_parted_from s atoms) t.0 in
    put (symbol_text s) (text_of atoms) (symbol_shown s u.0) (atoms_shown atoms t.1)

words_shown : (ws : List (List ℕ)) → are_words ws ≡ true → Shown (words_text ws)
words_shown [] h = refl
words_shown ([] ∷ ws) h = absurd cc
words_shown ((b ∷ w) ∷ ws) h =
    let t = and_parts (list_all is_printed (b ∷ w)) (are_words ws) h in
    put (b ∷ w) (words_text ws) (printed_shown (b ∷ w) t.0) (words_shown ws t.1)

pub spaces_shown : (k : ℕ) (text : List ℕ) → list_all is_shown text ≡ true → list_all is_shown (spaces k ++ text) ≡ true
spaces_shown zero text h = h
spaces_shown (suc k) text h = spaces_shown k text h

pub item_shown : (i : Item) → IsKeptItem i → list_all is_shown (item_text i) ≡ true
item_shown (item.Annotation a) is = words_shown (annotation_words a) (annotation_words_are a is)
item_shown (item.Global g) is = atoms_shown (item_atoms (item.Global g)) is.spelled
item_shown (item.Define name r ps) is = atoms_shown (item_atoms (item.Define name r ps)) is.spelled
item_shown (item.Label name) is = atoms_shown (item_atoms (item.Label name)) is.spelled
item_shown (item.Phi p) is = atoms_shown (item_atoms (item.Phi p)) is.spelled
item_shown (item.Instruction i) is = atoms_shown (item_atoms (item.Instruction i)) is.spelled
item_shown (item.Terminator t) is = atoms_shown (item_atoms (item.Terminator t)) is.spelled
item_shown item.Close is = refl

shown_small : (b : ℕ) → is_shown b ≡ true → b < 128
shown_small b h = let t = and_parts (leb 32 b) (leb b 126) h in omega (arith, leb-true b 126 t.1)

all_small : (bs : List ℕ) → list_all is_shown bs ≡ true → AllByRecursion (λ b. b < 128) bs
all_small [] h = tt
all_small (b ∷ bs) h = let t = and_parts (is_shown b) (list_all is_shown bs) h in (shown_small b t.0, all_small bs t.1)

pub shown_utf8 : (bs : List ℕ) → list_all is_shown bs ≡ true → IsUtf8 bs
shown_utf8 bs h = IsUtf8-from_ascii bs (IsAscii-from_all bs (All-from_recursion (λ b. b < 128) bs (all_small bs h)))
