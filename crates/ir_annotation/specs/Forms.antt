-- A form as its word spells it: terms with signs, added up.
use Rattle.std.specs.Prelude.{◌==◌, ℕ, ℤ, pos, neg_ℤ, ◌+ℤ◌, Bool, true, false, not, ◌&&◌, List, [], ◌∷◌, take, drop}
use Rattle.std.specs.Prelude.{insert, slice_get, slice_set}
use Rattle.std.specs.Prelude.{slice_index_or, Option, Some, None, Result, Ok, Err, if◌then◌else◌}
use Rattle.std.specs.declared.cmp.Ordering.{Ordering}
use Rattle.std.specs.declared.cmp.Ordering.TheVariants.{Less}
use Rattle.std.specs.Ordering.{nat_cmp, int_eq}
use Rattle.std.specs.Cmp.Lexicographic.{slice_cmp}
use Rattle.std.specs.List.{prefix_len, list_all, filter_map}
use Rattle.std.specs.Str.{bytes_eq}
use Rattle.syntax.specs.declared.annotation.Term.{Term}
use Rattle.syntax.specs.declared.annotation.Form.{Form}
use Rattle.ir_annotation.specs.declared.limits.Limited.{Limited}
use Rattle.ir_annotation.specs.declared.sums.SignedTerm.{SignedTerm}
use Rattle.ir_annotation.specs.declared.sums.SumTerm.{SumTerm}
use Rattle.ir_annotation.specs.Limits.{limited, narrowed}
use Rattle.ir_annotation.specs.Reading.{◌>>=◌}
use Rattle.ir_annotation.specs.Words.{number_of, name_of, register_of}

-- ---- a form's word, cut at its signs

pub record SignedText : Type 0 where
  pub is_negative : Bool
  pub text : List ℕ

-- the text before the first sign, and each sign with the text behind it
pub record Cut : Type 0 where
  pub first : List ℕ
  pub rest : List SignedText

abbrev pub as_signed : Bool → Cut → List SignedText
as_signed is_negative cut = record { is_negative = is_negative; text = cut.first } ∷ cut.rest

abbrev pub onto_cut : ℕ → Cut → Cut
onto_cut b cut = if b == 43 then record { first = []; rest = as_signed false cut }
    else if b == 45 then record { first = []; rest = as_signed true cut }
    else record { first = b ∷ cut.first; rest = cut.rest }

unfoldable pub cut_of : List ℕ → Cut
cut_of [] = record { first = []; rest = [] }
cut_of (b ∷ bs) = onto_cut b (cut_of bs)

-- the terms of a word; only the first one may have a minus before it
abbrev pub signed_texts : List ℕ → List SignedText
signed_texts [] = as_signed false (cut_of [])
signed_texts (b ∷ bs) = if b == 45 then as_signed true (cut_of bs) else as_signed false (cut_of (b ∷ bs))

-- ---- a term

abbrev pub signed : Bool → ℕ → ℤ
signed is_negative n = if is_negative then neg_ℤ (pos n) else pos n

-- behind a number: nothing, or * and a register
abbrev pub term_behind : Bool → Limited ℕ → List ℕ → Result (Limited SignedTerm) ℕ
term_behind is_negative number [] =
    Ok (limited (record { register = None; amount = signed is_negative number.value }) number.is_within_limits)
term_behind is_negative number (star ∷ word) = register_of word >>=
    λ name. Ok (limited (record { register = Some name.value; amount = signed is_negative number.value })
    (number.is_within_limits && name.is_within_limits))

abbrev pub is_no_star : ℕ → Bool
is_no_star b = not (b == 42)

abbrev pub term_by_number : Bool → List ℕ → Result (Limited SignedTerm) ℕ
term_by_number is_negative text = let end : ℕ = prefix_len is_no_star text in
    number_of 9223372036854775807 (take end text) >>= λ number. term_behind is_negative number (drop end text)

-- a number, a register, or a number * a register
unfoldable pub term_of : Bool → List ℕ → Result (Limited SignedTerm) ℕ
term_of is_negative [] = Err 103
term_of is_negative (b ∷ bs) = if b == 37 then (name_of bs >>=
    λ name. Ok (limited (record { register = Some name.value; amount = signed is_negative 1 }) name.is_within_limits))
    else term_by_number is_negative (b ∷ bs)

-- ---- terms, added up

-- Terms in the order of their names, a constant, and whether all that was added is within its limits.
pub record Total : Type 0 where
  pub terms : List SumTerm
  pub constant : ℤ
  pub is_within_limits : Bool

abbrev pub is_less : Ordering → Bool
is_less Less = true
is_less other = false

-- the term's name stands before the name in the order of bytes
abbrev pub is_before : List ℕ → SumTerm → Bool
is_before name t = is_less (slice_cmp nat_cmp t.register name)

abbrev pub has_name : List ℕ → Option SumTerm → Bool
has_name name None = false
has_name name (Some t) = bytes_eq t.register name

abbrev pub is_at : List SumTerm → ℕ → List ℕ → Bool
is_at ts place name = has_name name (slice_get ts place)

abbrev pub with_more : ℤ → SumTerm → SumTerm
with_more amount t = record t { coefficient = t.coefficient +ℤ amount }

-- with a multiple of a register, in its place
abbrev pub added : List SumTerm → List ℕ → ℤ → List SumTerm
added ts name amount = let place : ℕ = prefix_len (is_before name) ts in
    let new : SumTerm = record { register = name; coefficient = amount } in if is_at ts place name then slice_set ts
    place (with_more amount (slice_index_or ts place new)) else insert ts place new

abbrev pub with_amount : Total → Bool → Option (List ℕ) → ℤ → Total
with_amount total is_within None amount = record
    { terms = total.terms; constant = total.constant +ℤ amount; is_within_limits = total.is_within_limits && is_within }
with_amount total is_within (Some name) amount = record {
  terms = added total.terms name amount;
  constant = total.constant;
  is_within_limits = total.is_within_limits && is_within;
}

abbrev pub plus : Total → Limited SignedTerm → Total
plus total term = with_amount total term.is_within_limits term.value.register term.value.amount

unfoldable pub all_added : Total → List SignedText → Result Total ℕ
all_added total [] = Ok total
all_added total (t ∷ ts) = term_of t.is_negative t.text >>= λ term. all_added (plus total term) ts

abbrev pub nothing : Total
nothing = record { terms = []; constant = pos 0; is_within_limits = true }

-- ---- the form

abbrev pub kept : SumTerm → Option Term
kept t = if int_eq t.coefficient (pos 0) then None
    else Some (record { register = t.register; coefficient = (narrowed t.coefficient).value })

abbrev pub is_narrow : SumTerm → Bool
is_narrow t = (narrowed t.coefficient).is_within_limits

unfoldable pub form_from : Total → Limited Form
form_from total = limited (record { terms = filter_map kept total.terms; constant = (narrowed total.constant).value })
    (total.is_within_limits && (narrowed total.constant).is_within_limits && list_all is_narrow total.terms)

unfoldable pub form_of : List ℕ → Result (Limited Form) ℕ
form_of word = all_added nothing (signed_texts word) >>= λ total. Ok (form_from total)
