-- What is added to a form, in value.
use Rattle.std.proofs.Common.{◌≡◌, ◌∙◌, ℕ, ◌^◌, ℤ, pos, ◌+ℤ◌, Bool, true, false, cond, List, Option, Some, None, inl, inr, sym, refl, subst, arith}
use Rattle.std.specs.Prelude.{nat_lt}
use Rattle.std.specs.List.{prefix_len}
use Rattle.std.specs.Int.RustNames.{unsigned_abs}
use Rattle.std.proofs.lemmas.Bool.{cases_lt}
use Rattle.std.proofs.lemmas.Bool.Decides.{Decides-ltb}
use Rattle.std.proofs.lemmas.Int.{ints}
use Rattle.linear.specs.declared.form.RegisterId.{RegisterId}
use Rattle.linear.specs.declared.form.Term.{Term}
use Rattle.linear.specs.Forms.{IsForm, IsRising, AreSmall, Same, plus, value}
use Rattle.linear.specs.Terms.{Combination, constant_form}
use Rattle.linear.specs.Made.{is_below, coefficient_at, placed, with_terms, with_term, with_constant}
use Rattle.linear.specs.Bounded.{IsTermAdded, term_form}
use Rattle.linear.proofs.Placing.{added_new, added_more, placed_new, placed_more, placed_refused, placed_more_refused}
use Rattle.linear.proofs.Respects.{same_value}
use Rattle.linear.proofs.Values.{value_plus}

two_answers : (a b : List Term) (o : Option (List Term)) → o ≡ Some a → o ≡ Some b → a ≡ b
two_answers a b o h k = let e : Some a ≡ Some b = sym h ∙ k in cc

no_answer : {P : Type 0} (a : List Term) (o : Option (List Term)) → o ≡ Some a → o ≡ None → P
no_answer a o h k = let e : Some a ≡ None = sym h ∙ k in cc

-- the terms that a register times a number is placed among say the same as with it before them
placed_added : (ts us : List Term) (register : RegisterId) (amount : ℤ) (read : Option ℤ) → IsRising ts → AreSmall ts →
    read ≡ coefficient_at ts (prefix_len (is_below register.0) ts) register.0 → placed ts register amount ≡ Some us → IsTermAdded (record { register = register; coefficient = amount }) ts us
placed_added ts us register amount None rising small e h =
    let k : ℕ = prefix_len (is_below register.0) ts in
    let z : ℤ = pos 0 +ℤ amount in
    elim (cases_lt (unsigned_abs z) (2 ^ 24)) [
      | inl bounded ↦ subst (IsTermAdded (record { register = register; coefficient = amount }) ts) (two_answers _ us (placed ts register amount) (placed_new ts k register amount z refl e refl bounded) h) (added_new ts k register amount z refl e rising small refl bounded)
      | inr large ↦ no_answer us (placed ts register amount) h (placed_refused ts k register amount refl e large)
    ]
placed_added ts us register amount (Some c) rising small e h =
    let k : ℕ = prefix_len (is_below register.0) ts in
    let z : ℤ = c +ℤ amount in
    elim (cases_lt (unsigned_abs z) (2 ^ 24)) [
      | inl bounded ↦ subst (IsTermAdded (record { register = register; coefficient = amount }) ts) (two_answers _ us (placed ts register amount) (placed_more ts k register amount c z refl e refl bounded) h) (added_more ts k register amount c z e rising small refl bounded)
      | inr large ↦ no_answer us (placed ts register amount) h (placed_more_refused ts k register amount c refl e large)
    ]

-- a form that says the same as a sum
pub record IsAdded (sum g : Combination) : Type 0 where
  pub form : IsForm g
  pub same : Same g sum

zero_plus : (x : ℤ) → x ≡ pos 0 +ℤ x
zero_plus x = omega (arith, ints)

with_placed : (f g : Combination) (register : RegisterId) (amount : ℤ) (us : Option (List Term)) → IsForm f → ((ts : List Term) → us ≡ Some ts → IsTermAdded (record { register = register; coefficient = amount }) f.terms ts) →
    with_terms f.constant us ≡ Some g → IsAdded (plus (term_form register amount) f) g
with_placed f g register amount None form added h = cc
with_placed f g register amount (Some ts) form added h =
    let t : IsTermAdded (record { register = register; coefficient = amount }) f.terms ts = added ts refl in
    let new : Combination = record { terms = ts; constant = f.constant } in
    let is : new ≡ g = cc in
    subst (IsAdded (plus (term_form register amount) f)) is (record {
      form = record { rising = t.rising; terms = t.small; constant = form.constant };
      same = record { terms = t.same; constant = zero_plus f.constant };
    })

pub term_added : (f g : Combination) (register : RegisterId) (amount : ℤ) → IsForm f → with_term f register amount ≡ Some g → IsAdded (plus (term_form register amount) f) g
term_added f g register amount form h =
    with_placed f g register amount (placed f.terms register amount) form
    (λ ts e. placed_added f.terms ts register amount (coefficient_at f.terms (prefix_len (is_below register.0) f.terms) register.0) form.rising form.terms refl e)
    h

with_number : (f g : Combination) (amount : ℤ) (b : Bool) → IsForm f → nat_lt (unsigned_abs (amount +ℤ f.constant)) 1267650600228229401496703205376 ≡ b →
    cond b (Some (record { terms = f.terms; constant = amount +ℤ f.constant })) None ≡ Some g → IsAdded (plus (constant_form amount) f) g
with_number f g amount false form is h = cc
with_number f g amount true form is h =
    let new : Combination = record { terms = f.terms; constant = amount +ℤ f.constant } in
    let e : new ≡ g = cc in
    subst (IsAdded (plus (constant_form amount) f)) e (record {
      form = record { rising = form.rising; terms = form.terms; constant = (Decides-ltb _ _).0 is };
      same = record { terms = λ r. refl; constant = refl };
    })

pub number_added : (f g : Combination) (amount : ℤ) → IsForm f → with_constant f amount ≡ Some g → IsAdded (plus (constant_form amount) f) g
number_added f g amount form h = with_number f g amount (nat_lt (unsigned_abs (amount +ℤ f.constant)) 1267650600228229401496703205376) form refl h

pub added_value : (v : ℕ → ℤ) (e f g : Combination) → IsAdded (plus e f) g → value v g ≡ value v e +ℤ value v f
added_value v e f g a = same_value v g (plus e f) a.same ∙ value_plus v e f
