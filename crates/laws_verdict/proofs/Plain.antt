-- What facts show of a sum that has a form is what they show of it as it stands.
use Rattle.std.proofs.Common.{◌≡◌, ◌∙◌, ◌↔◌, ℕ, suc, ℤ, pos, ◌+ℤ◌, ◌*ℤ◌, Bool, true, false, cond, List, [], ◌∷◌, ◌++◌, get_or, Option, Some, None, refl, sym, ap, subst, arith}
use Rattle.std.specs.Prelude.{IsSome, IsTrue, nat_lt, unsigned_abs}
use Rattle.std.proofs.lemmas.Bool.Decides.{Decides-ltb}
use Rattle.std.proofs.lemmas.Int.{ints}
use Rattle.std.proofs.lemmas.List.{length-map, get_or-map}
use Rattle.linear_shown.specs.Shown.{IsShown, SameFacts}
use Rattle.linear_shown.proofs.Respects.{shown_same}
use Rattle.linear_shown.proofs.Tested.{shown_from_test, shown_passes}
use Rattle.linear.specs.declared.form.Fact.{Fact}
use Rattle.linear.specs.declared.form.Term.{Term}
use Rattle.linear.specs.Forms.{IsForm, Same, plus}
use Rattle.linear.specs.Terms.{Combination, coefficient_of, constant_form}
use Rattle.linear.specs.Made.{is_bounded, with_constant}
use Rattle.linear.proofs.Added.{IsAdded, number_added, term_added}
use Rattle.linear.proofs.Making.{same_back, same_of}
use Rattle.linear.proofs.Placing.{coefficient_of-append}
use Rattle.program.specs.declared.instruction.Operand.{Operand}
use Rattle.program.specs.declared.instruction.Operand.TheVariants.{Number, Register}
use Rattle.ranges.specs.ranges_owed.declared.sum.Part.{Part}
use Rattle.ranges.specs.ranges_owed.declared.sum.Sum.{Sum}
use Rattle.ranges.specs.Sums.{shows, shows_form, sum_form, with_operand, with_parts}
use Rattle.laws_verdict.specs.Formed.{HasForm}
use Rattle.laws_verdict.specs.Plain.{operand_form, parts_form, plain_form}

-- ---- the form of a sum says the same as the sum

-- a form within bounds that says what these parts do beside another form
record Sums (f g : Combination) (parts : List Part) : Type 0 where
  form : IsForm g
  terms : (r : ℕ) → coefficient_of g.terms r ≡ coefficient_of f.terms r +ℤ coefficient_of (parts_form (pos 0) parts).terms r
  constant : g.constant ≡ f.constant +ℤ (parts_form (pos 0) parts).constant

number_with : (f g : Combination) (amount : ℤ) (b : Bool) → IsForm f → cond b (with_constant f amount) None ≡ Some g → IsAdded (plus (constant_form amount) f) g
number_with f g amount false form h = cc
number_with f g amount true form h = number_added f g amount form h

operand_with : (f g : Combination) (factor : ℤ) (x : Operand) → IsForm f → with_operand f factor x ≡ Some g → IsAdded (plus (operand_form factor x) f) g
operand_with f g factor (Number z) form h = number_with f g (factor *ℤ z) (is_bounded factor) form h
operand_with f g factor (Register r) form h = term_added f g r factor form h

none_stays : (parts : List Part) → with_parts parts None ≡ None
none_stays [] = refl
none_stays (p ∷ parts) = refl

with_nothing : (x : ℤ) → x ≡ x +ℤ pos 0
with_nothing x = omega (arith, ints)

added_up : (whole first all own rest both : ℤ) → whole ≡ first +ℤ rest → first ≡ own +ℤ all → both ≡ own +ℤ rest → whole ≡ all +ℤ both
added_up whole first all own rest both last begun split = omega (arith, ints, last, begun, split)

no_parts : (f g : Combination) → IsForm f → f ≡ g → Sums f g []
no_parts f g form e = subst (λ (k : Combination). Sums f k []) e (record { form = form; terms = λ r. with_nothing (coefficient_of f.terms r); constant = with_nothing f.constant })

more_parts : (f m g : Combination) (p : Part) (parts : List Part) → IsAdded (plus (operand_form p.factor p.operand) f) m → Sums m g parts → Sums f g (p ∷ parts)
more_parts f m g p parts a rest =
    let own : Combination = operand_form p.factor p.operand in
    let others : Combination = parts_form (pos 0) parts in
    record {
      form = rest.form;
      terms = λ r.
          added_up (coefficient_of g.terms r) (coefficient_of m.terms r) (coefficient_of f.terms r) (coefficient_of own.terms r) (coefficient_of others.terms r) (coefficient_of (plus own others).terms r)
          (rest.terms r) (a.same.terms r ∙ coefficient_of-append own.terms f.terms r) (coefficient_of-append own.terms others.terms r);
      constant = added_up g.constant m.constant f.constant own.constant others.constant (plus own others).constant rest.constant a.same.constant refl;
    }

parts_summed : (parts : List Part) (f g : Combination) → IsForm f → with_parts parts (Some f) ≡ Some g → Sums f g parts
parts_summed [] f g form h = no_parts f g form (let e : Some f ≡ Some g = h in cc)
parts_summed (p ∷ parts) f g form h = by (with_operand f p.factor p.operand) refl h (λ m. parts_summed parts m g)
  where
    by : (o : Option Combination) → with_operand f p.factor p.operand ≡ o → with_parts parts o ≡ Some g →
        ((m : Combination) → IsForm m → with_parts parts (Some m) ≡ Some g → Sums m g parts) → Sums f g (p ∷ parts)
    by None e k rest = absurd (let impossible : None ≡ Some g = sym (none_stays parts) ∙ k in cc)
    by (Some m) e k rest = let a = operand_with f m p.factor p.operand form e in more_parts f m g p parts a (rest m a.form k)

-- the parts and the constant, whichever of them comes first
same_terms : (constant : ℤ) (parts : List Part) → (parts_form constant parts).terms ≡ (parts_form (pos 0) parts).terms
same_terms constant [] = refl
same_terms constant (p ∷ parts) = ap (λ ts. (operand_form p.factor p.operand).terms ++ ts) (same_terms constant parts)

last_number : (own constant rest whole : ℤ) → whole ≡ constant +ℤ rest → own +ℤ whole ≡ constant +ℤ (own +ℤ rest)
last_number own constant rest whole same = omega (arith, ints, same)

same_constant : (constant : ℤ) (parts : List Part) → (parts_form constant parts).constant ≡ constant +ℤ (parts_form (pos 0) parts).constant
same_constant constant [] = with_nothing constant
same_constant constant (p ∷ parts) =
    last_number (operand_form p.factor p.operand).constant constant (parts_form (pos 0) parts).constant (parts_form constant parts).constant (same_constant constant parts)

nothing_first : (x : ℤ) → pos 0 +ℤ x ≡ x
nothing_first x = omega (arith, ints)

from_constant : (constant : ℤ) (parts : List Part) (g : Combination) (b : Bool) → nat_lt (unsigned_abs constant) 1267650600228229401496703205376 ≡ b →
    with_parts parts (cond b (Some (constant_form constant)) None) ≡ Some g → Same g (parts_form constant parts)
from_constant constant parts g false e h = absurd (let impossible : None ≡ Some g = sym (none_stays parts) ∙ h in cc)
from_constant constant parts g true e h =
    let form : IsForm (constant_form constant) = record { rising = tt; terms = λ k d l. absurd (omega (arith, l)); constant = (Decides-ltb _ _).0 e } in
    let s : Sums (constant_form constant) g parts = parts_summed parts (constant_form constant) g form h in
    record {
      terms = λ r.
          s.terms r ∙ nothing_first (coefficient_of (parts_form (pos 0) parts).terms r)
          ∙ ap (λ (ts : List Term). coefficient_of ts r) (sym (same_terms constant parts));
      constant = s.constant ∙ sym (same_constant constant parts);
    }

form_same : (s : Sum) (g : Combination) → sum_form s ≡ Some g → Same g (plain_form s)
unfolding sum_form
form_same s g h = from_constant s.constant s.parts g (nat_lt (unsigned_abs s.constant) 1267650600228229401496703205376) refl h

-- ---- so it is shown where the sum is

same_facts : (facts : List Fact) → SameFacts facts facts
same_facts facts = λ k d l. (
  (get_or facts k d).form,
  (suc k, omega (arith, l, length-map facts (λ (f : Fact). f.form)), get_or-map (λ (f : Fact). f.form) facts k d (get_or facts k d).form l),
  same_of (get_or facts k d).form,
)

pub shown_plain : (facts : List Fact) (sum : Sum) → HasForm sum → IsTrue (shows facts sum) ↔ IsShown facts (plain_form sum)
shown_plain facts sum has = by (sum_form sum) refl has
  where
    by : (o : Option Combination) → sum_form sum ≡ o → IsSome o → IsTrue (shows_form facts o) ↔ IsShown facts (plain_form sum)
    by None is some = absurd (cc)
    by (Some g) is some =
        let same : Same g (plain_form sum) = form_same sum g is in (
          (λ h. shown_same facts facts g (plain_form sum) same (same_facts facts) (shown_from_test facts g h)),
          (λ s. shown_passes facts g (shown_same facts facts (plain_form sum) g (same_back g (plain_form sum) same) (same_facts facts) s)),
        )
