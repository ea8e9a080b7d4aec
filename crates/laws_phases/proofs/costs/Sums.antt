-- A form that has the values of a sum which is shown is shown too.
use Rattle.std.proofs.Common.{◌≡◌, ◌∙◌, ℕ, ℤ, pos, negsuc, ◌+ℤ◌, ◌-ℤ◌, ◌*ℤ◌, Bool, true, false, cond, eqb, List, [], ◌∷◌, ◌++◌, get_or, map, Option, Some, None, refl, sym, ap, arith}
use Rattle.std.specs.List.{Contains}
use Rattle.std.proofs.lemmas.Bool.{false≢true}
use Rattle.std.proofs.lemmas.Int.{ints}
use Rattle.std.proofs.lemmas.List.Elements.{Contains-get_or, Contains-append_left}
use Rattle.std.proofs.Math.IntN.{*ℤ-zero}
use Rattle.linear.specs.declared.form.Fact.{Fact}
use Rattle.linear.specs.declared.form.Term.{Term}
use Rattle.linear.specs.Forms.{plus, minus, put, Same, value_of, value}
use Rattle.linear.specs.Terms.{Combination, constant_form, coefficient_of}
use Rattle.linear_shown.specs.Shown.{IsShown, SameFacts}
use Rattle.linear.proofs.Making.{same_of}
use Rattle.linear_shown.proofs.Respects.{shown_same}
use Rattle.linear_shown.proofs.Tested.{shown_from_test}
use Rattle.linear.proofs.Values.{value_constant, value_plus, value_minus, value_put}
use Rattle.cfg.specs.declared.structure.Move.{Move}
use Rattle.ranges.specs.ranges_owed.declared.sum.Sum.{Sum}
use Rattle.ranges.specs.Sums.{sum_form, shows_form, shows}
use Rattle.ranges.specs.ranges_owed.Inequalities.{parts_of}
use Rattle.ranges.specs.Truth.{parts_value, sum_value}
use Rattle.ranges.proofs.Truth.{form_value}
use Rattle.laws_conditions.specs.rules.ShownCosts.{IsAtLeast}
use Rattle.laws_phases.proofs.defined.Lists.{later_within}
use Rattle.cfg.proofs.Searching.{Contains_map}
use Rattle.laws_phases.proofs.facts.Sums.{Moved, unmoved, parts_moved, parts_append}
use Rattle.cost_table.specs.Rules.{left_behind, less_form, number_less}

-- ---- forms of the same values are the same

-- 1 at this register, and 0 at all others
abbrev at_register : ℕ → ℕ → ℤ
at_register r x = cond (eqb x r) (pos 1) (pos 0)

times_chosen : (b : Bool) (c : ℤ) → c *ℤ cond b (pos 1) (pos 0) ≡ cond b c (pos 0)
times_chosen true c = omega (arith, ints)
times_chosen false c = *ℤ-zero c

coefficient_value : (ts : List Term) (r : ℕ) → value_of (at_register r) ts ≡ coefficient_of ts r
coefficient_value [] r = refl
coefficient_value (t ∷ ts) r =
    ap (λ z. z +ℤ value_of (at_register r) ts) (times_chosen (eqb t.register.0 r) t.coefficient) ∙ ap (λ z. cond (eqb t.register.0 r) t.coefficient (pos 0) +ℤ z) (coefficient_value ts r)

no_value : (ts : List Term) → value_of (λ x. pos 0) ts ≡ pos 0
no_value [] = refl
no_value (t ∷ ts) = ap (λ z. z +ℤ value_of (λ x. pos 0) ts) (*ℤ-zero t.coefficient) ∙ ap (λ z. pos 0 +ℤ z) (no_value ts)

same_constants : (x y c d : ℤ) → x ≡ pos 0 → y ≡ pos 0 → x +ℤ c ≡ y +ℤ d → c ≡ d
same_constants x y c d none other same = omega (arith, ints)

same_sums : (x y a b c d : ℤ) → x ≡ a → y ≡ b → c ≡ d → x +ℤ c ≡ y +ℤ d → a ≡ b
same_sums x y a b c d first second third same = omega (arith, ints)

same_by_values : (e f : Combination) → ((v : ℕ → ℤ) → value v e ≡ value v f) → Same e f
same_by_values e f same =
    let constant : e.constant ≡ f.constant = same_constants (value_of (λ x. pos 0) e.terms) (value_of (λ x. pos 0) f.terms) e.constant f.constant (no_value e.terms) (no_value f.terms) (same (λ x. pos 0)) in
    record {
      terms = λ r. same_sums (value_of (at_register r) e.terms) (value_of (at_register r) f.terms) (coefficient_of e.terms r) (coefficient_of f.terms r) e.constant f.constant (coefficient_value e.terms r) (coefficient_value f.terms r) constant
          (same (at_register r));
      constant = constant;
    }

-- ---- more facts show no less

same_within : (facts others : List Fact) → ((f : Fact) → Contains facts f → Contains others f) → SameFacts facts others
same_within facts others more = λ k d l.
    let f : Fact = get_or facts k d in
    (f.form, later_within (constant_form (pos 0)) f.form (map (λ (g : Fact). g.form) others) (Contains_map (λ (g : Fact). g.form) others f (more f (Contains-get_or facts k d l))), same_of f.form)

pub shown_more : (facts more : List Fact) (e : Combination) → IsShown facts e → IsShown (facts ++ more) e
shown_more facts more e h = shown_same facts (facts ++ more) e e (same_of e) (same_within facts (facts ++ more) (λ f c. Contains-append_left facts more f c)) h

pub shown_by_sum : (facts : List Fact) (s : Sum) (e : Combination) → shows facts s ≡ true → ((v : ℕ → ℤ) → sum_value v s ≡ value v e) → IsShown facts e
shown_by_sum facts s e h same = by (sum_form s) refl h
  where
    by : (o : Option Combination) → sum_form s ≡ o → shows_form facts o ≡ true → IsShown facts e
    by None is t = absurd (false≢true t)
    by (Some f) is t = shown_same facts facts f e (same_by_values f e (λ v. form_value v s f is ∙ same v)) (same_within facts facts (λ g c. c)) (shown_from_test facts f t)

-- ---- the sums of the rules on cost

least_value : (v : ℕ → ℤ) (e g : Combination) (k : ℕ) → value v (minus e (plus g (constant_form (pos k)))) ≡ value v e +ℤ (negsuc 0 *ℤ (value v g +ℤ pos k))
least_value v e g k =
    value_minus v e (plus g (constant_form (pos k)))
    ∙ ap (λ z. value v e +ℤ (negsuc 0 *ℤ z)) (value_plus v g (constant_form (pos k)) ∙ ap (λ z. value v g +ℤ z) (value_constant v (pos k)))

behind : (c t : ℤ) (k : ℕ) → (c -ℤ pos k) +ℤ (pos 1 *ℤ t) ≡ (t +ℤ c) +ℤ (negsuc 0 *ℤ pos k)
behind c t k = omega (arith, ints)

behind_value : (v : ℕ → ℤ) (e : Combination) (k : ℕ) → sum_value v (left_behind e k) ≡ value v e +ℤ (negsuc 0 *ℤ pos k)
behind_value v e k = ap (λ z. (e.constant -ℤ pos k) +ℤ z) (parts_moved v v [] (pos 1) e.terms (unmoved v e.terms)) ∙ behind e.constant (value_of v e.terms) k

less : (s p t c : ℤ) → (s -ℤ c) +ℤ (p +ℤ (negsuc 0 *ℤ t)) ≡ (s +ℤ p) +ℤ (negsuc 0 *ℤ (t +ℤ c))
less s p t c = omega (arith, ints)

less_value : (v w : ℕ → ℤ) (s : Sum) (moves : List Move) (g : Combination) → Moved moves v w g.terms → sum_value v (less_form s moves g) ≡ sum_value v s +ℤ (negsuc 0 *ℤ value w g)
less_value v w s moves g moved =
    ap (λ z. (s.constant -ℤ g.constant) +ℤ z) (parts_append v s.parts (parts_of moves (negsuc 0) g.terms) ∙ ap (λ z. parts_value v s.parts +ℤ z) (parts_moved v w moves (negsuc 0) g.terms moved))
    ∙ less s.constant (parts_value v s.parts) (value_of w g.terms) g.constant

-- what is left at a start
pub floor_shown : (facts : List Fact) (e : Combination) → shows facts (left_behind e 0) ≡ true → IsShown facts e
floor_shown facts e h = shown_by_sum facts (left_behind e 0) e h (λ v. behind_value v e 0 ∙ nothing (value v e))
  where
    nothing : (x : ℤ) → x +ℤ (negsuc 0 *ℤ pos 0) ≡ x
    nothing x = omega (arith, ints)

-- at an end
pub end_shown : (facts : List Fact) (e : Combination) (k : ℕ) → shows facts (left_behind e k) ≡ true → IsAtLeast facts e (constant_form (pos 0)) k
end_shown facts e k h =
    shown_by_sum facts (left_behind e k) (minus e (plus (constant_form (pos 0)) (constant_form (pos k)))) h
    (λ v. behind_value v e k ∙ alone (value v e) (value v (constant_form (pos 0))) k (value_constant v (pos 0)) ∙ sym (least_value v e (constant_form (pos 0)) k))
  where
    alone : (x z : ℤ) (k : ℕ) → z ≡ pos 0 → x +ℤ (negsuc 0 *ℤ pos k) ≡ x +ℤ (negsuc 0 *ℤ (z +ℤ pos k))
    alone x z k none = omega (arith, ints)

turned : (x z : ℤ) (k : ℕ) → (x +ℤ (negsuc 0 *ℤ pos k)) +ℤ (negsuc 0 *ℤ z) ≡ x +ℤ (negsuc 0 *ℤ (z +ℤ pos k))
turned x z k = omega (arith, ints)

-- along an edge or into a call, with moves that say what the forms that are put in say
pub moved_shown : (facts : List Fact) (e g : Combination) (k : ℕ) (moves : List Move) (σ : ℕ → Combination) → ((v : ℕ → ℤ) → Moved moves v (λ x. value v (σ x)) g.terms) → shows facts (less_form (left_behind e k) moves g) ≡ true → IsAtLeast facts e (put σ g) k
moved_shown facts e g k moves σ moved h =
    shown_by_sum facts (less_form (left_behind e k) moves g) (minus e (plus (put σ g) (constant_form (pos k)))) h
    (λ v.
    less_value v (λ x. value v (σ x)) (left_behind e k) moves g (moved v)
    ∙ ap (λ z. z +ℤ (negsuc 0 *ℤ value (λ x. value v (σ x)) g)) (behind_value v e k)
    ∙ turned (value v e) (value (λ x. value v (σ x)) g) k
    ∙ ap (λ z. value v e +ℤ (negsuc 0 *ℤ (z +ℤ pos k))) (sym (value_put v σ g))
    ∙ sym (least_value v e (put σ g) k))

-- at a detach
pub fork_shown : (facts : List Fact) (e g h : Combination) (k : ℕ) → shows facts (less_form (less_form (left_behind e k) [] g) [] h) ≡ true → IsAtLeast facts e (plus g h) k
fork_shown facts e g h k t =
    shown_by_sum facts (less_form (less_form (left_behind e k) [] g) [] h) (minus e (plus (plus g h) (constant_form (pos k)))) t
    (λ v.
    less_value v v (less_form (left_behind e k) [] g) [] h (unmoved v h.terms)
    ∙ ap (λ z. z +ℤ (negsuc 0 *ℤ value v h)) (less_value v v (left_behind e k) [] g (unmoved v g.terms) ∙ ap (λ z. z +ℤ (negsuc 0 *ℤ value v g)) (behind_value v e k))
    ∙ both (value v e) (value v g) (value v h) k
    ∙ ap (λ z. value v e +ℤ (negsuc 0 *ℤ (z +ℤ pos k))) (sym (value_plus v g h))
    ∙ sym (least_value v e (plus g h) k))
  where
    both : (x y z : ℤ) (k : ℕ) → ((x +ℤ (negsuc 0 *ℤ pos k)) +ℤ (negsuc 0 *ℤ y)) +ℤ (negsuc 0 *ℤ z) ≡ x +ℤ (negsuc 0 *ℤ ((y +ℤ z) +ℤ pos k))
    both x y z k = omega (arith, ints)

-- within a number
pub ceiling_shown : (facts : List Fact) (n : ℕ) (e : Combination) → shows facts (number_less n e) ≡ true → IsShown facts (minus (constant_form (pos n)) e)
ceiling_shown facts n e h =
    shown_by_sum facts (number_less n e) (minus (constant_form (pos n)) e) h
    (λ v.
    ap (λ z. (pos n -ℤ e.constant) +ℤ z) (parts_moved v v [] (negsuc 0) e.terms (unmoved v e.terms))
    ∙ rest (pos n) e.constant (value_of v e.terms)
    ∙ ap (λ z. z +ℤ (negsuc 0 *ℤ value v e)) (sym (value_constant v (pos n)))
    ∙ sym (value_minus v (constant_form (pos n)) e))
  where
    rest : (n c t : ℤ) → (n -ℤ c) +ℤ (negsuc 0 *ℤ t) ≡ n +ℤ (negsuc 0 *ℤ (t +ℤ c))
    rest n c t = omega (arith, ints)
