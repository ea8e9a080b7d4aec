-- Sums within the bounds of a form.
use Rattle.std.proofs.Common.{◌≡◌, ◌∙◌, ℕ, zero, suc, ◌+◌, ◌*◌, ◌^◌, ◌<◌, ◌≤◌, ℤ, pos, ◌+ℤ◌, ◌*ℤ◌, Bool, true, false, List, [], ◌∷◌, Option, Some, None, insert, refl, sym, ap, subst, arith}
use Rattle.std.specs.Prelude.{◌==◌, IsSome, nat_lt, if◌then◌else◌, slice_set, sum_by, unsigned_abs}
use Rattle.std.specs.List.{All, prefix_len}
use Rattle.std.proofs.Math.Nat.{mul-le-mul_left}
use Rattle.std.proofs.lemmas.Bool.{lt-ltb}
use Rattle.std.proofs.lemmas.Int.{ints, unsigned_abs-mul}
use Rattle.std.proofs.lemmas.List.Elements.{All-rest}
use Rattle.std.proofs.lemmas.List.Sums.{sum_by-cons}
use Rattle.linear.specs.declared.form.RegisterId.{RegisterId}
use Rattle.linear.specs.declared.form.Term.{Term}
use Rattle.linear.specs.Terms.{Combination, constant_form}
use Rattle.linear.specs.Made.{is_bounded, is_below, coefficient_at, placed_at, placed, with_terms, with_term, with_constant}
use Rattle.program.specs.declared.instruction.Operand.{Operand}
use Rattle.program.specs.declared.instruction.Operand.TheVariants.{Number, Register}
use Rattle.ranges.specs.ranges_owed.declared.sum.Part.{Part}
use Rattle.ranges.specs.Sums.{with_operand, with_parts, start_of, sum_form}
use Rattle.laws_verdict.specs.Sums.{IsWord, ModestSumsHaveForms}

-- ---- sizes

abs_sum : (a b : ℤ) → unsigned_abs (a +ℤ b) ≤ unsigned_abs a + unsigned_abs b
abs_sum a b = omega (arith, ints)

abs_product : (a z : ℤ) → unsigned_abs z ≤ 2 ^ 63 → unsigned_abs (a *ℤ z) ≤ unsigned_abs a * 2 ^ 63
abs_product a z l = rw (unsigned_abs-mul a z) (mul-le-mul_left (unsigned_abs a) l)

abbrev Most : ℕ → List Term → Type 0
Most w [] = Unit {0}
Most w (t ∷ ts) = (unsigned_abs t.coefficient ≤ w) × Most w ts

most_more : (w v : ℕ) → w ≤ v → (ts : List Term) → Most w ts → Most v ts
most_more w v l [] h = tt
most_more w v l (t ∷ ts) h = (let here = h.0 in omega (arith, here, l), most_more w v l ts h.1)

most_insert : (w : ℕ) (ts : List Term) (k : ℕ) (t : Term) → unsigned_abs t.coefficient ≤ w → Most w ts → Most w (insert ts k t)
most_insert w [] zero t l h = (l, tt)
most_insert w [] (suc k) t l h = (l, tt)
most_insert w (u ∷ us) zero t l h = (l, h)
most_insert w (u ∷ us) (suc k) t l h = (h.0, most_insert w us k t l h.1)

most_set : (w : ℕ) (ts : List Term) (k : ℕ) (t : Term) → unsigned_abs t.coefficient ≤ w → Most w ts → Most w (slice_set ts k t)
most_set w [] k t l h = tt
most_set w (u ∷ us) zero t l h = (l, h.1)
most_set w (u ∷ us) (suc k) t l h = (h.0, most_set w us k t l h.1)

own : (b : Bool) (x c : ℤ) (w : ℕ) → unsigned_abs x ≤ w → (if b then Some x else None) ≡ Some c → unsigned_abs c ≤ w
own true x c w l e = let same : x ≡ c = cc in subst (λ (z : ℤ). unsigned_abs z ≤ w) same l
own false x c w l e = absurd (cc)

most_at : (w : ℕ) (ts : List Term) (k r : ℕ) (c : ℤ) → Most w ts → coefficient_at ts k r ≡ Some c → unsigned_abs c ≤ w
most_at w [] k r c h e = absurd (cc)
most_at w (t ∷ ts) zero r c h e = own (t.register.0 == r) t.coefficient c w h.0 e
most_at w (t ∷ ts) (suc k) r c h e = most_at w ts k r c h.1 e

-- ---- one part more

-- the term of a register, with a number more
record IsPlaced (w : ℕ) (made : Option (List Term)) : Type 0 where
  pub terms : List Term
  pub is : made ≡ Some terms
  pub most : Most w terms

module _ (ts : List Term) (k : ℕ) (r : RegisterId) (a : ℤ) (w : ℕ) (most : Most w ts) (less : w + unsigned_abs a < 2 ^ 24) where
  grown : (c : ℤ) → unsigned_abs c ≤ w → unsigned_abs (c +ℤ a) ≤ w + unsigned_abs a
  grown c l = let s = abs_sum c a in omega (arith, s, l)

  bounded : (c : ℤ) → unsigned_abs c ≤ w → is_bounded (c +ℤ a) ≡ true
  bounded c l = let s = grown c l in lt-ltb (unsigned_abs (c +ℤ a)) 16777216 (omega (arith, s, less))

  more : Most (w + unsigned_abs a) ts
  more = most_more w (w + unsigned_abs a) (omega arith) ts most

  placed_by : (o : Option ℤ) → coefficient_at ts k r.0 ≡ o → IsPlaced (w + unsigned_abs a) (placed_at ts k r a o)
  placed_by None e = record {
    terms = insert ts k (record { register = r; coefficient = pos 0 +ℤ a });
    is = ap (λ (b : Bool). if b then Some (insert ts k (record { register = r; coefficient = pos 0 +ℤ a })) else None) (bounded (pos 0) (omega arith));
    most = most_insert (w + unsigned_abs a) ts k (record { register = r; coefficient = pos 0 +ℤ a }) (grown (pos 0) (omega arith)) more;
  }
  placed_by (Some c) e =
      let low = most_at w ts k r.0 c most e in
      record {
        terms = slice_set ts k (record { register = r; coefficient = c +ℤ a });
        is = ap (λ (b : Bool). if b then Some (slice_set ts k (record { register = r; coefficient = c +ℤ a })) else None) (bounded c low);
        most = most_set (w + unsigned_abs a) ts k (record { register = r; coefficient = c +ℤ a }) (grown c low) more;
      }

record IsAdded (w k : ℕ) (made : Option Combination) : Type 0 where
  pub form : Combination
  pub is : made ≡ Some form
  pub most : Most w form.terms
  pub constant : unsigned_abs form.constant ≤ k

module _ (f : Combination) (a : ℤ) (w k : ℕ) (most : Most w f.terms) (constant : unsigned_abs f.constant ≤ k) (less : w + unsigned_abs a < 2 ^ 24) (low : k + unsigned_abs a * 2 ^ 63 < 2 ^ 100) where
  register_added : (r : RegisterId) → IsAdded (w + unsigned_abs a) (k + unsigned_abs a * 2 ^ 63) (with_term f r a)
  unfolding placed
  register_added r =
      let place : ℕ = prefix_len (is_below r.0) f.terms in
      let p = placed_by f.terms place r a w most less (coefficient_at f.terms place r.0) refl in
      record {
        form = record { terms = p.terms; constant = f.constant };
        is = ap (with_terms f.constant) p.is;
        most = p.most;
        constant = omega (arith, constant);
      }

  added : (x : Operand) → IsWord x → IsAdded (w + unsigned_abs a) (k + unsigned_abs a * 2 ^ 63) (with_operand f a x)
  added (Register r) word = register_added r
  added (Number z) word =
      let product = abs_product a z word in
      let sum = abs_sum (a *ℤ z) f.constant in
      let within : unsigned_abs ((a *ℤ z) +ℤ f.constant) ≤ k + unsigned_abs a * 2 ^ 63 = omega (arith, product, sum, constant) in
      let scale : is_bounded a ≡ true = lt-ltb (unsigned_abs a) 16777216 (omega (arith, less)) in
      let room : nat_lt (unsigned_abs ((a *ℤ z) +ℤ f.constant)) 1267650600228229401496703205376 ≡ true = lt-ltb (unsigned_abs ((a *ℤ z) +ℤ f.constant)) 1267650600228229401496703205376 (omega (arith, within, low)) in
      record {
        form = record { terms = f.terms; constant = (a *ℤ z) +ℤ f.constant };
        is = ap (λ (b : Bool). if b then with_constant f (a *ℤ z) else None) scale
            ∙ ap (λ (b : Bool). if b then Some (record { terms = f.terms; constant = (a *ℤ z) +ℤ f.constant }) else None) room;
        most = most_more w (w + unsigned_abs a) (omega arith) f.terms most;
        constant = within;
      }

-- ---- all parts

abbrev factors : List Part → ℕ
factors ps = sum_by (λ (p : Part). unsigned_abs p.factor) ps

all_added : (ps : List Part) (f : Combination) (w k : ℕ) → Most w f.terms → unsigned_abs f.constant ≤ k → w + factors ps < 2 ^ 24 → k + factors ps * 2 ^ 63 < 2 ^ 100 → All (λ (p : Part). IsWord p.operand) ps →
    IsSome (with_parts ps (Some f))
all_added [] f w k most constant less low words = refl
all_added (p ∷ ps) f w k most constant less low words =
    let split : factors (p ∷ ps) ≡ unsigned_abs p.factor + factors ps = sum_by-cons (λ (q : Part). unsigned_abs q.factor) p ps in
    let one = added f p.factor w k most constant (omega (arith, less, split)) (omega (arith, low, split)) p.operand (words 0 p (omega arith)) in
    subst (λ (o : Option Combination). IsSome (with_parts ps o)) (sym one.is)
    (all_added ps one.form (w + unsigned_abs p.factor) (k + unsigned_abs p.factor * 2 ^ 63) one.most one.constant (omega (arith, less, split)) (omega (arith, low, split))
    (All-rest (λ (q : Part). IsWord q.operand) p ps (p ∷ ps) refl words))

pub modest_sums_have_forms : ModestSumsHaveForms
unfolding sum_form
modest_sums_have_forms sum h =
    let small = h.constant in
    let few = h.factors in
    let room : nat_lt (unsigned_abs sum.constant) 1267650600228229401496703205376 ≡ true = lt-ltb (unsigned_abs sum.constant) 1267650600228229401496703205376 (omega (arith, small)) in
    let start : start_of sum.constant ≡ Some (constant_form sum.constant) = ap (λ (b : Bool). if b then Some (constant_form sum.constant) else None) room in
    subst (λ (o : Option Combination). IsSome (with_parts sum.parts o)) (sym start)
    (all_added sum.parts (constant_form sum.constant) 0 (unsigned_abs sum.constant) tt (omega arith) (omega (arith, few)) (omega (arith, small, few)) h.numbers)
