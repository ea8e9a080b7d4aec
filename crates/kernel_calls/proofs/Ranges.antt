-- What requirements set of one argument.
use Rattle.std.proofs.Common.{◌≡◌, ◌-ℤ◌, ◌⊎◌, [], pos, unwrap_or, length, get_or, refl, arith, inl, inr, true, ℕ, ℤ, List, Option, Some, None, is_some, slice_get, subst, sym}
use Rattle.std.specs.Prelude.{IfSome}
use Rattle.std.proofs.lemmas.Option.{slice_get_read}
use Rattle.linear.specs.Terms.{Combination}
use Rattle.linear.specs.declared.form.Term.{Term}
use Rattle.program.specs.declared.annotation.Inequality.{Inequality}
use Rattle.kernel_calls.specs.Inside.{IsArgument, IsBound, SetsHigh, SetsLow}

-- ---- one requirement

pub argument_here : (number : ℕ) (form : Combination) (term : Term) → length form.terms ≡ 1 → term ≡ get_or form.terms 0 term → term.register.0 ≡ number → term.coefficient ≡ pos 1 →
    IsArgument number form
argument_here number form term one read register coefficient = record {
  one = one;
  term = term;
  there = slice_get_read form.terms (length form.terms) 0 term refl (omega (arith, one)) read;
  register = register;
  coefficient = coefficient;
}

pub bound_here : (number : ℕ) (alone other : Combination) (bound : ℤ) → IsArgument number alone → other.terms ≡ [] → bound ≡ other.constant -ℤ alone.constant →
    IsBound number alone other bound
bound_here number alone other bound is none difference = record { alone_is = is; other_is = none; bound_is = difference }

-- ---- one requirement more

pub low_goes_on : (number k : ℕ) (rs : List Inequality) (r : Inequality) (a b o : Option ℤ) → slice_get rs k ≡ Some r → IfSome a (λ z. SetsLow number rs z) →
    IfSome b (λ z. IsBound number r.high r.low z) → IfSome o (λ z. (a ≡ Some z) ⊎ (b ≡ Some z)) → IfSome o (λ z. SetsLow number rs z)
low_goes_on number k rs r a b None there had new is = tt
low_goes_on number k rs r a b (Some z) there had new (inl e) = subst (λ (m : Option ℤ). IfSome m (λ y. SetsLow number rs y)) e had
low_goes_on number k rs r a b (Some z) there had new (inr e) = (k, r, there, subst (λ (m : Option ℤ). IfSome m (λ y. IsBound number r.high r.low y)) e new)

pub high_goes_on : (number k : ℕ) (rs : List Inequality) (r : Inequality) (a b o : Option ℤ) → slice_get rs k ≡ Some r → IfSome a (λ z. SetsHigh number rs z) →
    IfSome b (λ z. IsBound number r.low r.high z) → IfSome o (λ z. (a ≡ Some z) ⊎ (b ≡ Some z)) → IfSome o (λ z. SetsHigh number rs z)
high_goes_on number k rs r a b None there had new is = tt
high_goes_on number k rs r a b (Some z) there had new (inl e) = subst (λ (m : Option ℤ). IfSome m (λ y. SetsHigh number rs y)) e had
high_goes_on number k rs r a b (Some z) there had new (inr e) = (k, r, there, subst (λ (m : Option ℤ). IfSome m (λ y. IsBound number r.low r.high y)) e new)

-- ---- what is told

pub told_of : (Is : ℤ → Type 0) (o : Option ℤ) (d z : ℤ) → IfSome o Is → z ≡ unwrap_or o d → is_some o ≡ true → Is z
told_of Is None d z there at is = absurd (cc)
told_of Is (Some y) d z there at is = subst Is (sym at) there
