-- An effort that is bounded, and one that is not.
use Rattle.std.proofs.Common.{◌≡◌, ℕ, Bool, Option, Some, None, true, false, ap, refl, subst, sym}
use Rattle.std.specs.Prelude.{◌≢◌, if◌then◌else◌, IsSome}
use Rattle.std.proofs.lemmas.Bool.{ne_eqb}
use Rattle.kernel_calls.specs.Told.{granted_by, unbounded}

pub bounded_is : (effort : ℕ) → IsSome (granted_by effort) → effort ≢ unbounded
bounded_is effort bounded is =
    let all : false ≡ true = subst (λ (n : ℕ). IsSome (granted_by n)) is bounded in
    absurd (cc)

pub bounded_some : (effort : Option ℕ) (granted : ℕ) → effort ≡ Some granted → IsSome effort
bounded_some effort granted is = subst (λ (o : Option ℕ). IsSome o) (sym is) refl

pub all_effort : (effort : ℕ) → effort ≡ unbounded → None ≡ granted_by effort
all_effort effort is = subst (λ (n : ℕ). None ≡ granted_by n) (sym is) refl

pub some_effort : (effort : ℕ) → effort ≢ unbounded → Some effort ≡ granted_by effort
some_effort effort other = sym (ap (λ (b : Bool). if b then None else Some effort) (ne_eqb effort unbounded other))
