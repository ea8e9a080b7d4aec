-- On terms whose registers rise each coefficient is that of one term.
use Rattle.std.proofs.Common.{◌≡◌, ◌∙◌, ℕ, zero, suc, ◌<◌, ℤ, pos, ◌+ℤ◌, eq-eqb, List, [], ◌∷◌, length, get_or, refl, arith}
use Rattle.std.specs.List.{All}
use Rattle.std.proofs.lemmas.Int.{ints}
use Rattle.std.proofs.lemmas.Bool.{ne_eqb}
use Rattle.std.proofs.lemmas.List.Elements.{All-head, All-tail}
use Rattle.linear.specs.declared.form.Term.{Term}
use Rattle.linear.specs.Forms.{IsRising}
use Rattle.linear.specs.Terms.{coefficient_of}

zero_plus : (x : ℤ) → pos 0 +ℤ x ≡ x
zero_plus x = omega (arith, ints)

pub none_above : (ts : List Term) (r : ℕ) → All (λ t. r < t.register.0) ts → coefficient_of ts r ≡ pos 0
none_above [] r all = refl
none_above (t ∷ ts) r all =
    rw (ne_eqb t.register.0 r (omega (arith, All-head (λ (t : Term). r < t.register.0) t ts all)), none_above ts r (All-tail (λ (t : Term). r < t.register.0) t ts all)) refl

-- the coefficient of a term is that of its register
pub own_coefficient : (ts : List Term) (k : ℕ) (d : Term) → IsRising ts → k < length ts → coefficient_of ts (get_or ts k d).register.0 ≡ (get_or ts k d).coefficient
own_coefficient [] k d rising within = absurd (omega arith)
own_coefficient (t ∷ ts) zero d rising within = rw (eq-eqb t.register.0 t.register.0 refl, none_above ts t.register.0 rising.0) (omega (arith, ints))
own_coefficient (t ∷ ts) (suc k) d rising within =
    let other : t.register.0 ≡ (get_or ts k d).register.0 → ⊥ = λ (e : t.register.0 ≡ (get_or ts k d).register.0). let l : t.register.0 < (get_or ts k d).register.0 = rising.0 k d (omega arith) in omega arith in
    rw (ne_eqb t.register.0 (get_or ts k d).register.0 other) (zero_plus (coefficient_of ts (get_or ts k d).register.0)) ∙ own_coefficient ts k d rising.1 (omega arith)
