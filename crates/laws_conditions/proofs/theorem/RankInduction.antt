-- Induction on ranks.
use Rattle.std.proofs.Common.{◌≡◌, ℕ, zero, suc, ◌<◌, refl, ◌∙◌, arith}
use Rattle.laws_conditions.specs.theorem.SerialConditions.{Rank, Below, by_function, by_measure, by_left, by_steps}

below_all : (Q : ℕ → Type 0) → ((n : ℕ) → ((k : ℕ) → k < n → Q k) → Q n) → (n : ℕ) → (k : ℕ) → k < n → Q k
below_all Q step zero k less = absurd (omega arith)
below_all Q step (suc n) k less = step k (λ j lower. below_all Q step n j (omega arith))

pub strong : (Q : ℕ → Type 0) → ((n : ℕ) → ((k : ℕ) → k < n → Q k) → Q n) → (n : ℕ) → Q n
strong Q step n = step n (λ k less. below_all Q step n k less)

module _ (A : Type 0) (rank : A → Rank) (P : A → Type 0) (step : (x : A) → ((y : A) → Below (rank y) (rank x) → P y) → P x) where
  pub by_rank : (x : A) → P x
  by_rank x =
      strong (λ a. (x : A) → (rank x).function ≡ a → P x)
      (λ a below_a x1 at_a.
      strong (λ b. (x : A) → (rank x).function ≡ a → (rank x).measure ≡ b → P x)
      (λ b below_b x2 at_a2 at_b.
      strong (λ c. (x : A) → (rank x).function ≡ a → (rank x).measure ≡ b → (rank x).left ≡ c → P x)
      (λ c below_c x3 at_a3 at_b3 at_c.
      strong (λ d. (x : A) → (rank x).function ≡ a → (rank x).measure ≡ b → (rank x).left ≡ c → (rank x).steps ≡ d → P x)
      (λ d below_d z fa mb cc_ sd.
      step z (λ y h. go a b c d below_a below_b below_c below_d z fa mb cc_ sd y h))
      (rank x3).steps x3 at_a3 at_b3 at_c refl)
      (rank x2).left x2 at_a2 at_b refl)
      (rank x1).measure x1 at_a refl)
      (rank x).function x refl
    where
      go : (a b c d : ℕ) → ((k : ℕ) → k < a → (x : A) → (rank x).function ≡ k → P x) → ((k : ℕ) → k < b → (x : A) → (rank x).function ≡ a → (rank x).measure ≡ k → P x) →
          ((k : ℕ) → k < c → (x : A) → (rank x).function ≡ a → (rank x).measure ≡ b → (rank x).left ≡ k → P x) → ((k : ℕ) → k < d → (x : A) → (rank x).function ≡ a → (rank x).measure ≡ b → (rank x).left ≡ c → (rank x).steps ≡ k → P x) →
          (z : A) → (rank z).function ≡ a → (rank z).measure ≡ b → (rank z).left ≡ c → (rank z).steps ≡ d → (y : A) → Below (rank y) (rank z) → P y
      go a b c d ha hb hc hd z fa mb nc sd y (by_function l) = ha (rank y).function (rw fa at l) y refl
      go a b c d ha hb hc hd z fa mb nc sd y (by_measure e l) = hb (rank y).measure (rw mb at l) y (e ∙ fa) refl
      go a b c d ha hb hc hd z fa mb nc sd y (by_left e e2 l) = hc (rank y).left (rw nc at l) y (e ∙ fa) (e2 ∙ mb) refl
      go a b c d ha hb hc hd z fa mb nc sd y (by_steps e e2 e3 l) = hd (rank y).steps (rw sd at l) y (e ∙ fa) (e2 ∙ mb) (e3 ∙ nc) refl
