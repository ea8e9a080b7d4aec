-- Numbers below a bound, and tests that are false.
use Rattle.std.proofs.Common.{◌≡◌, ◌≢◌, ◌↔◌, ℕ, ◌+◌, ◌<◌, inl, inr, sym, ◌∙◌, subst, arith, IsTrue}
use Rattle.std.specs.Prelude.{Bool, true, false}
use Rattle.std.proofs.lemmas.Bool.Decides.{eqb_tells}

pub none_more : (P : ℕ → Type 0) (n : ℕ) → ((w : ℕ) → w < n → ¬ P w) → ¬ P n → (w : ℕ) → w < n + 1 → ¬ P w
none_more P n below here w less p =
    elim (eqb_tells w n) [
      | inl h ↦ here (subst (λ k. P k) h.1 p)
      | inr h ↦ below w (let differ : w ≢ n = h.1 in omega arith) p
    ]

pub not_here : (b : Bool) (Q : Type 0) → b ≡ false → (IsTrue b ↔ Q) → ¬ Q
not_here b Q off tells q = let on : b ≡ true = tells.1 q in let e : false ≡ true = sym off ∙ on in cc
