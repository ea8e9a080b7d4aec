-- Terms that agree at each register that is named agree at each register.
use Rattle.std.proofs.Common.{◌≡◌, ◌⊎◌, ℕ, pos, List, [], ◌∷◌, refl, subst, inl, inr, arith}
use Rattle.std.specs.List.{All}
use Rattle.std.proofs.lemmas.Int.{ints}
use Rattle.std.proofs.lemmas.Bool.{cases_eq, ne_eqb}
use Rattle.std.proofs.lemmas.List.Elements.{All-head, All-tail}
use Rattle.linear.specs.declared.form.Term.{Term}
use Rattle.linear.specs.Lookup.{looked_up}
use Rattle.linear_shown.specs.Search.{Agrees}

pub named_or_zero : (P : ℕ → Type 0) (ts : List Term) (r : ℕ) → All (λ t. P t.register.0) ts → P r ⊎ (looked_up ts r ≡ pos 0)
named_or_zero P [] r all = inr refl
named_or_zero P (t ∷ ts) r all = elim (cases_eq t.register.0 r) [
  | inl e ↦ inl (subst P e (All-head (λ (t : Term). P t.register.0) t ts all))
  | inr ne ↦ rw (ne_eqb t.register.0 r ne) (named_or_zero P ts r (All-tail (λ (t : Term). P t.register.0) t ts all))
]

pub agree_everywhere : (e : List Term) (a : ℕ) (f : List Term) (b : ℕ) (g : List Term) →
    All (λ t. Agrees e a f b g t.register.0) e → All (λ t. Agrees e a f b g t.register.0) f → All (λ t. Agrees e a f b g t.register.0) g →
    (r : ℕ) → Agrees e a f b g r
agree_everywhere e a f b g at_e at_f at_g r =
    elim (named_or_zero (Agrees e a f b g) e r at_e) [
      | inl h ↦ h
      | inr zero_e ↦ elim (named_or_zero (Agrees e a f b g) f r at_f) [
        | inl h ↦ h
        | inr zero_f ↦ elim (named_or_zero (Agrees e a f b g) g r at_g) [
          | inl h ↦ h
          | inr zero_g ↦ rw (zero_e, zero_f, zero_g) (omega (arith, ints))
        ]
      ]
    ]
