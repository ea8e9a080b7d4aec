-- Where steps of different labels commute, one finished run tells the end and the length of every run.
use Rattle.std.proofs.Common.{◌≡◌, ℕ, zero, suc, ◌+◌, ◌≤◌, List, [], ◌∷◌, length, Option, Some, None, ◌≢◌, Bool, true, false, refl, sym, subst, arith}

-- a machine that takes one labelled step at a time
abbrev pub Stepper : Type 0 → Type 0 → Type 0
Stepper Label State = Label → State → Option State

-- these labels, one after another, lead from the state to the last one
abbrev pub Run : {Label State : Type 0} → Stepper Label State → List Label → State → State → Type 0
Run step [] s t = s ≡ t
Run {State = State} step (p ∷ ps) s t = (mid : State) × (step p s ≡ Some mid) × Run step ps mid t

abbrev pub Over : {Label State : Type 0} → Stepper Label State → State → Type 0
Over {Label} step s = (p : Label) → step p s ≡ None

abbrev pub Kept {ℓ} : {Label State : Type 0} → Stepper Label State → (State → Type ℓ) → Type ℓ
Kept {Label} {State} step Inv = (p : Label) (s t : State) → Inv s → step p s ≡ Some t → Inv t

-- two steps that are both possible can be done in either order
abbrev pub Commutes {ℓ} : {Label State : Type 0} → Stepper Label State → (State → Type ℓ) → Type ℓ
Commutes {Label} {State} step Inv =
    (p q : Label) (s t u : State) → Inv s → p ≢ q → step p s ≡ Some t → step q s ≡ Some u → (v : State) × (step q t ≡ Some v) × (step p u ≡ Some v)

abbrev pub Tells : {Label : Type 0} → (Label → Label → Bool) → Type 0
Tells {Label} same = (p q : Label) → (same p q ≡ true → p ≡ q) × (same p q ≡ false → p ≢ q)

pub one_result : {A : Type 0} (o : Option A) (a b : A) → o ≡ Some a → o ≡ Some b → a ≡ b
one_result o a b e f = cc

no_result : {A : Type 0} (o : Option A) (a : A) → o ≡ None → o ≡ Some a → ⊥
no_result o a e f = cc

pub kept_by_run {ℓ} : {Label State : Type 0} (step : Stepper Label State) (Inv : State → Type ℓ) → Kept step Inv → (ps : List Label) (s t : State) → Inv s → Run step ps s t → Inv t
kept_by_run step Inv kept [] s t inv e = subst Inv e inv
kept_by_run step Inv kept (p ∷ ps) s t inv (mid, e, rest) = kept_by_run step Inv kept ps mid t (kept p s mid inv e) rest

module _ {ℓ} {Label State : Type 0} (step : Stepper Label State) (Inv : State → Type ℓ) (same : Label → Label → Bool) (tells : Tells same) (kept : Kept step Inv) (commutes : Commutes step Inv) where
  -- from the state, n steps lead to the end
  abbrev pub Within : ℕ → State → State → Type 0
  Within zero s end = s ≡ end
  Within (suc n) s end = (p : Label) × (mid : State) × (step p s ≡ Some mid) × Within n mid end

  -- any step that is possible is one of the steps to the end
  after_step : (n : ℕ) (s end : State) → Inv s → Over step end → Within n s end → (p : Label) (t : State) → step p s ≡ Some t → (m : ℕ) × (n ≡ suc m) × Within m t end
  after_step zero s end inv over at_end p t e = absurd (no_result (step p s) t (subst (λ x. step p x ≡ None) (sym at_end) (over p)) e)
  after_step (suc n) s end inv over (q, mid, to_mid, rest) p t e =
      elim (same p q) as (λ b. same p q ≡ b → (m : ℕ) × (suc n ≡ suc m) × Within m t end) [
        | true ↦ λ yes.
            let one = one_result (step q s) mid t to_mid (subst (λ x. step x s ≡ Some t) ((tells p q).0 yes) e) in
            (n, refl, subst (λ x. Within n x end) one rest)
        | false ↦ λ no.
            let (v, from_t, from_mid) = commutes p q s t mid inv ((tells p q).1 no) e to_mid in
            let (m, is, later) = after_step n mid end (kept q s mid inv to_mid) over rest p v from_mid in
            (n, refl, subst (λ x. Within x t end) (sym is) (q, v, from_t, later))
      ] refl

  pub within_run : (ps : List Label) (s t : State) → Run step ps s t → Within (length ps) s t
  within_run [] s t e = e
  within_run (p ∷ ps) s t (mid, e, rest) = (p, mid, e, within_run ps mid t rest)

  pub after_run : (ps : List Label) (n : ℕ) (s t end : State) → Inv s → Over step end → Within n s end → Run step ps s t → (m : ℕ) × (n ≡ length ps + m) × Within m t end
  after_run [] n s t end inv over to_end e = (n, omega arith, subst (λ x. Within n x end) e to_end)
  after_run (p ∷ ps) n s t end inv over to_end (mid, e, rest) =
      let (m, is, later) = after_step n s end inv over to_end p mid e in
      let (k, sum, last) = after_run ps m mid t end (kept p s mid inv e) over later rest in
      (k, omega arith, last)

  over_within : (n : ℕ) (s end : State) → Over step s → Within n s end → (n ≡ 0) × (s ≡ end)
  over_within zero s end over e = (refl, e)
  over_within (suc n) s end over (p, mid, e, rest) = absurd (no_result (step p s) mid (over p) e)

  -- no run is longer than one that came to an end, and each that comes to an end comes to that one, in as many steps
  pub ends_alike : (first : List Label) (s end : State) → Inv s → Run step first s end → Over step end →
      (other : List Label) (t : State) → Run step other s t → (length other ≤ length first) × (Over step t → (t ≡ end) × (length other ≡ length first))
  ends_alike first s end inv run over other t run2 =
      let (m, is, later) = after_run other (length first) s t end inv over (within_run first s end run) run2 in
      (omega arith, λ done. let (none, at_end) = over_within m t end done later in (at_end, omega arith))
