-- What steps reach from a set of numbers, found by adding what one step reaches until nothing is new. Only numbers below n count.
use Rattle.std.proofs.Common.{◌≡◌, ℕ, zero, suc, ◌<◌, ◌≤◌, Bool, true, false, not, ◌&&◌, ◌||◌, cond, inl, inr, refl, sym, ◌∙◌, ap, arith, true≢false}
use Rattle.std.proofs.lemmas.Bool.{cases_eq, and_from, or_right, not-true, and_parts}

-- ---- tests of numbers

-- some number below n passes the test
abbrev pub any_below : ℕ → (ℕ → Bool) → Bool
any_below zero test = false
any_below (suc n) test = test n || any_below n test

pub below_any : (n : ℕ) (test : ℕ → Bool) (k : ℕ) → k < n → test k ≡ true → any_below n test ≡ true
below_any zero test k less e = absurd (omega (arith, less))
below_any (suc n) test k less e = by (test n) refl (λ low. below_any n test k low e)
  where
    by : (b : Bool) → test n ≡ b → (k < n → any_below n test ≡ true) → b || any_below n test ≡ true
    by true is rest = refl
    by false is rest = elim (cases_eq k n) [
      | inl same ↦ absurd (true≢false (sym e ∙ ap test same ∙ is))
      | inr apart ↦ rest (omega (arith, less, apart))
    ]

pub below_some : (n : ℕ) (test : ℕ → Bool) → any_below n test ≡ true → (k : ℕ) × (k < n) × (test k ≡ true)
below_some zero test e = absurd (true≢false (sym e))
below_some (suc n) test e = by (test n) refl e (λ h. below_some n test h)
  where
    by : (b : Bool) → test n ≡ b → b || any_below n test ≡ true → (any_below n test ≡ true → (k : ℕ) × (k < n) × (test k ≡ true)) → (k : ℕ) × (k < suc n) × (test k ≡ true)
    by true is h rest = (n, omega arith, is)
    by false is h rest = let r = rest h in let less = r.1 in (r.0, omega (arith, less), r.2)

pub or_some : (a b : Bool) (P : Type 0) → (a ≡ true → P) → (b ≡ true → P) → a || b ≡ true → P
or_some true b P first second e = first refl
or_some false b P first second e = second e

-- ---- numbers that a set lacks

abbrev lacking : ℕ → (ℕ → Bool) → ℕ
lacking zero s = 0
lacking (suc n) s = cond (s n) (lacking n s) (suc (lacking n s))

lacking_most : (n : ℕ) (s : ℕ → Bool) → lacking n s ≤ n
lacking_most zero s = omega arith
lacking_most (suc n) s = by (s n) (lacking_most n s)
  where
    by : (b : Bool) → lacking n s ≤ n → cond b (lacking n s) (suc (lacking n s)) ≤ suc n
    by true h = omega (arith, h)
    by false h = omega (arith, h)

lacking_none : (n : ℕ) (s : ℕ → Bool) → lacking n s ≤ 0 → (b : ℕ) → b < n → s b ≡ true
lacking_none zero s few b less = absurd (omega (arith, less))
lacking_none (suc n) s few b less = by (s n) refl few (λ h low. lacking_none n s h b low)
  where
    by : (x : Bool) → s n ≡ x → cond x (lacking n s) (suc (lacking n s)) ≤ 0 → (lacking n s ≤ 0 → b < n → s b ≡ true) → s b ≡ true
    by false is h rest = absurd (omega (arith, h))
    by true is h rest = elim (cases_eq b n) [
      | inl same ↦ ap s same ∙ is
      | inr apart ↦ rest h (omega (arith, less, apart))
    ]

module _ (s t : ℕ → Bool) (more : (b : ℕ) → s b ≡ true → t b ≡ true) where
  lacking_fewer : (n : ℕ) → lacking n t ≤ lacking n s
  lacking_fewer zero = omega arith
  lacking_fewer (suc n) = by (s n) (t n) (more n) (lacking_fewer n)
    where
      by : (x y : Bool) → (x ≡ true → y ≡ true) → lacking n t ≤ lacking n s → cond y (lacking n t) (suc (lacking n t)) ≤ cond x (lacking n s) (suc (lacking n s))
      by true true up h = h
      by true false up h = absurd (true≢false (sym (up refl)))
      by false true up h = omega (arith, h)
      by false false up h = omega (arith, h)

  lacking_less : (n b : ℕ) → b < n → s b ≡ false → t b ≡ true → lacking n t < lacking n s
  lacking_less zero b less out now = absurd (omega (arith, less))
  lacking_less (suc n) b less out now = elim (cases_eq b n) [
    | inl same ↦ here (s n) (t n) (sym (ap s same) ∙ out) (sym (ap t same) ∙ now) (lacking_fewer n)
    | inr apart ↦ by (s n) (t n) (more n) (lacking_less n b (omega (arith, less, apart)) out now)
  ]
    where
      here : (x y : Bool) → x ≡ false → y ≡ true → lacking n t ≤ lacking n s → cond y (lacking n t) (suc (lacking n t)) < cond x (lacking n s) (suc (lacking n s))
      here true y e h k = absurd (true≢false e)
      here false true e h k = omega (arith, k)
      here false false e h k = absurd (true≢false (sym h))

      by : (x y : Bool) → (x ≡ true → y ≡ true) → lacking n t < lacking n s → cond y (lacking n t) (suc (lacking n t)) < cond x (lacking n s) (suc (lacking n s))
      by true true up h = h
      by true false up h = absurd (true≢false (sym (up refl)))
      by false true up h = omega (arith, h)
      by false false up h = omega (arith, h)

-- ---- growing a set

module _ (n : ℕ) (next : ℕ → ℕ → Bool) where
  -- with what a step from a number of the set reaches
  abbrev grown : (ℕ → Bool) → ℕ → Bool
  grown s b = s b || any_below n (λ a. s a && next a b)

  abbrev is_new : (ℕ → Bool) → ℕ → Bool
  is_new s b = not (s b) && grown s b

  abbrev grow : ℕ → (ℕ → Bool) → ℕ → Bool
  grow zero s b = s b
  grow (suc k) s b = cond (any_below n (is_new s)) (grow k (grown s) b) (s b)

  grown_kept : (s : ℕ → Bool) (b : ℕ) → s b ≡ true → grown s b ≡ true
  grown_kept s b e = rw e refl

  grow_kept : (k : ℕ) (s : ℕ → Bool) (b : ℕ) → s b ≡ true → grow k s b ≡ true
  grow_kept zero s b e = e
  grow_kept (suc k) s b e = by (any_below n (is_new s)) (grow_kept k (grown s) b (grown_kept s b e))
    where
      by : (x : Bool) → grow k (grown s) b ≡ true → cond x (grow k (grown s) b) (s b) ≡ true
      by true h = h
      by false h = e

  -- with as many rounds as numbers are lacking, nothing is new in the end
  grow_settled : (k : ℕ) (s : ℕ → Bool) → lacking n s ≤ k → (b : ℕ) → b < n → grown (grow k s) b ≡ true → grow k s b ≡ true
  grow_settled zero s few b less h = lacking_none n s few b less
  grow_settled (suc k) s few b less h = by (any_below n (is_new s)) refl h (λ fewer now. grow_settled k (grown s) fewer b less now)
    where
      more : any_below n (is_new s) ≡ true → lacking n (grown s) ≤ k
      more is =
          let w = below_some n (is_new s) is in
          let both = and_parts (not (s w.0)) (grown s w.0) w.2 in
          let fewer = lacking_less s (grown s) (grown_kept s) n w.0 w.1 (not-true (s w.0) both.0) both.1 in
          omega (arith, few, fewer)

      old : any_below n (is_new s) ≡ false → grown s b ≡ true → (x : Bool) → s b ≡ x → s b ≡ true
      old is now true e = e
      old is now false e = absurd (true≢false (sym (below_any n (is_new s) b less (and_from (not (s b)) (grown s b) (ap not e) now)) ∙ is))

      by : (x : Bool) → any_below n (is_new s) ≡ x → grown (λ y. cond x (grow k (grown s) y) (s y)) b ≡ true → (lacking n (grown s) ≤ k → grown (grow k (grown s)) b ≡ true → grow k (grown s) b ≡ true) → cond x (grow k (grown s) b) (s b) ≡ true
      by true is now rest = rest (more is) now
      by false is now rest = old is now (s b) refl

  module _ (P : ℕ → Type 0) (step : (a b : ℕ) → P a → next a b ≡ true → P b) where
    grown_sound : (s : ℕ → Bool) → ((b : ℕ) → s b ≡ true → P b) → (b : ℕ) → grown s b ≡ true → P b
    grown_sound s first b h = or_some (s b) (any_below n (λ a. s a && next a b)) (P b) (first b) (λ some.
        let a = below_some n (λ x. s x && next x b) some in
        let both = and_parts (s a.0) (next a.0 b) a.2 in
        step a.0 b (first a.0 both.0) both.1) h

    grow_sound : (k : ℕ) (s : ℕ → Bool) → ((b : ℕ) → s b ≡ true → P b) → (b : ℕ) → grow k s b ≡ true → P b
    grow_sound zero s first b h = first b h
    grow_sound (suc k) s first b h = by (any_below n (is_new s)) h (λ e. grow_sound k (grown s) (grown_sound s first) b e)
      where
        by : (x : Bool) → cond x (grow k (grown s) b) (s b) ≡ true → (grow k (grown s) b ≡ true → P b) → P b
        by true e rest = rest e
        by false e rest = first b e

  -- what steps reach from the set
  pub reached : (ℕ → Bool) → ℕ → Bool
  reached s b = grow n s b

  pub reached_first : (s : ℕ → Bool) (b : ℕ) → s b ≡ true → reached s b ≡ true
  unfolding reached
  reached_first s b e = grow_kept n s b e

  pub reached_next : (s : ℕ → Bool) (a b : ℕ) → a < n → b < n → reached s a ≡ true → next a b ≡ true → reached s b ≡ true
  unfolding reached
  reached_next s a b low less h step =
      grow_settled n s (lacking_most n s) b less (or_right (grow n s b) (any_below n (λ x. grow n s x && next x b)) (below_any n (λ x. grow n s x && next x b) a low (and_from (grow n s a) (next a b) h step)))

  pub reached_sound : (P : ℕ → Type 0) → ((a b : ℕ) → P a → next a b ≡ true → P b) → (s : ℕ → Bool) → ((b : ℕ) → s b ≡ true → P b) → (b : ℕ) → reached s b ≡ true → P b
  unfolding reached
  reached_sound P step s first b h = grow_sound P step n s first b h
