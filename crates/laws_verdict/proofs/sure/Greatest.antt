-- The greatest set of a list's elements that gives each of its own.
use Rattle.std.proofs.Common.{◌≡◌, ◌⊎◌, ◌∙◌, ℕ, zero, suc, ◌<◌, ◌≤◌, inl, inr, Bool, true, false, ◌&&◌, List, [], ◌∷◌, length, refl, sym, ap, arith}
use Rattle.std.specs.List.{list_any, filter}
use Rattle.std.proofs.lemmas.Bool.{and_parts, and_from}
use Rattle.std.proofs.lemmas.Map.Views.{any-filter_same}

-- a filter keeps all, or leaves fewer
module _ {C : Type 0} (p : C → Bool) where
  longest : (xs : List C) → length (filter p xs) ≤ length xs
  longest [] = omega arith
  longest (x ∷ xs) = by (p x) refl (longest xs)
    where
      by : (t : Bool) → p x ≡ t → length (filter p xs) ≤ length xs → length (filter p (x ∷ xs)) ≤ length (x ∷ xs)
      by true e l = rw e (omega (arith, l))
      by false e l = rw e (omega (arith, l))

  pub all_or_fewer : (xs : List C) → (filter p xs ≡ xs) ⊎ (length (filter p xs) < length xs)
  all_or_fewer [] = inl refl
  all_or_fewer (x ∷ xs) = by (p x) refl (longest xs) (all_or_fewer xs)
    where
      by : (t : Bool) → p x ≡ t → length (filter p xs) ≤ length xs → (filter p xs ≡ xs) ⊎ (length (filter p xs) < length xs) →
          (filter p (x ∷ xs) ≡ x ∷ xs) ⊎ (length (filter p (x ∷ xs)) < length (x ∷ xs))
      by true e l (inl same) = inl (rw e (λ i. x ∷ same i))
      by true e l (inr fewer) = inr (rw e (omega (arith, fewer)))
      by false e l h = inr (rw e (omega (arith, l)))

module _ (C : Type 0) (is_same : C → C → Bool) (same : (a b : C) → is_same a b ≡ true → a ≡ b) (gives : (C → Bool) → C → Bool) (more : (l m : C → Bool) → ((c : C) → l c ≡ true → m c ≡ true) → (c : C) → gives l c ≡ true → gives m c ≡ true) where
  abbrev pub has : List C → C → Bool
  has xs c = list_any (is_same c) xs

  kept_has : (p : C → Bool) (xs : List C) (c : C) → has (filter p xs) c ≡ (p c && has xs c)
  kept_has p xs c = any-filter_same (is_same c) p (p c) (λ k e. ap p (sym (same c k e))) xs

  -- of these elements
  pub record Greatest (xs : List C) : Type 0 where
    pub keep : List C
    pub steady : (c : C) → has keep c ≡ true → gives (has keep) c ≡ true
    pub above : (l : C → Bool) → ((c : C) → l c ≡ true → gives l c ≡ true) → ((c : C) → l c ≡ true → has xs c ≡ true) → (c : C) → l c ≡ true → has keep c ≡ true

  done : (xs : List C) → filter (gives (has xs)) xs ≡ xs → Greatest xs
  done xs all = record {
    keep = xs;
    steady = λ c h.
        let kept : (gives (has xs) c && has xs c) ≡ true = sym (kept_has (gives (has xs)) xs c) ∙ ap (λ (ys : List C). has ys c) all ∙ h in
        (and_parts (gives (has xs) c) (has xs c) kept).0;
    above = λ l post low c h. low c h;
  }

  further : (xs : List C) → Greatest (filter (gives (has xs)) xs) → Greatest xs
  further xs g = record {
    keep = g.keep;
    steady = g.steady;
    above = λ l post low.
        g.above l post (λ c h. kept_has (gives (has xs)) xs c ∙ and_from (gives (has xs) c) (has xs c) (more l (has xs) low c (post c h)) (low c h));
  }

  -- what all that is left gives is left again, until that is all
  pub greatest : (n : ℕ) (xs : List C) → length xs ≤ n → Greatest xs
  greatest zero xs few = by (all_or_fewer (gives (has xs)) xs)
    where
      by : (filter (gives (has xs)) xs ≡ xs) ⊎ (length (filter (gives (has xs)) xs) < length xs) → Greatest xs
      by (inl all) = done xs all
      by (inr fewer) = absurd (omega (arith, fewer, few))
  greatest (suc n) xs few = elim (all_or_fewer (gives (has xs)) xs) [
    | inl all ↦ done xs all
    | inr fewer ↦ further xs (greatest n (filter (gives (has xs)) xs) (omega (arith, fewer, few)))
  ]
