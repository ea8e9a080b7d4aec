-- Paths, and changes at one or two of them.
use Rattle.std.proofs.Common.{◌≡◌, ℕ, zero, suc, ◌<◌, [], ◌∷◌, length, Option, Some, None, ◌≢◌, Bool, true, false, cond, ◌&&◌, ◌⊎◌, inl, inr, refl, sym, ap, subst, arith, eqb, eqb-true}
use Rattle.semantics.specs.Paths.{Path, same_path}
use Rattle.semantics.specs.Frames.{Frame}
use Rattle.semantics.specs.State.{only, both, all_below}
use Rattle.semantics.proofs.Actions.{same_path_itself}

-- paths are told apart
same_cons : (x y : ℕ) (xs ys : Path) → (b : Bool) → eqb x y ≡ b → (same_path xs ys ≡ true → xs ≡ ys) → b && same_path xs ys ≡ true → x ∷ xs ≡ y ∷ ys
same_cons x y xs ys true h rest e = λ i. eqb-true x y h i ∷ rest e i
same_cons x y xs ys false h rest e = absurd (cc)

pub same_path_is : (p q : Path) → same_path p q ≡ true → p ≡ q
same_path_is [] [] e = refl
same_path_is [] (y ∷ ys) e = absurd (cc)
same_path_is (x ∷ xs) [] e = absurd (cc)
same_path_is (x ∷ xs) (y ∷ ys) e = same_cons x y xs ys (eqb x y) refl (same_path_is xs ys) e

pub same_path_tells : (p q : Path) → ((same_path p q ≡ true) × (p ≡ q)) ⊎ ((same_path p q ≡ false) × (p ≢ q))
same_path_tells p q = from (same_path p q) refl
  where
    from : (b : Bool) → same_path p q ≡ b → ((same_path p q ≡ true) × (p ≡ q)) ⊎ ((same_path p q ≡ false) × (p ≢ q))
    from true e = inl (e, same_path_is p q e)
    from false e = inr (e, λ is. let t : same_path p q ≡ true = subst (λ x. same_path p x ≡ true) is (same_path_itself p) in absurd (cc))

pub same_path_apart : (p q : Path) → p ≢ q → same_path p q ≡ false
same_path_apart p q apart = elim (same_path_tells p q) [ inl h ↦ absurd (apart h.1) | inr h ↦ h.0 ]

pub no_own_child : (k : ℕ) (p : Path) → k ∷ p ≢ p
no_own_child k p e = let n : length (k ∷ p) ≡ length p = ap length e in omega arith

picked : (b : Bool) (o v : Option Frame) (rest : Option (Option Frame)) → cond b (Some o) rest ≡ Some v → ((b ≡ true) × (v ≡ o)) ⊎ ((b ≡ false) × (rest ≡ Some v))
picked true o v rest e = inl (refl, cc)
picked false o v rest e = inr (refl, e)

pub only_at : (p x : Path) (o v : Option Frame) → only p o x ≡ Some v → (x ≡ p) × (v ≡ o)
only_at p x o v e = elim (picked (same_path p x) o v None e) [ inl h ↦ (sym (same_path_is p x h.0), h.1) | inr h ↦ absurd (let f = h.1 in cc) ]

pub both_at : (p q x : Path) (o u v : Option Frame) → both p o q u x ≡ Some v → ((x ≡ p) × (v ≡ o)) ⊎ ((x ≡ q) × (v ≡ u))
both_at p q x o u v e =
    elim (picked (same_path p x) o v (only q u x) e) [
      | inl h ↦ inl (sym (same_path_is p x h.0), h.1)
      | inr h ↦ inr (only_at q x u v h.1)
    ]

pub only_here : (p : Path) (o : Option Frame) → only p o p ≡ Some o
only_here p o = rw (same_path_itself p)

pub both_first : (p q : Path) (o u : Option Frame) → both p o q u p ≡ Some o
both_first p q o u = rw (same_path_itself p)

pub both_second : (p q : Path) (o u : Option Frame) → p ≢ q → both p o q u q ≡ Some u
both_second p q o u apart = rw (same_path_apart p q apart, same_path_itself q)

-- a test that holds below n goes on to hold, where it does at each number
pub all_below_kept : (n : ℕ) (f g : ℕ → Bool) → ((k : ℕ) → k < n → f k ≡ true → g k ≡ true) → all_below n f ≡ true → all_below n g ≡ true
all_below_kept zero f g kept e = refl
all_below_kept (suc n) f g kept e = go (f n) refl (kept n (omega arith)) (λ h. all_below_kept n f g (λ k lt. kept k (omega arith)) h) e
  where
    go : (b : Bool) → f n ≡ b → (f n ≡ true → g n ≡ true) → (all_below n f ≡ true → all_below n g ≡ true) → b && all_below n f ≡ true → g n && all_below n g ≡ true
    go true is here rest h = rw (here is) (rest h)
    go false is here rest h = absurd (cc)

pub all_below_at : (n : ℕ) (f : ℕ → Bool) → all_below n f ≡ true → (k : ℕ) → k < n → f k ≡ true
all_below_at zero f e k lt = absurd (omega arith)
all_below_at (suc n) f e k lt = go (f n) refl e (λ h lt2. all_below_at n f h k lt2)
  where
    go : (b : Bool) → f n ≡ b → b && all_below n f ≡ true → (all_below n f ≡ true → k < n → f k ≡ true) → f k ≡ true
    go true is h rest = grind (arith, rest h)
    go false is h rest = absurd (cc)

pub only_off : (p x : Path) (o : Option Frame) → p ≢ x → only p o x ≡ None
only_off p x o apart = rw (same_path_apart p x apart)

pub both_off : (p q x : Path) (o u : Option Frame) → p ≢ x → q ≢ x → both p o q u x ≡ None
both_off p q x o u apart apart2 = rw (same_path_apart p x apart, same_path_apart q x apart2)
