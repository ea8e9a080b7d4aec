-- The living children of a strand's frames.
use Rattle.std.proofs.Common.{◌≡◌, ℕ, zero, suc, ◌+◌, ◌-◌, ◌<◌, ◌≤◌, List, [], ◌∷◌, length, Some, None, Bool, true, false, cond, refl, sym, ap, ◌∙◌, subst, arith}
use Rattle.semantics.specs.Paths.{Path}
use Rattle.semantics.specs.Frames.{Role}
use Rattle.semantics.specs.State.{State, outside, outside_role}
use Rattle.semantics.specs.CoreSteps.{children_within}
use Rattle.semantics.specs.Counts.{count_of}
use Rattle.semantics.specs.Events.{Machine}
use Rattle.semantics.proofs.Actions.{same_path_itself}
use Rattle.semantics.proofs.Places.{same_path_apart}
use Rattle.semantics.proofs.ChildCounts.{count_at}
use Rattle.laws_strands.specs.stacks.Strands.{Placed, Strand}
use Rattle.laws_strands.specs.stacks.Law.{IsOrderly, Runs, with_frames, absorbed, counts_in, no_count, CountsAre, StrandsCount}
use Rattle.laws_strands.proofs.stacks.Rising.{IsNew, new_child, new_below, Rises, rises, new_is_none, above_top}

-- children that are the same are counted alike
alike : (s t : State) (p q : Path) (r n : ℕ) → ((k : ℕ) → k < n → t.frames (k ∷ p) ≡ s.frames (k ∷ q)) → children_within t p n r ≡ children_within s q n r
alike s t p q r zero same = refl
alike s t p q r (suc n) same = rw (same n (omega arith), alike s t p q r n (λ k lt. same k (omega arith)))

-- so they are where all further ones are none
extends : (s t : State) (p q : Path) (r a e n : ℕ) → n ≡ e + a → ((k : ℕ) → k < a → t.frames (k ∷ p) ≡ s.frames (k ∷ q)) → ((k : ℕ) → a ≤ k → k < n → t.frames (k ∷ p) ≡ None) → children_within t p n r ≡ children_within s q a r
extends s t p q r a zero n is same none = let equal : n ≡ a = omega arith in ap (λ k. children_within t p k r) equal ∙ alike s t p q r a same
extends s t p q r a (suc e) zero is same none = absurd (omega arith)
extends s t p q r a (suc e) (suc n) is same none = rw (none n (omega arith) (omega arith)) (extends s t p q r a e n (omega arith) same (λ k le lt. none k le (omega arith)))

new_long : (p : Path) (n : ℕ) (x : Path) → IsNew p n x → length p < length x
new_long p n _ (new_child k le) = omega arith
new_long p n _ (new_below k x new) = let l : length p < length x = new_long p n x new in omega arith

-- a new child of the base has a number of its own
new_number : (p : Path) (n k : ℕ) (x : Path) → IsNew p n x → x ≡ k ∷ p → n ≤ k
new_number p n k _ (new_child j le) e = let same : j ≡ k = cc in omega arith
new_number p n k _ (new_below j x new) e = absurd (let l : length p < length x = new_long p n x new in let same : x ≡ p = cc in let m : length x ≡ length p = ap length same in omega arith)

module _ (m : Machine) (w : ℕ) (d : Strand) (runs : Runs m w d) (orderly : IsOrderly m) where
  abbrev s : State
  s = (absorbed m w d).core

  abbrev b : Placed
  b = d.base

  -- frames of the machine alone, below n1
  abbrev Others : Path → ℕ → Type 0
  Others p n = (k : ℕ) → k < n → s.frames (k ∷ p) ≡ m.core.frames (k ∷ p)

  -- the children below n, where they are the machine's alone: of the base its older ones, of others none
  older_base : (t : Placed) → Rises b t [] → (n r : ℕ) → b.frame.made ≤ n → Others t.path n → children_within s t.path n r ≡ count_of m.core b.path r
  older_base t (is, le) n r high others =
      extends m.core s t.path b.path r b.frame.made (n - b.frame.made) n (omega arith)
      (λ k lt. others k (omega arith) ∙ ap (λ x. m.core.frames (k ∷ x)) is)
      (λ k low lt. others k (omega arith) ∙ (ap (λ x. m.core.frames (k ∷ x)) is ∙ new_is_none m.core orderly.tree b runs.frame (k ∷ b.path) (new_child k low))) ∙
      sym (count_at m.core b.path b.frame r runs.frame)

  older_new : (t g : Placed) (rest : List Placed) → Rises b t (g ∷ rest) → (n r : ℕ) → Others t.path n → children_within s t.path n r ≡ 0
  older_new t g rest (k, is, next, new, more) zero r others = refl
  older_new t g rest (k, is, next, new, more) (suc n) r others =
      rw (others n (omega arith) ∙ new_is_none m.core orderly.tree b runs.frame (n ∷ t.path) (new_below n t.path new)) (older_new t g rest (k, is, next, new, more) n r (λ j lt. others j (omega arith)))

  by_role : (role : Role) (r c : ℕ) → cond (outside_role r role) c (suc c) ≡ counts_in role r + c
  by_role role r c = from (outside_role r role)
    where
      from : (x : Bool) → cond x c (suc c) ≡ cond x 0 1 + c
      from true = omega arith
      from false = omega arith

  -- the frames from t on, whose children from n on count as the newest
  counted : (t : Placed) (below : List Placed) → Rises b t below → (n : ℕ) (newest : ℕ → ℕ) → ((r : ℕ) → children_within s t.path t.frame.made r ≡ newest r + children_within s t.path n r) →
      (below ≡ [] → b.frame.made ≤ n) → Others t.path n → ((x : Path) → length x ≤ length t.path → s.frames x ≡ with_frames (t ∷ below) m.core.frames x) → CountsAre (count_of s) (count_of m.core b.path) newest t below
  counted t [] rise n newest count high others same =
      let there : s.frames t.path ≡ Some t.frame = same t.path (omega arith) ∙ rw (same_path_itself t.path) in
      λ r. count_at s t.path t.frame r there ∙ (count r ∙ ap (λ c. newest r + c) (older_base t rise n r (high refl) others))
  counted t (g ∷ rest) (k, is, next, new, more) n newest count high others same = (
    λ r. count_at s t.path t.frame r there ∙ (count r ∙ (ap (λ c. newest r + c) (older_new t g rest (k, is, next, new, more) n r others) ∙ no_more (newest r))),
    counted g rest more k (counts_in t.frame.role) below_count below_high below_others below_same,
  )
    where
      there : s.frames t.path ≡ Some t.frame
      there = same t.path (omega arith) ∙ rw (same_path_itself t.path)

      no_more : (c : ℕ) → c + 0 ≡ c
      no_more c = omega arith

      up : length t.path ≡ suc (length g.path)
      up = ap length is

      below_count : (r : ℕ) → children_within s g.path g.frame.made r ≡ counts_in t.frame.role r + children_within s g.path k r
      below_count r =
          ap (λ c. children_within s g.path c r) next ∙
          (ap (λ o. cond (outside r o) (children_within s g.path k r) (suc (children_within s g.path k r))) (ap s.frames (sym is) ∙ there) ∙
          by_role t.frame.role r (children_within s g.path k r))

      below_high : rest ≡ [] → b.frame.made ≤ k
      below_high e = let base : g.path ≡ b.path = (subst (λ x. Rises b g x) e more).0 in new_number b.path b.frame.made k t.path new (is ∙ ap (λ x. k ∷ x) base)

      lower : (x : Path) → length x ≤ length t.path → (t.path ≡ x → ⊥) → s.frames x ≡ with_frames (g ∷ rest) m.core.frames x
      lower x low apart = same x low ∙ rw (same_path_apart t.path x apart)

      below_others : Others g.path k
      below_others j lt =
          lower (j ∷ g.path) (let u : length t.path ≡ suc (length g.path) = up in omega arith) (λ e. let both : k ∷ g.path ≡ j ∷ g.path = sym is ∙ e in let equal : k ≡ j = cc in omega arith) ∙
          above_top m.core orderly.tree b runs.frame g rest more (j ∷ g.path) (omega arith)

      below_same : (x : Path) → length x ≤ length g.path → s.frames x ≡ with_frames (g ∷ rest) m.core.frames x
      below_same x low = let u : length t.path ≡ suc (length g.path) = up in lower x (omega arith) (λ e. let l : length t.path ≡ length x = ap length e in omega arith)

pub strands_count : StrandsCount
strands_count prog m w d is runs orderly =
    let rise : Rises d.base d.top d.below = rises prog d is in
    counted m w d runs orderly d.top d.below rise d.top.frame.made no_count (λ r. omega arith) (λ e. (subst (λ x. Rises d.base d.top x) e rise).1)
    (λ k lt. above_top m.core orderly.tree d.base runs.frame d.top d.below rise (k ∷ d.top.path) (omega arith))
    (λ x low. refl)
