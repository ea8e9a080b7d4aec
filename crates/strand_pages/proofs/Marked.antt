-- The marks of the pages that have adds in a list.
use Rattle.std.proofs.Common.{◌≡◌, ◌<◌, ◌/◌, ◌%◌, ◌++◌, ◌∷◌, ◌∙◌, ℕ, suc, ℤ, pos, negsuc, refl, sym, ap, arith, Bool, true, false, cond, List, [], length, set, get_or, Option, Some, None, inl, inr}
use Rattle.std.specs.Prelude.{slice_get}
use Rattle.std.proofs.lemmas.Bool.Decides.{eqb_tells}
use Rattle.std.proofs.lemmas.List.{get_or-set_same, get_or-set_other, length-append}
use Rattle.std.proofs.lemmas.Option.{same_Some, slice_get_within}
use Rattle.frame_strand.specs.declared.cells.Change.{Change}
use Rattle.strand_pages.specs.Logs.{Log, same_page}
use Rattle.strand_pages.specs.Marks.{AreMarked, mark_of}
use Rattle.strand_pages.specs.Tables.{IsFresh, raised_all, taken_in}
use Rattle.strand_pages.specs.declared.added.Added.{Added}
use Rattle.strand_pages.proofs.Addresses.{get_push_last, get_push_other}
use Rattle.strand_pages.proofs.Taken.{raised_else}

-- one more is marked
module _ (marks : List Bool) (adds : List Added) (e : Added) (m : ℕ) (is : m ≡ mark_of e.at) (within : m < length marks) (old : AreMarked marks adds) where
  still : (k : ℕ) → get_or marks k false ≡ true → get_or (set marks m true) k false ≡ true
  still k on = elim (eqb_tells k m) [
    | inl q ↦ ap (λ (j : ℕ). get_or (set marks m true) j false) q.1 ∙ get_or-set_same marks m true false within
    | inr q ↦ get_or-set_other marks m k true false q.1 ∙ on
  ]

  pub marked_more : AreMarked (set marks m true) (adds ++ e ∷ [])
  marked_more i f at = elim (eqb_tells i (length adds)) [
    | inl q ↦
        let same : f ≡ e = same_Some f e (sym at ∙ ap (slice_get (adds ++ e ∷ [])) q.1 ∙ get_push_last adds e) in
        ap (λ (x : Added). get_or (set marks m true) (mark_of x.at) false) same ∙ ap (λ (j : ℕ). get_or (set marks m true) j false) (sym is) ∙ get_or-set_same marks m true false within
    | inr q ↦
        let off = q.1 in
        let lt = slice_get_within (adds ++ e ∷ []) i f at in
        let long = length-append adds (e ∷ []) in
        let less : i < length adds = omega (arith, off, lt, long) in
        still (mark_of f.at) (old i f (sym (get_push_other adds e i less) ∙ at))
  ]

mark_same : (a b : ℤ) → same_page a b ≡ true → mark_of b ≡ mark_of a
mark_same (negsuc n) b s = absurd cc
mark_same (pos n) (negsuc m) s = absurd cc
mark_same (pos n) (pos m) s = elim (eqb_tells (m / 64) (n / 64)) [
  | inl q ↦ ap (λ (j : ℕ). j % 4096) q.1
  | inr q ↦ absurd (let bad : true ≡ false = sym s ∙ q.0 in cc)
]

-- no add is for the page
module _ (x : Log) (a : ℤ) (fresh : IsFresh x a) where
  none_raised : (adds : List Added) → ((i : ℕ) (e : Added) → slice_get adds i ≡ Some e → same_page a e.at ≡ false) → (b : ℤ) → same_page a b ≡ true → (u : Option Change) → raised_all u adds b ≡ u
  none_raised [] away b here u = refl
  none_raised (e ∷ more) away b here u =
      ap (λ (w : Option Change). raised_all w more b) (raised_else e b (λ same. let bad : true ≡ false = sym here ∙ ap (same_page a) same ∙ away 0 e refl in cc) u) ∙
      none_raised more (λ i f at. away (suc i) f at) b here u

  pub unmarked : (marks : List Bool) (adds : List Added) → AreMarked marks adds → get_or marks (mark_of a) false ≡ false → taken_in x a adds ≡ x
  unmarked marks adds all off = λ i. record x { writes = λ b. cell b (same_page a b) refl i }
    where
      away : (i : ℕ) (e : Added) → slice_get adds i ≡ Some e → same_page a e.at ≡ false
      away i e at = from (same_page a e.at) refl
        where
          from : (t : Bool) → same_page a e.at ≡ t → same_page a e.at ≡ false
          from true s = absurd (let bad : true ≡ false = sym (all i e at) ∙ ap (λ (j : ℕ). get_or marks j false) (mark_same a e.at s) ∙ off in cc)
          from false s = s

      cell : (b : ℤ) (t : Bool) → same_page a b ≡ t → cond (same_page a b) (raised_all None adds b) (x.writes b) ≡ x.writes b
      cell b true s = ap (λ (k : Bool). cond k (raised_all None adds b) (x.writes b)) s ∙ none_raised adds away b s None ∙ sym (fresh.writes b s)
      cell b false s = ap (λ (k : Bool). cond k (raised_all None adds b) (x.writes b)) s
