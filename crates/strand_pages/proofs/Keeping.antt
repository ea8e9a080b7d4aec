-- What a page's words show, as bits are set and numbers written.
use Rattle.std.proofs.Common.{◌≡◌, ◌≢◌, ◌<◌, ◌≤◌, ◌-◌, ◌++◌, ◌⊎◌, ℕ, suc, ℤ, refl, sym, ap, ◌∙◌, arith, Bool, true, false, cond, nat_lt, List, length, take, drop, set, Some, inl, inr, pos}
use Rattle.std.specs.Prelude.{slice_get}
use Rattle.std.proofs.lemmas.Bool.Decides.{eqb_tells, leb_tells}
use Rattle.std.proofs.lemmas.List.{get_or-set_same, get_or-set_other, get_or-append_right, get_or_append_left, get_or-take, length-append, length-take-le}
use Rattle.std.proofs.lemmas.List.Edits.{get_or-between}
use Rattle.std.proofs.lemmas.Option.{slice_get-get_or, slice_get_past}
use Rattle.frame_strand.specs.declared.cells.Change.TheVariants.{Stored, Delta}
use Rattle.strand_pages.specs.Bits.{is_set}
use Rattle.strand_pages.specs.Known.{at_place, first_of}
use Rattle.strand_pages.specs.Paging.{change_by, near_by, number_at, number_if, reads_by, writes_by}

pub below_tells : (j n : ℕ) → ((nat_lt j n ≡ true) × (j < n)) ⊎ ((nat_lt j n ≡ false) × (n ≤ j))
below_tells j n = elim (leb_tells (suc j) n) [
  | inl p ↦ let q = p.1 in inl (p.0, omega (arith, q))
  | inr p ↦ let q = p.1 in inr (p.0, omega (arith, q))
]

pub below_is : (j n : ℕ) → j < n → nat_lt j n ≡ true
below_is j n lt = elim (below_tells j n) [ inl p ↦ p.0 | inr p ↦ let q = p.1 in absurd (omega (arith, q, lt)) ]

pub same_place : {X : Type 0} (k : ℕ) (x : X) (f : ℕ → X) → x ≡ f k → f ≡ at_place k x f
same_place {X} k x f e = λ i j. at j i
  where
    at : (j : ℕ) → f j ≡ at_place k x f j
    at j = elim (eqb_tells j k) [
      | inl q ↦ ap f q.1 ∙ sym e ∙ sym (ap (λ (t : Bool). cond t x (f j)) q.0)
      | inr q ↦ sym (ap (λ (t : Bool). cond t x (f j)) q.0)
    ]

-- what holds at the place, and elsewhere
pub by_place : {X : Type 0} (k : ℕ) (x : X) (f g : ℕ → X) → g k ≡ x → ((j : ℕ) → j ≢ k → g j ≡ f j) → g ≡ at_place k x f
by_place {X} k x f g here others = λ i j. at j i
  where
    at : (j : ℕ) → g j ≡ at_place k x f j
    at j = elim (eqb_tells j k) [
      | inl q ↦ ap g q.1 ∙ here ∙ sym (ap (λ (t : Bool). cond t x (f j)) q.0)
      | inr q ↦ others j q.1 ∙ sym (ap (λ (t : Bool). cond t x (f j)) q.0)
    ]

module _ (k : ℕ) (mask after : ℕ) (set_now : is_set after k ≡ true) (others : (j : ℕ) → j ≢ k → is_set after j ≡ is_set mask j) where
  -- a bit of the reads is set
  pub reads_more : (values : List ℤ) → reads_by after values ≡ at_place k (Some (number_at values k)) (reads_by mask values)
  reads_more values = by_place k (Some (number_at values k)) (reads_by mask values) (reads_by after values)
      (ap (λ (t : Bool). number_if t (number_at values k)) set_now) (λ j off. ap (λ (t : Bool). number_if t (number_at values j)) (others j off))

  -- a number is stored
  pub stores_more : (delta : ℕ) (changes : List ℤ) (z : ℤ) → k < length changes → writes_by after delta (set changes k z) ≡ at_place k (Some (Stored z)) (writes_by mask delta changes)
  stores_more delta changes z lt = by_place k (Some (Stored z)) (writes_by mask delta changes) (writes_by after delta (set changes k z))
      (ap (λ (t : Bool). change_by t (is_set delta k) (number_at (set changes k z) k)) set_now ∙ ap (λ n. Some (Stored n)) (get_or-set_same changes k z (pos 0) lt))
      (λ j off. λ i. change_by (others j off i) (is_set delta j) (get_or-set_other changes k j z (pos 0) off i))

  -- a number is to be added
  pub deltas_more : (stored : ℕ) (changes : List ℤ) (z : ℤ) → is_set stored k ≡ false → k < length changes → writes_by stored after (set changes k z) ≡ at_place k (Some (Delta z)) (writes_by stored mask changes)
  deltas_more stored changes z none lt = by_place k (Some (Delta z)) (writes_by stored mask changes) (writes_by stored after (set changes k z))
      ((λ i. change_by (none i) (set_now i) (number_at (set changes k z) k)) ∙ ap (λ n. Some (Delta n)) (get_or-set_same changes k z (pos 0) lt))
      (λ j off. λ i. change_by (is_set stored j) (others j off i) (get_or-set_other changes k j z (pos 0) off i))

-- another number under the same bits
pub renumbered : (stored delta : ℕ) (changes : List ℤ) (k : ℕ) (z : ℤ) → k < length changes → writes_by stored delta (set changes k z) ≡ at_place k (change_by (is_set stored k) (is_set delta k) z) (writes_by stored delta changes)
renumbered stored delta changes k z lt = by_place k (change_by (is_set stored k) (is_set delta k) z) (writes_by stored delta changes) (writes_by stored delta (set changes k z))
    (ap (change_by (is_set stored k) (is_set delta k)) (get_or-set_same changes k z (pos 0) lt))
    (λ j off. ap (change_by (is_set stored j) (is_set delta j)) (get_or-set_other changes k j z (pos 0) off))

-- ---- a row that is filled

module _ (row ys values : List ℤ) (from end : ℕ) (long : length row ≡ 64) (some : from < end) (within : end ≤ 64) (is : ys ≡ take (end - from) (drop from values)) (few : length ys ≡ end - from) (rest : List ℤ) where
  abbrev pub filled_row : List ℤ
  filled_row = take from row ++ (ys ++ rest)

  front : length (take from row) ≡ from
  front = length-take-le from row (omega (arith, long, some, within))

  pub row_before : (j : ℕ) → j < from → number_at filled_row j ≡ number_at row j
  row_before j lt = get_or_append_left (take from row) (ys ++ rest) (pos 0) j (omega (arith, front, lt)) ∙ get_or-take from row j (pos 0) lt

  pub row_within : (j : ℕ) → from ≤ j → j < end → number_at filled_row j ≡ number_at values j
  row_within j le lt =
      get_or-append_right (take from row) (ys ++ rest) from j (pos 0) front le ∙
      get_or_append_left ys rest (pos 0) (j - from) (omega (arith, few, le, lt)) ∙
      ap (λ (xs : List ℤ). number_at xs (j - from)) is ∙
      get_or-between values from end (j - from) (pos 0) (omega (arith, le, lt)) ∙
      ap (number_at values) (omega (arith, le))

  pub filled_long : length rest ≡ 64 - end → length filled_row ≡ 64
  filled_long behind =
      let both = length-append (take from row) (ys ++ rest) in
      let later = length-append ys rest in
      omega (arith, front, both, later, few, behind, some, within)

  pub near_filled : length values ≡ end → near_by end filled_row ≡ (λ j. first_of (near_by from row j) (slice_get values j))
  near_filled size = λ i j. at j i
    where
      at : (j : ℕ) → near_by end filled_row j ≡ first_of (near_by from row j) (slice_get values j)
      at j = elim (below_tells j from) [
        | inl p ↦
            (λ i. number_if (below_is j end (omega (arith, some, p.1)) i) (row_before j p.1 i)) ∙
            sym (ap (λ (t : Bool). first_of (number_if t (number_at row j)) (slice_get values j)) p.0)
        | inr p ↦ elim (below_tells j end) [
          | inl q ↦
              (λ i. number_if (q.0 i) (row_within j p.1 q.1 i)) ∙ sym (slice_get-get_or values j (pos 0) (omega (arith, size, q.1))) ∙
              sym (ap (λ (t : Bool). first_of (number_if t (number_at row j)) (slice_get values j)) p.0)
          | inr q ↦
              ap (λ (t : Bool). number_if t (number_at filled_row j)) q.0 ∙ sym (slice_get_past values j (omega (arith, size, q.1))) ∙
              sym (ap (λ (t : Bool). first_of (number_if t (number_at row j)) (slice_get values j)) p.0)
        ]
      ]

  pub reads_filled : (read : ℕ) → ((j : ℕ) → is_set read j ≡ true → j < from) → reads_by read filled_row ≡ reads_by read row
  reads_filled read near = λ i j. at j (is_set read j) refl i
    where
      at : (j : ℕ) (t : Bool) → is_set read j ≡ t → reads_by read filled_row j ≡ reads_by read row j
      at j true e = ap (number_if (is_set read j)) (row_before j (near j e))
      at j false e = ap (λ (t : Bool). number_if t (number_at filled_row j)) e ∙ sym (ap (λ (t : Bool). number_if t (number_at row j)) e)

-- nothing new is at hand
pub near_stays : (row values : List ℤ) (from : ℕ) → length values ≤ from → near_by from row ≡ (λ j. first_of (near_by from row j) (slice_get values j))
near_stays row values from few = λ i j. at j i
  where
    at : (j : ℕ) → near_by from row j ≡ first_of (near_by from row j) (slice_get values j)
    at j = elim (below_tells j from) [
      | inl p ↦ ap (λ (t : Bool). number_if t (number_at row j)) p.0 ∙ sym (ap (λ (t : Bool). first_of (number_if t (number_at row j)) (slice_get values j)) p.0)
      | inr p ↦
          ap (λ (t : Bool). number_if t (number_at row j)) p.0 ∙ sym (slice_get_past values j (omega (arith, few, p.1))) ∙
          sym (ap (λ (t : Bool). first_of (number_if t (number_at row j)) (slice_get values j)) p.0)
    ]
