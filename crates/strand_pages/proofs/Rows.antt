-- A page against a row of the board's cells.
use Rattle.std.proofs.Common.{◌≡◌, ◌≢◌, ◌<◌, ◌≤◌, ◌+◌, ◌*◌, ◌/◌, ◌||◌, ℕ, ℤ, pos, refl, sym, ap, ◌∙◌, subst, arith, Bool, true, false, ◌-◌, ◌&&◌, List, length, set, Option, Some, None, inl, inr, ◌⊎◌, nat_eq, w64}
use Rattle.std.specs.Prelude.{FitsSigned, slice_get}
use Rattle.std.proofs.lemmas.Bool.{and_parts}
use Rattle.std.proofs.lemmas.Bool.Decides.{eqb_tells}
use Rattle.std.proofs.lemmas.Int.{to_z-of_z}
use Rattle.std.proofs.lemmas.List.{length-set}
use Rattle.std.proofs.lemmas.Nat.{div-mul-add}
use Rattle.std.proofs.lemmas.Option.{same_Some, slice_get-get_or, slice_get_past}
use mir.Val.{of_z, to_z}
use Rattle.semantics.specs.Arithmetic.{cell_sum}
use Rattle.frame_strand.specs.declared.cells.Change.{Change}
use Rattle.strand_pages.specs.Bits.{is_set}
use Rattle.strand_pages.specs.Committing.{AgreesWithin, ArePut, PageAgrees, PageDiffers, PageIsPut}
use Rattle.strand_pages.specs.Known.{put_change}
use Rattle.strand_pages.specs.Paging.{change_by, kept_of, number_at, number_if}
use Rattle.strand_pages.specs.declared.page.Page.{Page}
use Rattle.strand_pages.proofs.Addresses.{get_set_other, get_set_same}
use Rattle.strand_pages.proofs.Keeping.{below_tells}

reads_set : (p : Page) (k : ℕ) → is_set p.read k ≡ true → (kept_of p).reads k ≡ Some (number_at p.values k)
reads_set p k on = ap (λ (t : Bool). number_if t (number_at p.values k)) on

reads_unset : (p : Page) (k : ℕ) (v : ℤ) → is_set p.read k ≡ false → (kept_of p).reads k ≡ Some v → ⊥
reads_unset p k v off e = let none : (kept_of p).reads k ≡ None = ap (λ (t : Bool). number_if t (number_at p.values k)) off in let bad = sym none ∙ e in cc

-- ---- what was read, at the places below one

abbrev pub AgreesBelow : Page → List ℤ → ℕ → Type 0
AgreesBelow p row n = (k : ℕ) (v : ℤ) → k < n → (kept_of p).reads k ≡ Some v → slice_get row (p.number * 64 + k) ≡ Some v

module _ (p : Page) (row : List ℤ) (from : ℕ) (below : AgreesBelow p row from) where
  pub agrees_next : (place end : ℕ) → ((k : ℕ) → from ≤ k → k < place → is_set p.read k ≡ false) → AgreesWithin (kept_of p) place end row → AgreesBelow p row end
  agrees_next place end passed there k v lt e = elim (below_tells k from) [
    | inl q ↦ below k v q.1 e
    | inr q ↦ elim (below_tells k place) [
      | inl h ↦ absurd (reads_unset p k v (passed k q.1 h.1) e)
      | inr h ↦ there k v h.1 lt e
    ]
  ]

  pub agrees_all : ((k : ℕ) → from ≤ k → k < 64 → is_set p.read k ≡ false) → PageAgrees (kept_of p) row
  agrees_all none k v lt e = elim (below_tells k from) [
    | inl q ↦ below k v q.1 e
    | inr q ↦ absurd (reads_unset p k v (none k q.1 lt) e)
  ]

pub differs_at : (p : Page) (row : List ℤ) (place : ℕ) → place < 64 → is_set p.read place ≡ true → slice_get row (p.number * 64 + place) ≢ Some (number_at p.values place) → PageDiffers (kept_of p) row
differs_at p row place within on other = record { place = place; value = number_at p.values place; within = within; read = reads_set p place on; other = other }

-- one place more is compared, as words
module _ (p : Page) (row : List ℤ) (from place : ℕ) (page : place < 64) (there : p.number * 64 + place < length row) (on : is_set p.read place ≡ true)
    (now_fits : FitsSigned w64 (number_at row (p.number * 64 + place))) (then_fits : FitsSigned w64 (number_at p.values place))
  where
    abbrev now : ℤ
    now = number_at row (p.number * 64 + place)

    abbrev is_held : Bool
    is_held = nat_eq (of_z w64 now) (of_z w64 (number_at p.values place))

    held : slice_get row (p.number * 64 + place) ≡ Some now
    held = slice_get-get_or row (p.number * 64 + place) (pos 0) there

    is_held_tells : ((is_held ≡ true) × (now ≡ number_at p.values place)) ⊎ ((is_held ≡ false) × (now ≢ number_at p.values place))
    is_held_tells = elim (eqb_tells (of_z w64 now) (of_z w64 (number_at p.values place))) [
      | inl q ↦ inl (q.0, sym (to_z-of_z w64 now now_fits) ∙ ap (to_z w64) q.1 ∙ to_z-of_z w64 (number_at p.values place) then_fits)
      | inr q ↦ inr (q.0, λ e. q.1 (ap (of_z w64) e))
    ]

    pub agrees_more : (same : Bool) → (same ≡ true → AgreesWithin (kept_of p) from place row) → (same && is_held) ≡ true → AgreesWithin (kept_of p) from (place + 1) row
    agrees_more same before both k v ge lt e =
        let parts = and_parts same is_held both in
        elim (eqb_tells k place) [
          | inl h ↦
              elim is_held_tells [
                | inl q ↦
                    ap (λ (j : ℕ). slice_get row (p.number * 64 + j)) h.1 ∙ held ∙ ap (λ n. Some n) q.1 ∙
                    (sym (reads_set p place on) ∙ ap (kept_of p).reads (sym h.1) ∙ e)
                | inr q ↦ absurd (let bad = sym parts.1 ∙ q.0 in cc)
              ]
          | inr h ↦ let off = h.1 in before parts.0 k v ge (omega (arith, off, lt)) e
        ]

    pub differs_more : (same : Bool) → (same ≡ false → PageDiffers (kept_of p) row) → (same && is_held) ≡ false → PageDiffers (kept_of p) row
    differs_more false before both = before refl
    differs_more true before both = elim is_held_tells [
      | inl q ↦ absurd (let bad = sym both ∙ q.0 in cc)
      | inr q ↦ differs_at p row place page on (λ e. q.1 (same_Some _ _ (sym held ∙ e)))
    ]

-- the row ends before the last of the places
pub differs_past : (p : Page) (row : List ℤ) (from end : ℕ) → from < end → end ≤ 64 → length row < p.number * 64 + end → ((k : ℕ) → from ≤ k → k < end → is_set p.read k ≡ true) → PageDiffers (kept_of p) row
differs_past p row from end some page short on =
    differs_at p row (end - 1) (omega (arith, some, page)) (on (end - 1) (omega (arith, some)) (omega (arith, some))) (λ e.
    let none = slice_get_past row (p.number * 64 + (end - 1)) (omega (arith, some, short)) in
    let bad = sym none ∙ e in
    cc)

-- ---- one change

pub put_stored : (p : Page) (row : List ℤ) (at k : ℕ) (z : ℤ) → at < length row → is_set p.stored k ≡ true → z ≡ number_at p.changes k → slice_get (set row at z) at ≡ put_change ((kept_of p).writes k) (slice_get row at)
put_stored p row at k z within on is = get_set_same row at z within ∙ ap (λ n. Some n) is ∙ sym (ap (λ (t : Bool). put_change (change_by t (is_set p.delta k) (number_at p.changes k)) (slice_get row at)) on)

pub put_delta : (p : Page) (row : List ℤ) (at k : ℕ) (z : ℤ) → at < length row → is_set p.stored k ≡ false → is_set p.delta k ≡ true → z ≡ cell_sum (number_at row at) (number_at p.changes k) →
    slice_get (set row at z) at ≡ put_change ((kept_of p).writes k) (slice_get row at)
put_delta p row at k z within off on is =
    get_set_same row at z within ∙ ap (λ n. Some n) is ∙
    sym ((λ i. put_change (change_by (off i) (on i) (number_at p.changes k)) (slice_get row at)) ∙ ap (put_change (change_by false true (number_at p.changes k))) (slice_get-get_or row at (pos 0) within))

-- ---- the changes of some places

module _ (p : Page) where
  pub put_one : (place : ℕ) (old new : List ℤ) → length new ≡ length old → slice_get new (p.number * 64 + place) ≡ put_change ((kept_of p).writes place) (slice_get old (p.number * 64 + place)) →
      ((i : ℕ) → i ≢ p.number * 64 + place → slice_get new i ≡ slice_get old i) → ArePut (kept_of p) place (place + 1) old new
  put_one place old new long now others = record {
    long = long;
    here = λ k ge lt.
        let same : place ≡ k = omega (arith, ge, lt) in
        subst (λ (j : ℕ). slice_get new (p.number * 64 + j) ≡ put_change ((kept_of p).writes j) (slice_get old (p.number * 64 + j))) same now;
    others = λ i off. others i (off place (omega arith) (omega arith));
  }

  pub put_on : (from mid end : ℕ) → from ≤ mid → mid ≤ end → (old next new : List ℤ) → ArePut (kept_of p) from mid old next → ArePut (kept_of p) mid end next new → ArePut (kept_of p) from end old new
  put_on from mid end le more old next new first then = record {
    long = then.long ∙ first.long;
    here = λ k ge lt. elim (below_tells k mid) [
      | inl h ↦ let less = h.1 in then.others (p.number * 64 + k) (λ j ge_mid lt_end e. omega (arith, less, ge_mid, e)) ∙ first.here k ge less
      | inr h ↦
          let above = h.1 in
          then.here k above lt ∙ ap (put_change ((kept_of p).writes k)) (first.others (p.number * 64 + k) (λ j ge_from lt_mid e. omega (arith, above, lt_mid, e)))
    ];
    others = λ i off. then.others i (λ k ge lt. off k (omega (arith, ge, le)) lt) ∙ first.others i (λ k ge lt. off k ge (omega (arith, lt, more)));
  }

  pub put_set : (place : ℕ) (row : List ℤ) (z : ℤ) → p.number * 64 + place < length row → is_set p.stored place ≡ true → z ≡ number_at p.changes place →
      ArePut (kept_of p) place (place + 1) row (set row (p.number * 64 + place) z)
  put_set place row z within on is =
      put_one place row (set row (p.number * 64 + place) z) (length-set row (p.number * 64 + place) z) (put_stored p row (p.number * 64 + place) place z within on is)
      (λ i off. get_set_other row (p.number * 64 + place) i z off)

neither : (s d : Bool) → (s || d) ≡ false → (s ≡ false) × (d ≡ false)
neither false d e = (refl, e)
neither true d e = absurd cc

pub unwritten : (p : Page) (k : ℕ) → (is_set p.stored k || is_set p.delta k) ≡ false → (kept_of p).writes k ≡ None
unwritten p k e = let n = neither (is_set p.stored k) (is_set p.delta k) e in λ i. change_by (n.0 i) (n.1 i) (number_at p.changes k)

pub is_written : (p : Page) (k : ℕ) → (is_set p.stored k || is_set p.delta k) ≡ true → (kept_of p).writes k ≢ None
is_written p k e = from (is_set p.stored k) (is_set p.delta k) e
  where
    from : (s d : Bool) → (s || d) ≡ true → change_by s d (number_at p.changes k) ≢ None
    from true d e h = absurd cc
    from false true e h = absurd cc
    from false false e h = absurd cc

pub delta_then : (s d : Bool) → (s || d) ≡ true → s ≡ false → d ≡ true
delta_then false d e h = e
delta_then true d e h = absurd cc

-- ---- the changes at the places below one

pub record PutBelow (p : Page) (old new : List ℤ) (n : ℕ) : Type 0 where
  pub within : n ≤ 64
  pub long : length new ≡ length old
  pub here : (k : ℕ) → k < n → slice_get new (p.number * 64 + k) ≡ put_change ((kept_of p).writes k) (slice_get old (p.number * 64 + k))
  pub rest : (k : ℕ) → n ≤ k → k < 64 → slice_get new (p.number * 64 + k) ≡ slice_get old (p.number * 64 + k)
  pub others : (i : ℕ) → i / 64 ≢ p.number → slice_get new i ≡ slice_get old i

pub put_none : (p : Page) (row : List ℤ) → PutBelow p row row 0
put_none p row = record { within = omega arith; long = refl; here = λ k lt. absurd (omega (arith, lt)); rest = λ k le lt. refl; others = λ i off. refl }

module _ (p : Page) (old mid : List ℤ) (from : ℕ) (below : PutBelow p old mid from) where
  still : (k : ℕ) → from ≤ k → k < 64 → (is_set p.stored k || is_set p.delta k) ≡ false → slice_get mid (p.number * 64 + k) ≡ put_change ((kept_of p).writes k) (slice_get old (p.number * 64 + k))
  still k le lt none = below.rest k le lt ∙ sym (ap (λ (u : Option Change). put_change u (slice_get old (p.number * 64 + k))) (unwritten p k none))

  module _ (new : List ℤ) (place end : ℕ) (later : from ≤ place) (some : place < end) (page : end ≤ 64) (passed : (k : ℕ) → from ≤ k → k < place → (is_set p.stored k || is_set p.delta k) ≡ false)
      (put : ArePut (kept_of p) place end mid new)
    where
      beside : (k : ℕ) → ((j : ℕ) → place ≤ j → j < end → k ≢ j) → slice_get new (p.number * 64 + k) ≡ slice_get mid (p.number * 64 + k)
      beside k off = put.others (p.number * 64 + k) (λ j ge lt e. off j ge lt (omega (arith, e)))

      pub put_next : PutBelow p old new end
      put_next = record {
        within = page;
        long = put.long ∙ below.long;
        here = λ k lt. elim (below_tells k place) [
          | inl h ↦
              let less = h.1 in
              beside k (λ j ge within e. omega (arith, less, ge, e)) ∙ elim (below_tells k from) [
                | inl q ↦ below.here k q.1
                | inr q ↦ still k q.1 (omega (arith, less, some, page)) (passed k q.1 less)
              ]
          | inr h ↦ let ge = h.1 in put.here k ge lt ∙ ap (put_change ((kept_of p).writes k)) (below.rest k (omega (arith, ge, later)) (omega (arith, lt, page)))
        ];
        rest = λ k le lt. beside k (λ j ge within e. omega (arith, le, within, e)) ∙ below.rest k (omega (arith, le, later, some)) lt;
        others = λ i off.
            put.others i (λ k ge lt e. off (ap (λ (x : ℕ). x / 64) e ∙ div-mul-add p.number 64 k (omega (arith, lt, page)))) ∙
            below.others i off;
      }

  pub put_all : ((k : ℕ) → from ≤ k → k < 64 → (is_set p.stored k || is_set p.delta k) ≡ false) → PageIsPut (kept_of p) old mid
  put_all none = record {
    long = below.long;
    here = λ k lt. elim (below_tells k from) [ inl q ↦ below.here k q.1 | inr q ↦ still k q.1 lt (none k q.1 lt) ];
    others = below.others;
  }
