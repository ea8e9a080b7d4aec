-- The list of adds, one after the other: taken in by a page, and put into the row of the board's cells.
use Rattle.std.proofs.Common.{◌≡◌, ◌≢◌, ◌<◌, ◌≤◌, ◌+◌, set, ℕ, suc, ℤ, pos, negsuc, refl, sym, ap, ◌∙◌, arith, Bool, true, false, cond, List, [], ◌∷◌, ◌++◌, length, take, get_or, Option, Some, None, inl, inr}
use Rattle.std.proofs.Math.Seq.{take-suc}
use Rattle.std.specs.Prelude.{unsigned_abs}
use lib.Signed.{lt_z}
use Rattle.std.proofs.lemmas.Option.{slice_get-get_or, slice_get_past}
use Rattle.frame_engine.specs.Flat.{cell_in}
use Rattle.semantics.specs.Arithmetic.{cell_sum}
use Rattle.semantics.specs.State.{sum_in}
use Rattle.frame_strand.specs.Buffers.{raised_change}
use Rattle.frame_strand.specs.declared.cells.Change.{Change}
use Rattle.frame_strand.specs.declared.cells.Change.TheVariants.{Stored, Delta}
use Rattle.strand_pages.specs.Adding.{AddsArePut}
use Rattle.strand_pages.specs.Committing.{IsPutInto}
use Rattle.strand_pages.specs.Known.{at_address, put_change}
use Rattle.strand_pages.specs.Logs.{Log, is_open, same_page, with_change}
use Rattle.strand_pages.specs.Paging.{number_at}
use Rattle.strand_pages.specs.Tables.{IsFresh, PageTable, in_pages, pages_log, raised_all, raised_by, taken_in, with_adds}
use Rattle.strand_pages.specs.declared.added.Added.{Added}
use Rattle.strand_pages.proofs.Addresses.{address_tells, get_set_other, get_set_same}
use Rattle.strand_pages.proofs.Holding.{sums_join}
use Rattle.strand_pages.proofs.Listed.{closed_writes, either_way, paged_tells, raised_more}

pub one_more : (adds : List Added) (i : ℕ) (d : Added) → i < length adds → take (i + 1) adds ≡ take i adds ++ get_or adds i d ∷ []
one_more adds i d lt =
    let same : i + 1 ≡ suc i = omega arith in
    ap (λ (k : ℕ). take k adds) same ∙ take-suc adds i d lt

pub raised_else : (e : Added) (a : ℤ) → a ≢ e.at → (u : Option Change) → raised_by e a u ≡ u
raised_else e a off u = elim (address_tells a e.at) [
  | inl q ↦ absurd (off q.1)
  | inr q ↦ ap (λ (t : Bool). cond t (Some (raised_change e.number u None)) u) q.0
]

raised_here : (e : Added) (a : ℤ) → a ≡ e.at → (u : Option Change) → raised_by e a u ≡ Some (raised_change e.number u None)
raised_here e a on u = elim (address_tells a e.at) [
  | inl q ↦ ap (λ (t : Bool). cond t (Some (raised_change e.number u None)) u) q.0
  | inr q ↦ absurd (q.1 on)
]

-- ---- a page takes in

module _ (x : Log) (a : ℤ) (fresh : IsFresh x a) where
  pub none_taken : taken_in x a [] ≡ x
  none_taken = λ i. record x { writes = λ b. cell b (same_page a b) refl i }
    where
      cell : (b : ℤ) (t : Bool) → same_page a b ≡ t → cond (same_page a b) None (x.writes b) ≡ x.writes b
      cell b true e = ap (λ (s : Bool). cond s None (x.writes b)) e ∙ sym (fresh.writes b e)
      cell b false e = ap (λ (s : Bool). cond s None (x.writes b)) e

  module _ (adds : List Added) (e : Added) where
    pub taken_else : same_page a e.at ≡ false → taken_in x a (adds ++ e ∷ []) ≡ taken_in x a adds
    taken_else away = λ i. record x { writes = λ b. cell b (same_page a b) refl i }
      where
        cell : (b : ℤ) (t : Bool) → same_page a b ≡ t → (taken_in x a (adds ++ e ∷ [])).writes b ≡ (taken_in x a adds).writes b
        cell b true h = ap (λ (u : Option Change). cond (same_page a b) u (x.writes b)) (raised_more adds None e b ∙ raised_else e b (λ same. let bad : true ≡ false = sym h ∙ ap (same_page a) same ∙ away in cc) (raised_all None adds b))
        cell b false h = ap (λ (s : Bool). cond s (raised_all None (adds ++ e ∷ []) b) (x.writes b)) h ∙ sym (ap (λ (s : Bool). cond s (raised_all None adds b) (x.writes b)) h)

    module _ (here : same_page a e.at ≡ true) where
      abbrev y : Log
      y = taken_in x a adds

      abbrev change : Change
      change = raised_change e.number (y.writes e.at) (y.reads e.at)

      pub may_take : is_open y e.at ≡ true
      may_take = open_too e.at (fresh.used e.at here)
        where
          open_too : (b : ℤ) → is_open x b ≡ true → is_open y b ≡ true
          open_too (pos m) h = h
          open_too (negsuc m) h = h

      change_is : change ≡ raised_change e.number (raised_all None adds e.at) None
      change_is = λ i. raised_change e.number (cond (here i) (raised_all None adds e.at) (x.writes e.at)) (fresh.reads e.at here i)

      pub taken_here : taken_in x a (adds ++ e ∷ []) ≡ with_change y e.at change
      taken_here = λ i. record x { writes = λ b. cell b i }
        where
          cell : (b : ℤ) → (taken_in x a (adds ++ e ∷ [])).writes b ≡ at_address e.at (Some change) y.writes b
          cell b = ap (λ (u : Option Change). cond (same_page a b) u (x.writes b)) (raised_more adds None e b) ∙ elim (address_tells b e.at) [
            | inl q ↦
                ap (λ (s : Bool). cond s (raised_by e b (raised_all None adds b)) (x.writes b)) (ap (same_page a) q.1 ∙ here) ∙ raised_here e b q.1 (raised_all None adds b) ∙
                ap (λ (c : ℤ). Some (raised_change e.number (raised_all None adds c) None)) q.1 ∙ sym (ap Some change_is) ∙
                sym (ap (λ (s : Bool). cond s (Some change) (y.writes b)) q.0)
            | inr q ↦
                ap (λ (u : Option Change). cond (same_page a b) u (x.writes b)) (raised_else e b q.1 (raised_all None adds b)) ∙
                sym (ap (λ (s : Bool). cond s (Some change) (y.writes b)) q.0)
          ]

-- ---- adds are put

put_sum : (n : ℤ) (u : Option Change) (v : Option ℤ) → sum_in n (put_change u v) ≡ put_change (Some (raised_change n u None)) v
put_sum n None v = refl
put_sum n (Some (Stored y)) v = refl
put_sum n (Some (Delta y)) None = refl
put_sum n (Some (Delta y)) (Some w) = ap Some (sums_join w y n)

module _ (x : Log) where
  pub none_put : (row : List ℤ) → AddsArePut x [] row row
  none_put row = record { long = refl; cells = λ a. sym (ap (λ (u : Option Change). put_change u (cell_in row a)) (either_way {X = Option Change} (in_pages x.has_page a) None)) }

  module _ (adds : List Added) (e : Added) (old mid : List ℤ) (before : AddsArePut x adds old mid) where
    abbrev upto : List Added → ℤ → Option Change
    upto list a = cond (in_pages x.has_page a) None (raised_all None list a)

    other_cell : (a : ℤ) → a ≢ e.at → upto (adds ++ e ∷ []) a ≡ upto adds a
    other_cell a off = ap (cond (in_pages x.has_page a) None) (raised_more adds None e a ∙ raised_else e a off (raised_all None adds a))

    pub put_paged : in_pages x.has_page e.at ≡ true → AddsArePut x (adds ++ e ∷ []) old mid
    put_paged on = record { long = before.long; cells = λ a. before.cells a ∙ ap (λ (u : Option Change). put_change u (cell_in old a)) (sym (same a)) }
      where
        same : (a : ℤ) → upto (adds ++ e ∷ []) a ≡ upto adds a
        same a = elim (address_tells a e.at) [
          | inl q ↦
              let here : in_pages x.has_page a ≡ true = ap (in_pages x.has_page) q.1 ∙ on in
              ap (λ (s : Bool). cond s None (raised_all None (adds ++ e ∷ []) a)) here ∙ sym (ap (λ (s : Bool). cond s None (raised_all None adds a)) here)
          | inr q ↦ other_cell a q.1
        ]

    pub put_closed : in_pages x.has_page e.at ≡ false → (new : List ℤ) → length new ≡ length mid →
        ((a : ℤ) → cell_in new a ≡ at_address e.at (sum_in e.number (cell_in mid a)) (cell_in mid) a) → AddsArePut x (adds ++ e ∷ []) old new
    put_closed off new long now = record { long = long ∙ before.long; cells = cell }
      where
        cell : (a : ℤ) → cell_in new a ≡ put_change (upto (adds ++ e ∷ []) a) (cell_in old a)
        cell a = now a ∙ elim (address_tells a e.at) [
          | inl q ↦
              let here : in_pages x.has_page a ≡ false = ap (in_pages x.has_page) q.1 ∙ off in
              ap (λ (s : Bool). cond s (sum_in e.number (cell_in mid a)) (cell_in mid a)) q.0 ∙
              ap (sum_in e.number) (before.cells a ∙ ap (λ (s : Bool). put_change (cond s None (raised_all None adds a)) (cell_in old a)) here) ∙
              put_sum e.number (raised_all None adds a) (cell_in old a) ∙
              sym (ap (λ (u : Option Change). put_change u (cell_in old a)) (ap (λ (s : Bool). cond s None (raised_all None (adds ++ e ∷ []) a)) here ∙ raised_more adds None e a ∙ raised_here e a q.1 (raised_all None adds a)))
          | inr q ↦
              ap (λ (s : Bool). cond s (sum_in e.number (cell_in mid a)) (cell_in mid a)) q.0 ∙ before.cells a ∙
              ap (λ (u : Option Change). put_change u (cell_in old a)) (sym (other_cell a q.1))
        ]

-- what the pages and then the list put
pub both_put : (t : PageTable) (adds : List Added) (old mid new : List ℤ) → IsPutInto (pages_log t) old mid → AddsArePut (pages_log t) adds mid new → IsPutInto (with_adds (pages_log t) adds) old new
both_put t adds old mid new first second = record { long = second.long ∙ first.long; cells = cell }
  where
    cell : (a : ℤ) → cell_in new a ≡ put_change ((with_adds (pages_log t) adds).writes a) (cell_in old a)
    cell a =
        second.cells a ∙ ap (put_change (cond (in_pages (pages_log t).has_page a) None (raised_all None adds a))) (first.cells a) ∙
        elim (paged_tells t a) [
          | inl q ↦
              ap (λ (s : Bool). put_change (cond s None (raised_all None adds a)) (put_change ((pages_log t).writes a) (cell_in old a))) q.0 ∙
              sym (ap (λ (s : Bool). put_change (cond s ((pages_log t).writes a) (raised_all None adds a)) (cell_in old a)) q.0)
          | inr q ↦
              ap (λ (s : Bool). put_change (cond s None (raised_all None adds a)) (put_change ((pages_log t).writes a) (cell_in old a))) q.0 ∙
              ap (λ (u : Option Change). put_change (raised_all None adds a) (put_change u (cell_in old a))) (closed_writes t a q.0) ∙
              sym (ap (λ (s : Bool). put_change (cond s ((pages_log t).writes a) (raised_all None adds a)) (cell_in old a)) q.0)
        ]

-- ---- a row whose cell is added to

module _ (row : List ℤ) (at from : ℤ) (same : from ≡ at) (some : lt_z from (pos 0) ≡ false) where
  pub row_added : (n z : ℤ) → unsigned_abs from < length row → z ≡ cell_sum (number_at row (unsigned_abs from)) n →
      (a : ℤ) → cell_in (set row (unsigned_abs from) z) a ≡ at_address at (sum_in n (cell_in row a)) (cell_in row) a
  row_added n z lt is a = by from same some lt is a
    where
      by : (f : ℤ) → f ≡ at → lt_z f (pos 0) ≡ false → unsigned_abs f < length row → z ≡ cell_sum (number_at row (unsigned_abs f)) n →
          (b : ℤ) → cell_in (set row (unsigned_abs f) z) b ≡ at_address at (sum_in n (cell_in row b)) (cell_in row) b
      by (negsuc k) e le below sum b = absurd cc
      by (pos k) e le below sum b = elim (address_tells b at) [
        | inl q ↦
            ap (cell_in (set row k z)) (q.1 ∙ sym e) ∙ get_set_same row k z below ∙ ap (λ (y : ℤ). Some y) sum ∙
            ap (sum_in n) (sym (slice_get-get_or row k (pos 0) below)) ∙ ap (λ (c : ℤ). sum_in n (cell_in row c)) (e ∙ sym q.1) ∙
            sym (ap (λ (t : Bool). cond t (sum_in n (cell_in row b)) (cell_in row b)) q.0)
        | inr q ↦ other b q.1 ∙ sym (ap (λ (t : Bool). cond t (sum_in n (cell_in row b)) (cell_in row b)) q.0)
      ]
        where
          other : (c : ℤ) → c ≢ at → cell_in (set row k z) c ≡ cell_in row c
          other (negsuc m) off = refl
          other (pos m) off = get_set_other row k m z (λ j. off (ap (λ (y : ℕ). pos y) j ∙ e))

-- there is no such cell
pub row_stays : (row : List ℤ) (at n : ℤ) → cell_in row at ≡ None → (a : ℤ) → cell_in row a ≡ at_address at (sum_in n (cell_in row a)) (cell_in row) a
row_stays row at n none a = elim (address_tells a at) [
  | inl q ↦
      let absent : cell_in row a ≡ None = ap (cell_in row) q.1 ∙ none in
      absent ∙ sym (ap (λ (t : Bool). cond t (sum_in n (cell_in row a)) (cell_in row a)) q.0 ∙ ap (sum_in n) absent)
  | inr q ↦ sym (ap (λ (t : Bool). cond t (sum_in n (cell_in row a)) (cell_in row a)) q.0)
]

pub behind_row : (row : List ℤ) (at from : ℤ) → from ≡ at → length row ≤ unsigned_abs from → cell_in row at ≡ None
behind_row row at from same past = by from same past
  where
    by : (f : ℤ) → f ≡ at → length row ≤ unsigned_abs f → cell_in row at ≡ None
    by (pos k) e le = ap (cell_in row) (sym e) ∙ slice_get_past row k le
    by (negsuc k) e le = ap (cell_in row) (sym e)
