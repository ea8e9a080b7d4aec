-- A row in which the cells that a strand wrote hold again what they held.
use Rattle.std.proofs.Common.{◌≡◌, ◌≢◌, ℕ, zero, suc, ◌+◌, ◌<◌, ◌≤◌, List, [], ◌∷◌, ◌++◌, length, map, take, Bool, true, cond, Option, Some, None, inl, inr, refl, sym, ap, ◌∙◌, subst, arith, ℤ}
use Rattle.std.specs.Prelude.{IsTrue, find, nat_lt, negsuc, pos, slice_get}
use Rattle.std.specs.Option.{option_map}
use Rattle.std.specs.Ordering.{int_eq}
use Rattle.std.proofs.lemmas.Bool.Decides.{nat_tests}
use Rattle.std.proofs.lemmas.List.{length-append, take_all}
use Rattle.std.proofs.lemmas.Option.{same_Some, slice_get_within}
use Rattle.std.proofs.lemmas.Bool.{cases_eq}
use Rattle.frame_engine.specs.Flat.{cell_in, is_cell}
use Rattle.frame_strand.specs.Buffers.{change_in}
use Rattle.frame_strand.specs.Keeping.{AreDifferent}
use Rattle.frame_strand.specs.declared.cells.Change.{Change}
use Rattle.frame_strand.specs.declared.cells.Written.{Written}
use Rattle.frame_strand.proofs.CellsKept.{int_tells}
use Rattle.schedule_commit.specs.Putting.{IsPutInto, put_change}
use Rattle.schedule_commit.specs.TakingBack.{AreNumbersOf, IsRestored}
use Rattle.schedule_commit.proofs.Puts.{change_beside, change_last, fresh_next, slice_mapped, take_more}

-- ---- items of a list

get_there : (xs : List ℤ) (n : ℕ) → n < length xs → (z : ℤ) × (slice_get xs n ≡ Some z)
get_there [] n low = absurd (omega arith)
get_there (x ∷ xs) zero low = (x, refl)
get_there (x ∷ xs) (suc n) low = get_there xs n (omega arith)

get_more : (xs zs : List ℤ) (n : ℕ) (z : ℤ) → slice_get xs n ≡ Some z → slice_get (xs ++ zs) n ≡ Some z
get_more [] zs n z e = absurd cc
get_more (x ∷ xs) zs zero z e = e
get_more (x ∷ xs) zs (suc n) z e = get_more xs zs n z e

get_last : (xs : List ℤ) (z : ℤ) (n : ℕ) → length xs ≡ n → slice_get (xs ++ z ∷ []) n ≡ Some z
get_last [] z n long = subst (λ k. slice_get (z ∷ []) k ≡ Some z) long refl
get_last (x ∷ xs) z zero long = absurd (omega arith)
get_last (x ∷ xs) z (suc n) long = get_last xs z n (omega arith)

-- ---- the numbers of the cells, one after another

pub record AreNumbersTo (n : ℕ) (row : List ℤ) (writes : List Written) (numbers : List ℤ) : Type 0 where
  pub many : length numbers ≡ n
  pub are : (i : ℕ) (w : Written) → i < n → slice_get writes i ≡ Some w → cell_in row w.at ≡ slice_get numbers i

pub numbers_none : (row : List ℤ) (writes : List Written) → AreNumbersTo 0 row writes []
numbers_none row writes = record { many = refl; are = λ i w low at. absurd (omega arith) }

pub numbers_more : (row : List ℤ) (writes : List Written) (numbers : List ℤ) (n : ℕ) (w : Written) (z : ℤ) → AreNumbersTo n row writes numbers →
    slice_get writes n ≡ Some w → cell_in row w.at ≡ Some z → AreNumbersTo (n + 1) row writes (numbers ++ z ∷ [])
numbers_more row writes numbers n w z to at is = record {
  many = (let many = to.many in length-append numbers (z ∷ []) ∙ omega (arith, many));
  are = λ i v low there. elim (cases_eq i n) [
    | inl e ↦
        let same : v ≡ w = same_Some v w (sym there ∙ ap (slice_get writes) e ∙ at) in
        ap (λ (x : Written). cell_in row x.at) same ∙ is ∙ sym (get_last numbers z i (to.many ∙ sym e))
    | inr ne ↦
        let low' : i < n = omega (arith, low, ne) in
        let many = to.many in
        let y = get_there numbers i (omega (arith, low', many)) in
        to.are i v low' there ∙ y.1 ∙ sym (get_more numbers (z ∷ []) i y.0 y.1)
  ];
}

pub numbers_all : (row : List ℤ) (writes : List Written) (numbers : List ℤ) (n : ℕ) → n ≡ length writes → AreNumbersTo n row writes numbers → AreNumbersOf row writes numbers
numbers_all row writes numbers n all to = record {
  many = to.many ∙ all;
  are = λ i w at. to.are i w (let low = slice_get_within writes i w at in omega (arith, low, all)) at;
}

-- ---- one cell after another

-- as far as the first n writes
pub record IsRestoredTo (n : ℕ) (writes : List Written) (numbers old new : List ℤ) : Type 0 where
  pub long : length new ≡ length old
  pub written : (i : ℕ) (w : Written) → i < n → slice_get writes i ≡ Some w → cell_in new w.at ≡ slice_get numbers i
  pub others : (a : ℤ) → change_in (take n writes) a ≡ None → cell_in new a ≡ cell_in old a

pub restored_none : (writes : List Written) (numbers row : List ℤ) → IsRestoredTo 0 writes numbers row row
restored_none writes numbers row = record { long = refl; written = λ i w low at. absurd (omega arith); others = λ a none. refl }

module _ (writes : List Written) (numbers old mid new : List ℤ) (n : ℕ) (w : Written) (z : ℤ) (to : IsRestoredTo n writes numbers old mid)
    (at : slice_get writes n ≡ Some w) (is : slice_get numbers n ≡ Some z) (differ : AreDifferent (map (λ (x : Written). x.at) writes))
    (long : length new ≡ length mid) (here : cell_in new w.at ≡ Some z) (beside : (a : ℤ) → a ≢ w.at → cell_in new a ≡ cell_in mid a) where
  written_more : (i : ℕ) (v : Written) → i < n + 1 → slice_get writes i ≡ Some v → cell_in new v.at ≡ slice_get numbers i
  written_more i v low there = elim (cases_eq i n) [
    | inl e ↦
        let same : v ≡ w = same_Some v w (sym there ∙ ap (slice_get writes) e ∙ at) in
        ap (λ (x : Written). cell_in new x.at) same ∙ here ∙ sym is ∙ ap (slice_get numbers) (sym e)
    | inr ne ↦
        let away : v.at ≢ w.at = λ e. ne (differ i n w.at (slice_mapped writes i v there ∙ ap (λ a. Some a) e) (slice_mapped writes n w at)) in
        let low' : i < n = omega (arith, low, ne) in
        beside v.at away ∙ to.written i v low' there
  ]

  others_more : (a : ℤ) → change_in (take n writes ++ w ∷ []) a ≡ None → cell_in new a ≡ cell_in old a
  others_more a none = elim (int_tells a w.at) [
    | inl q ↦
        let fresh = ap (change_in (take n writes)) q.1 ∙ fresh_next writes n w differ at in
        let some : Some w.change ≡ None = sym (change_last (take n writes) w a q.0 fresh) ∙ none in
        absurd (cc)
    | inr q ↦ beside a q.1 ∙ to.others a (sym (change_beside (take n writes) w a q.0) ∙ none)
  ]

  pub restored_more : IsRestoredTo (n + 1) writes numbers old new
  restored_more = record {
    long = long ∙ to.long;
    written = written_more;
    others = λ a none. others_more a (ap (λ xs. change_in xs a) (sym (take_more writes n w at)) ∙ none);
  }

pub restored_all : (writes : List Written) (numbers old new : List ℤ) (n : ℕ) → length writes ≤ n → IsRestoredTo n writes numbers old new → IsRestored writes numbers old new
restored_all writes numbers old new n all to = record {
  long = to.long;
  written = λ i w at. to.written i w (let low = slice_get_within writes i w at in omega (arith, low, all)) at;
  others = λ a none. to.others a (ap (λ xs. change_in xs a) (take_all n writes all) ∙ none);
}

-- ---- the row is what it was

same_gets : (xs ys : List ℤ) → ((n : ℕ) → slice_get xs n ≡ slice_get ys n) → xs ≡ ys
same_gets [] [] same = refl
same_gets [] (y ∷ ys) same = let e = same 0 in absurd cc
same_gets (x ∷ xs) [] same = let e = same 0 in absurd cc
same_gets (x ∷ xs) (y ∷ ys) same = λ i. same_Some x y (same 0) i ∷ same_gets xs ys (λ n. same (suc n)) i

-- two rows of one length before the same cells
append_alike : (xs ys zs : List ℤ) → length xs ≡ length ys → (n : ℕ) → slice_get xs n ≡ slice_get ys n → slice_get (xs ++ zs) n ≡ slice_get (ys ++ zs) n
append_alike [] [] zs long n e = refl
append_alike [] (y ∷ ys) zs long n e = absurd (omega arith)
append_alike (x ∷ xs) [] zs long n e = absurd (omega arith)
append_alike (x ∷ xs) (y ∷ ys) zs long zero e = e
append_alike (x ∷ xs) (y ∷ ys) zs long (suc n) e = append_alike xs ys zs (omega arith) n e

-- a cell of which a change is kept was written
pub record IsWrittenAt (writes : List Written) (a : ℤ) : Type 0 where
  pub index : ℕ
  pub written : Written
  pub stands : slice_get writes index ≡ Some written
  pub here : written.at ≡ a

written_at : (writes : List Written) (a : ℤ) (u : Change) → change_in writes a ≡ Some u → IsWrittenAt writes a
written_at [] a u is = absurd cc
written_at (w ∷ ws) a u is = elim (int_tells a w.at) [
  | inl q ↦ record { index = 0; written = w; stands = refl; here = sym q.1 }
  | inr q ↦
      let later = written_at ws a u (ap (λ (t : Bool). option_map (λ (x : Written). x.change) (cond t (Some w) (find (λ (x : Written). int_eq a x.at) ws))) (sym q.0) ∙ is) in
      record { index = suc later.index; written = later.written; stands = later.stands; here = later.here }
]

number_there : (row : List ℤ) (writes : List Written) (numbers : List ℤ) → AreNumbersOf row writes numbers → (i : ℕ) (w : Written) → slice_get writes i ≡ Some w → (z : ℤ) × (slice_get numbers i ≡ Some z)
number_there row writes numbers are i w at =
    let low = slice_get_within writes i w at in
    let many = are.many in
    get_there numbers i (omega (arith, low, many))

module _ (writes : List Written) (numbers before between late new zs : List ℤ) (puts : IsPutInto writes before between) (more : late ≡ between ++ zs)
    (are : AreNumbersOf before writes numbers) (back : IsRestored writes numbers late new) where
  cell_back : (n : ℕ) (u : Option Change) → change_in writes (pos n) ≡ u → slice_get new n ≡ slice_get (before ++ zs) n
  cell_back n None none =
      let unwritten : slice_get between n ≡ slice_get before n = puts.cells (pos n) ∙ ap (λ o. put_change o (slice_get before n)) none in
      back.others (pos n) none ∙ ap (λ xs. slice_get xs n) more ∙ append_alike between before zs puts.long n unwritten
  cell_back n (Some u) some =
      let w = written_at writes (pos n) u some in
      let z = number_there before writes numbers are w.index w.written w.stands in
      let now : slice_get new n ≡ Some z.0 = ap (cell_in new) (sym w.here) ∙ back.written w.index w.written w.stands ∙ z.1 in
      let was : slice_get before n ≡ Some z.0 = ap (cell_in before) (sym w.here) ∙ are.are w.index w.written w.stands ∙ z.1 in
      now ∙ sym (get_more before zs n z.0 was)

  pub row_back : new ≡ before ++ zs
  row_back = same_gets new (before ++ zs) (λ n. cell_back n (change_in writes (pos n)) refl)

-- ---- the cells are there

pub is_cell_there : (row : List ℤ) (a z : ℤ) → cell_in row a ≡ Some z → IsTrue (is_cell row a)
is_cell_there row (pos n) z e =
    let low = slice_get_within row n z e in
    let t : nat_lt n (length row) ≡ true = grind (arith, nat_tests) in t
is_cell_there row (negsuc n) z e = absurd cc

longer_cell : (xs ys : List ℤ) → length xs ≤ length ys → (a : ℤ) → IsTrue (is_cell xs a) → IsTrue (is_cell ys a)
longer_cell xs ys more (pos n) is =
    let e : nat_lt n (length xs) ≡ true = is in
    let t : nat_lt n (length ys) ≡ true = grind (arith, nat_tests, e) in t
longer_cell xs ys more (negsuc n) is = is

pub cells_there : (writes : List Written) (numbers before late : List ℤ) → AreNumbersOf before writes numbers → length before ≤ length late → (i : ℕ) (w : Written) → slice_get writes i ≡ Some w → IsTrue (is_cell late w.at)
cells_there writes numbers before late are more i w at =
    let z = number_there before writes numbers are i w at in
    longer_cell before late more w.at (is_cell_there before w.at z.0 (are.are i w at ∙ z.1))
