-- A strand's cells are put into a row.
use Rattle.std.proofs.Common.{◌≡◌, ℕ, suc, ◌+◌, ◌-◌, ◌≤◌, ◌<◌, List, length, refl, ap, sym, ◌∙◌, arith, ℤ, pos, negsuc, Some, inl, inr}
use Rattle.std.specs.Prelude.{slice_get, slice_set}
use Rattle.std.proofs.lemmas.Bool.Decides.{eqb_tells}
use Rattle.frame.proofs.Changes.{get_other, get_set}
use Rattle.frame_engine.specs.Flat.{cell_in}
use Rattle.strand_pages.specs.Committing.{IsPutInto}
use Rattle.strand_pages.specs.Tables.{log_of}
use Rattle.strand.specs.OwnCells.{own_cell}
use Rattle.strand.specs.Putting.{ArePutInto, IsCopiedTo, IsOwnBelow}
use Rattle.strand.specs.declared.cells.StrandCells.{StrandCells}
use Rattle.strand.proofs.Putting.{own_place, set_long}

pub copied_none : (numbers row : List ℤ) (place : ℕ) → IsCopiedTo numbers 0 place row row
copied_none numbers row place = record {
  long = refl;
  here = λ n lt. absurd (omega (arith, lt));
  others = λ i away. refl;
}

pub copied_more : (numbers old row : List ℤ) (count place : ℕ) (z : ℤ) → slice_get numbers count ≡ Some z → place + count < length row → IsCopiedTo numbers count place old row → IsCopiedTo numbers (suc count) place old (slice_set row (place + count) z)
copied_more numbers old row count place z is within c = record {
  long = set_long row (place + count) z ∙ c.long;
  here = λ n lt. elim (eqb_tells n count) [
    | inl q ↦ ap (λ (i : ℕ). slice_get (slice_set row (place + count) z) (place + i)) q.1 ∙ get_set row (place + count) z within ∙ sym is ∙ sym (ap (slice_get numbers) q.1)
    | inr q ↦
        let off = q.1 in
        get_other row (place + count) (place + n) z (λ e. off (omega (arith, e))) ∙ c.here n (omega (arith, lt, off))
  ];
  others = λ i away.
      get_other row (place + count) i z (λ e. away count (omega arith) e) ∙ c.others i (λ n lt e. away n (omega (arith, lt)) e);
}

-- the segment's cell at an address, by its place
own_at : (x : StrandCells) (n : ℕ) → x.start ≤ n → own_cell x (pos n) ≡ slice_get x.own.items (n - x.start)
own_at x n le = own_place x (pos n) (n - x.start) (let same : x.start + (n - x.start) ≡ n = omega (arith, le) in ap pos (sym same))

pub put_all : (x : StrandCells) (end : ℕ) (old mid new : List ℤ) → x.start ≤ end → IsPutInto (log_of x.log) old mid → IsCopiedTo x.own.items (end - x.start) x.start mid new → ArePutInto x end old new
put_all x end old mid new low puts copied = record {
  long = copied.long ∙ puts.long;
  own = λ a w.
      let (n, ge, lt, is) = w in
      let same : x.start + (n - x.start) ≡ n = omega (arith, ge) in
      ap (cell_in new) is ∙ ap (slice_get new) (sym same) ∙ copied.here (n - x.start) (omega (arith, ge, lt)) ∙ sym (own_at x n ge) ∙ sym (ap (own_cell x) is);
  others = λ a out. kept a out ∙ puts.cells a;
}
  where
    kept : (a : ℤ) → (IsOwnBelow x end a → ⊥) → cell_in new a ≡ cell_in mid a
    kept (pos i) out = copied.others i (λ n lt e. out (i, omega (arith, e), omega (arith, e, lt, low), refl))
    kept (negsuc i) out = refl
