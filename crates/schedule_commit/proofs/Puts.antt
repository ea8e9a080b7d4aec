-- One change after another is put into a row.
use Rattle.std.proofs.Common.{◌≡◌, ◌≢◌, ℕ, zero, suc, ◌+◌, ◌<◌, List, [], ◌∷◌, ◌++◌, length, map, take, Bool, true, false, cond, Some, None, inl, inr, refl, sym, ap, ◌∙◌, subst, arith, ℤ}
use Rattle.std.specs.Prelude.{IsTrue, find, nat_lt, negsuc, pos, slice_get}
use Rattle.std.specs.Option.{option_map}
use Rattle.std.specs.Ordering.{int_eq}
use Rattle.frame_engine.specs.Flat.{cell_in, is_cell}
use Rattle.frame_strand.specs.Buffers.{change_in}
use Rattle.frame_strand.specs.Keeping.{AreDifferent}
use Rattle.frame_strand.specs.declared.cells.Written.{Written}
use Rattle.frame_strand.proofs.CellsKept.{change_absent, int_tells}
use Rattle.schedule_commit.specs.Putting.{IsPutInto, put_change}

pub kept_cell : (old new : List ℤ) → length new ≡ length old → (a : ℤ) → IsTrue (is_cell old a) → IsTrue (is_cell new a)
kept_cell old new long (pos n) h = subst (λ (k : ℕ). IsTrue (nat_lt n k)) (sym long) h
kept_cell old new long (negsuc n) h = h

pub change_beside : (ws : List Written) (w : Written) (a : ℤ) → int_eq a w.at ≡ false → change_in (ws ++ w ∷ []) a ≡ change_in ws a
change_beside [] w a off = ap (λ (t : Bool). option_map (λ (x : Written). x.change) (cond t (Some w) None)) off
change_beside (y ∷ ws) w a off = from (int_eq a y.at) (change_beside ws w a off)
  where
    from : (b : Bool) → change_in (ws ++ w ∷ []) a ≡ change_in ws a →
        option_map (λ (x : Written). x.change) (cond b (Some y) (find (λ (x : Written). int_eq a x.at) (ws ++ w ∷ []))) ≡ option_map (λ (x : Written). x.change) (cond b (Some y) (find (λ (x : Written). int_eq a x.at) ws))
    from true rest = refl
    from false rest = rest

pub change_last : (ws : List Written) (w : Written) (a : ℤ) → int_eq a w.at ≡ true → change_in ws a ≡ None → change_in (ws ++ w ∷ []) a ≡ Some w.change
change_last [] w a on none = ap (λ (t : Bool). option_map (λ (x : Written). x.change) (cond t (Some w) None)) on
change_last (y ∷ ws) w a on none = from (int_eq a y.at) none (change_last ws w a on)
  where
    from : (b : Bool) → option_map (λ (x : Written). x.change) (cond b (Some y) (find (λ (x : Written). int_eq a x.at) ws)) ≡ None → (change_in ws a ≡ None → change_in (ws ++ w ∷ []) a ≡ Some w.change) →
        option_map (λ (x : Written). x.change) (cond b (Some y) (find (λ (x : Written). int_eq a x.at) (ws ++ w ∷ []))) ≡ Some w.change
    from true h rest = absurd cc
    from false h rest = rest h

pub puts_none : (row : List ℤ) → IsPutInto [] row row
puts_none row = record { long = refl; cells = λ a. refl }

pub puts_more : (ws : List Written) (w : Written) (old mid new : List ℤ) → IsPutInto ws old mid → change_in ws w.at ≡ None → length new ≡ length mid →
    cell_in new w.at ≡ put_change (Some w.change) (cell_in mid w.at) → ((a : ℤ) → a ≢ w.at → cell_in new a ≡ cell_in mid a) → IsPutInto (ws ++ w ∷ []) old new
puts_more ws w old mid new puts fresh long here others = record {
  long = long ∙ puts.long;
  cells = λ a. elim (int_tells a w.at) [
    | inl q ↦
        let unchanged : cell_in mid a ≡ cell_in old a = puts.cells a ∙ ap (λ o. put_change o (cell_in old a)) (ap (change_in ws) q.1 ∙ fresh) in
        ap (cell_in new) q.1 ∙ here ∙ ap (put_change (Some w.change)) (ap (cell_in mid) (sym q.1) ∙ unchanged)
        ∙ ap (λ o. put_change o (cell_in old a)) (sym (change_last ws w a q.0 (ap (change_in ws) q.1 ∙ fresh)))
    | inr q ↦ others a q.1 ∙ puts.cells a ∙ ap (λ o. put_change o (cell_in old a)) (sym (change_beside ws w a q.0))
  ];
}

taken : (ws : List Written) (n j : ℕ) (a : ℤ) → slice_get (map (λ (w : Written). w.at) (take n ws)) j ≡ Some a → (j < n) × (slice_get (map (λ (w : Written). w.at) ws) j ≡ Some a)
taken [] zero j a e = absurd cc
taken [] (suc n) j a e = absurd cc
taken (w ∷ ws) zero j a e = absurd cc
taken (w ∷ ws) (suc n) zero a e = (omega arith, e)
taken (w ∷ ws) (suc n) (suc j) a e = let r = taken ws n j a e in let lt = r.0 in (omega (arith, lt), r.1)

pub slice_mapped : (ws : List Written) (n : ℕ) (w : Written) → slice_get ws n ≡ Some w → slice_get (map (λ (x : Written). x.at) ws) n ≡ Some w.at
slice_mapped [] n w e = absurd cc
slice_mapped (x ∷ ws) zero w e = let same : x ≡ w = cc in ap (λ (y : Written). Some y.at) same
slice_mapped (x ∷ ws) (suc n) w e = slice_mapped ws n w e

pub fresh_next : (ws : List Written) (n : ℕ) (w : Written) → AreDifferent (map (λ (x : Written). x.at) ws) → slice_get ws n ≡ Some w → change_in (take n ws) w.at ≡ None
fresh_next ws n w differ at = change_absent (take n ws) w.at (λ j e.
    let r = taken ws n j w.at e in
    let same : j ≡ n = differ j n w.at r.1 (slice_mapped ws n w at) in
    let lt = r.0 in omega (arith, same, lt))

pub take_more : (ws : List Written) (n : ℕ) (w : Written) → slice_get ws n ≡ Some w → take (n + 1) ws ≡ take n ws ++ w ∷ []
take_more ws n w at = let same : suc n ≡ n + 1 = omega arith in subst (λ (k : ℕ). take k ws ≡ take n ws ++ w ∷ []) same (taken_more ws n at)
  where
    taken_more : (ws : List Written) (n : ℕ) → slice_get ws n ≡ Some w → take (suc n) ws ≡ take n ws ++ w ∷ []
    taken_more [] n e = absurd cc
    taken_more (x ∷ ws) zero e = let same : x ≡ w = cc in ap (λ (y : Written). y ∷ []) same
    taken_more (x ∷ ws) (suc n) e = ap (λ ys. x ∷ ys) (taken_more ws n e)
