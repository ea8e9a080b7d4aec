-- The cells of a new frame: nothing is known of them yet, and they hold first what the segment's hold now.
use Rattle.std.proofs.Common.{◌≡◌, ℕ, ◌≤◌, ◌<◌, List, refl, ap, sym, ◌∙◌, subst, arith, rules, cond, Bool, true, inl, inr, ℤ, pos, Option, Some, None}
use Rattle.std.specs.Prelude.{IsSome}
use Rattle.std.specs.Int.{w64, cast_signed}
use Rattle.semantics.specs.Paths.{Path}
use Rattle.semantics.specs.Cells.{Cell, owns}
use Rattle.semantics.specs.Written.{or_zero}
use Rattle.semantics.proofs.Actions.{same_path_itself}
use Rattle.frame_engine.specs.Shows.{IsIn, Layout, address}
use Rattle.serial_stack.specs.Layouts.{with_allocas}
use Rattle.serial_stack.proofs.Owners.{address_apart, in_apart}
use Rattle.serial_stack.proofs.Rows.{either_one}
use Rattle.laws_strands.specs.stacks.Footprint.{Footprint, put}
use Rattle.strand.specs.CellsKept.{HoldsOwn, ShowsKept}
use Rattle.strand.specs.Layouts.{OwnsNone, Segment}
use Rattle.strand.specs.OwnCells.{own_cell}
use Rattle.strand.specs.declared.cells.StrandCells.{StrandCells}
use Rattle.strand.proofs.Over.{apart_of}

-- what a cell of which nothing is known holds, it held first
not_met_holds : (f : Footprint) (c : Cell) (now : Option ℤ) → f.reads c ≡ None → f.writes c ≡ None → IsSome now → HoldsOwn f c (or_zero now) now
not_met_holds f c now reads writes there = record {
  read = λ v e. absurd (let bad : None ≡ Some v = sym reads ∙ e in cc);
  is = known now there ∙ ap (λ u. put u (Some (or_zero now))) (sym writes);
  there = there;
  delta = λ z e. reads;
}
  where
    known : (o : Option ℤ) → IsSome o → o ≡ Some (or_zero o)
    known None some = absurd cc
    known (Some v) some = refl

module _ (l k : Layout) (s : Segment) (home : ℕ) (p : Path) (sizes : List ℕ) (first : Cell → ℤ) (f : Footprint) (x : StrandCells) where
  abbrev more : Layout
  more = with_allocas p sizes home k

  -- a new frame's cells hold first what the segment's hold now
  abbrev pub first_now : Cell → ℤ
  first_now c = cond (owns p c.object) (or_zero (own_cell x (address more c))) (first c)

  pub called_kept : OwnsNone k p → ((c : Cell) → owns p c.object ≡ true → (f.reads c ≡ None) × (f.writes c ≡ None)) → ((c : Cell) → (IsIn l c → ⊥) → IsIn more c → IsSome (own_cell x (address more c))) → ShowsKept l k first f x → ShowsKept l more first_now f x
  called_kept none new there kept = record {
    log = kept.log;
    own = λ c out here. elim (either_one p sizes home k c.object c.index here) [
      | inl t ↦
          let mine : owns p c.object ≡ true = ap (owns p) t.object ∙ same_path_itself p in
          let n = new c mine in
          subst (λ (z : ℤ). HoldsOwn f c z (own_cell x (address more c))) (sym (ap (λ (b : Bool). cond b (or_zero (own_cell x (address more c))) (first c)) mine)) (not_met_holds f c (own_cell x (address more c)) n.0 n.1 (there c out here))
      | inr t ↦
          let away = none c t.within in
          subst (λ (z : ℤ). HoldsOwn f c z (own_cell x (address more c))) (sym (ap (λ (b : Bool). cond b (or_zero (own_cell x (address more c))) (first c)) away))
          (subst (λ (a : ℤ). HoldsOwn f c (first c) (own_cell x a)) (sym (address_apart p sizes home k c (apart_of p c.object away))) (kept.own c out t.within))
    ];
    gone = λ c out. kept.gone c (λ here. out (in_apart p sizes home k c (apart_of p c.object (none c here)) here));
  }

-- the end of the cells as an address
pub end_address : (end limit : ℕ) → end ≤ limit → limit < 9223372036854775808 → cast_signed w64 end ≡ pos end
end_address end limit low small = let fit : end < 9223372036854775808 = omega (arith, low, small) in search (rules, fit)
