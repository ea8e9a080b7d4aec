-- What a strand's cells may hold, and what an access does, by whether the cell is one of the segment.
use Rattle.std.proofs.Common.{◌≡◌, ◌≢◌, ℕ, zero, suc, ◌+◌, ◌<◌, List, [], ◌∷◌, length, refl, ap, sym, ◌∙◌, subst, arith, ℤ, pos, negsuc, ◌-ℤ◌, Option, Some, None}
use Rattle.std.specs.Prelude.{slice_get, slice_set}
use Rattle.std.proofs.lemmas.Int.{ints}
use Rattle.std.proofs.lemmas.Option.{same_Some}
use Rattle.frame.proofs.Changes.{get_other, get_set}
use Rattle.semantics.specs.Arithmetic.{cell_sum}
use Rattle.frame_engine.specs.Access.{Access}
use Rattle.frame_engine.specs.Flat.{cell_in}
use Rattle.strand.specs.frame_strand.declared.cells.CellStop.{CellStop}
use Rattle.strand_pages.specs.Accessing.{CellHolds, TableDoes, TableRefuses}
use Rattle.strand_pages.specs.Logs.{value_at}
use Rattle.strand_pages.specs.Tables.{Table, log_of}
use Rattle.strand.specs.OwnCells.{CellsDo, CellsRefuse, DoBy, IsOwnPut, OwnDo, RefuseBy, address_of, may_be, own_cell, own_or}
use Rattle.strand.specs.declared.cells.StrandCells.{StrandCells}

-- ---- a cell of the segment

pub own_place : (x : StrandCells) (a : ℤ) (place : ℕ) → a ≡ pos (x.start + place) → own_cell x a ≡ slice_get x.own.items place
own_place x a place is = let at : a -ℤ pos x.start ≡ pos place = omega (arith, ints, is) in ap (cell_in x.own.items) at

there : (xs : List ℤ) (n : ℕ) → n < length xs → (v : ℤ) × (slice_get xs n ≡ Some v)
there [] n lt = absurd (omega (arith, lt))
there (x ∷ xs) zero lt = (x, refl)
there (x ∷ xs) (suc n) lt = there xs n (omega (arith, lt))

pub own_there : (x : StrandCells) (a : ℤ) (place : ℕ) → a ≡ pos (x.start + place) → place < length x.own.items → (v : ℤ) × (own_cell x a ≡ Some v)
own_there x a place is within = let (v, here) = there x.own.items place within in (v, own_place x a place is ∙ here)

pub set_long : (xs : List ℤ) (n : ℕ) (z : ℤ) → length (slice_set xs n z) ≡ length xs
set_long [] n z = refl
set_long (x ∷ xs) zero z = refl
set_long (x ∷ xs) (suc n) z = ap suc (set_long xs n z)

pub own_put : (x after : StrandCells) (a z : ℤ) (place : ℕ) → a ≡ pos (x.start + place) → place < length x.own.items → after.own.items ≡ slice_set x.own.items place z → after.start ≡ x.start → after.log ≡ x.log → IsOwnPut x a z after
own_put x after a z place is within items start log = record {
  here =
      let at : a -ℤ pos after.start ≡ pos place = omega (arith, ints, is, start) in
      ap (cell_in after.own.items) at ∙ ap (λ (xs : List ℤ). slice_get xs place) items ∙ get_set x.own.items place z within;
  others = λ b other.
      (λ i. cell_in (items i) (b -ℤ pos (start i))) ∙ from (b -ℤ pos x.start) (λ n e same. other (let at : b ≡ a = omega (arith, ints, is, e, same) in at));
  segment = (λ i. record { start = start i; count = length (items i) }) ∙ ap (λ (n : ℕ). record { start = x.start; count = n }) (set_long x.own.items place z);
  log = log;
}
  where
    from : (c : ℤ) → ((n : ℕ) → c ≡ pos n → n ≡ place → ⊥) → cell_in (slice_set x.own.items place z) c ≡ cell_in x.own.items c
    from (pos n) away = get_other x.own.items place n z (λ e. away n refl e)
    from (negsuc n) away = refl

-- it holds just its number
pub own_holds : (x : StrandCells) (a n : ℤ) → own_cell x a ≡ Some n → may_be x a n
own_holds x a n is v e = sym (same_Some n v (sym (ap (λ o. own_or o (value_at (log_of x.log) a)) is) ∙ e))

pub own_value : (x : StrandCells) (a n z : ℤ) → own_cell x a ≡ Some n → may_be x a z → n ≡ z
own_value x a n z is may = may n (ap (λ o. own_or o (value_at (log_of x.log) a)) is)

pub put_others : (x after : StrandCells) (a n b z : ℤ) → IsOwnPut x a n after → b ≢ a → may_be x b z → may_be after b z
put_others x after a n b z done other may v e = may v ((λ i. own_or (sym (done.others b other) i) (value_at (log_of (sym done.log i)) b)) ∙ e)

pub own_sum : (x after : StrandCells) (a n v z : ℤ) → own_cell x a ≡ Some v → IsOwnPut x a (cell_sum v n) after → may_be x a z → may_be after a (cell_sum z n)
own_sum x after a n v z is done may = subst (λ (y : ℤ). may_be after a (cell_sum y n)) (own_value x a v z is may) (own_holds after a (cell_sum v n) done.here)

pub own_does : (x after : StrandCells) (access : Access) (v : ℤ) → own_cell x (address_of access) ≡ Some v → OwnDo x v access after → CellsDo x access after
own_does x after access v is done = subst (λ o. DoBy o x access after) (sym is) done

-- ---- another one

pub log_value : (x : StrandCells) (a z : ℤ) → own_cell x a ≡ None → may_be x a z → CellHolds x.log a z
log_value x a z none may v e = may v (ap (λ o. own_or o (value_at (log_of x.log) a)) none ∙ e)

pub log_holds : (x : StrandCells) (b : Table) (a z : ℤ) → own_cell x a ≡ None → CellHolds b a z → may_be (record x { log = b }) a z
log_holds x b a z none may v e = may v (sym (ap (λ o. own_or o (value_at (log_of b) a)) none) ∙ e)

-- any cell, where the log holds at it what it held
pub log_others : (x : StrandCells) (b : Table) (a z : ℤ) → (CellHolds x.log a z → CellHolds b a z) → may_be x a z → may_be (record x { log = b }) a z
log_others x b a z kept = from (own_cell x a)
  where
    from : (o : Option ℤ) → ((v : ℤ) → own_or o (value_at (log_of x.log) a) ≡ Some v → v ≡ z) → (v : ℤ) → own_or o (value_at (log_of b) a) ≡ Some v → v ≡ z
    from (Some u) may v e = may v e
    from None may v e = kept may v e

pub log_does : (x : StrandCells) (b : Table) (access : Access) → own_cell x (address_of access) ≡ None → TableDoes x.log access b → CellsDo x access (record x { log = b })
log_does x b access none done = subst (λ o. DoBy o x access (record x { log = b })) (sym none) (done, refl)

pub log_refuses : (x : StrandCells) (access : Access) (stop : CellStop) → own_cell x (address_of access) ≡ None → TableRefuses x.log access stop → CellsRefuse x access stop
log_refuses x access stop none why = subst (λ o. RefuseBy o x access stop) (sym none) why
