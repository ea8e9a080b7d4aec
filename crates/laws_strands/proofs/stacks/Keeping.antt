-- What a footprint puts into memory, as it grows.
use Rattle.std.proofs.Common.{◌≡◌, Option, Some, None, Bool, true, false, cond, refl, sym, ap, ◌∙◌, arith, is_some, ℤ, ◌+ℤ◌}
use Rattle.std.proofs.lemmas.Int.{ints, int_wrap-add_left, int_wrap-add_right}
use Rattle.std.specs.Int.{w64, int_wrap}
use Rattle.semantics.specs.Cells.{Cell, Memory, same_cell}
use Rattle.semantics.specs.Arithmetic.{cell_sum}
use Rattle.semantics.specs.State.{override, sum_in, added}
use Rattle.semantics.proofs.SameCells.{same_cell_is}
use Rattle.semantics.proofs.Actions.{same_cell_itself}
use Rattle.laws_strands.specs.stacks.Footprint.{Write, Stored, Delta, Footprint, known, held, settled, with_read, stored, raised, added_to, with_writes, put}

-- the memory holds what was read
abbrev pub Agrees : Memory → Footprint → Type 0
Agrees m f = (x : Cell) (v : ℤ) → f.reads x ≡ Some v → m x ≡ Some v

-- ---- what is held is what the memory will hold

known_put : (u : Option Write) (r v : Option ℤ) (y : ℤ) → ((y : ℤ) → r ≡ Some y → v ≡ Some y) → known u r ≡ Some y → put u v ≡ Some y
known_put None r v y agrees e = agrees y e
known_put (Some (Stored z)) r v y agrees e = e
known_put (Some (Delta z)) r v y agrees e = absurd (cc)

pub held_put : (m : Memory) (f : Footprint) → Agrees m f → (x : Cell) (y : ℤ) → held f x ≡ Some y → put (f.writes x) (m x) ≡ Some y
held_put m f all x y e = known_put (f.writes x) (f.reads x) (m x) y (all x) e

-- ---- a cell is read

settled_put : (v : ℤ) (u : Option Write) → put (settled v u) (Some v) ≡ put u (Some v)
settled_put v None = refl
settled_put v (Some (Stored z)) = refl
settled_put v (Some (Delta z)) = refl

pub put_read : (m : Memory) (f : Footprint) (c : Cell) (v : ℤ) (x : Cell) → m c ≡ Some v → put ((with_read f c v).writes x) (m x) ≡ put (f.writes x) (m x)
put_read m f c v x has = from (same_cell c x) refl
  where
    from : (b : Bool) → same_cell c x ≡ b → put (cond b (settled v (f.writes x)) (f.writes x)) (m x) ≡ put (f.writes x) (m x)
    from false is = refl
    from true is = let value : m x ≡ Some v = ap m (sym (same_cell_is c x is)) ∙ has in rw value (settled_put v (f.writes x))

-- what was read before is read still
pub kept_read : (f : Footprint) (c : Cell) (v : ℤ) → f.reads c ≡ None → (x : Cell) (y : ℤ) → f.reads x ≡ Some y → (with_read f c v).reads x ≡ Some y
kept_read f c v new x y e = from (same_cell c x) refl
  where
    from : (b : Bool) → same_cell c x ≡ b → cond b (Some v) (f.reads x) ≡ Some y
    from false is = e
    from true is = absurd (let n : f.reads x ≡ None = ap f.reads (sym (same_cell_is c x is)) ∙ new in cc)

pub here_read : (f : Footprint) (c : Cell) (v : ℤ) → (with_read f c v).reads c ≡ Some v
here_read f c v = rw (same_cell_itself c)

-- what is read was read before, or here
pub read_back : {m : Memory} (f : Footprint) (c : Cell) (v : ℤ) → Agrees m f → m c ≡ Some v → Agrees m (with_read f c v)
read_back {m} f c v all has x y e = from (same_cell c x) refl e
  where
    from : (b : Bool) → same_cell c x ≡ b → cond b (Some v) (f.reads x) ≡ Some y → m x ≡ Some y
    from false is h = all x y h
    from true is h = ap m (sym (same_cell_is c x is)) ∙ has ∙ h

-- ---- cells are written and added to

joined : (n y z : ℤ) → (n +ℤ y) +ℤ z ≡ n +ℤ (y +ℤ z)
joined n y z = omega (arith, ints)

sums_join : (n y z : ℤ) → cell_sum (cell_sum n y) z ≡ cell_sum n (cell_sum y z)
sums_join n y z = int_wrap-add_left w64 (n +ℤ y) z ∙ (ap (λ x. int_wrap w64 x) (joined n y z) ∙ sym (int_wrap-add_right w64 n (y +ℤ z)))

put_raised : (z : ℤ) (u : Option Write) (r v : Option ℤ) → ((y : ℤ) → r ≡ Some y → v ≡ Some y) → sum_in z (put u v) ≡ put (Some (raised z u r)) v
put_raised z (Some (Stored y)) r v agrees = refl
put_raised z (Some (Delta y)) r None agrees = refl
put_raised z (Some (Delta y)) r (Some n) agrees = ap Some (sums_join n y z)
put_raised z None (Some y) v agrees = let is : v ≡ Some y = agrees y refl in rw is
put_raised z None None v agrees = refl

put_stored : (w : Option (Option ℤ)) (u : Option Write) (v : Option ℤ) → override w (put u v) ≡ put (stored w u) v
put_stored None u v = refl
put_stored (Some value) u v = refl

put_added : (a : Option ℤ) (u : Option Write) (r v : Option ℤ) → ((y : ℤ) → r ≡ Some y → v ≡ Some y) → added a (put u v) ≡ put (added_to a u r) v
put_added None u r v agrees = refl
put_added (Some z) u r v agrees = put_raised z u r v agrees

pub put_after : (m : Memory) (f : Footprint) (writes : Cell → Option (Option ℤ)) (adds : Cell → Option ℤ) → Agrees m f → (x : Cell) →
    added (adds x) (override (writes x) (put (f.writes x) (m x))) ≡ put ((with_writes f writes adds).writes x) (m x)
put_after m f writes adds all x =
    ap (λ o. added (adds x) o) (put_stored (writes x) (f.writes x) (m x)) ∙ put_added (adds x) (stored (writes x) (f.writes x)) (f.reads x) (m x) (all x)

-- ---- what deltas are added to

-- a delta after a cell was read was there before
pub delta_read : (f : Footprint) (c : Cell) (v : ℤ) (x : Cell) (z : ℤ) → (with_read f c v).writes x ≡ Some (Delta z) → f.writes x ≡ Some (Delta z)
delta_read f c v x z e = from (same_cell c x) (f.writes x) e
  where
    from : (b : Bool) (o : Option Write) → cond b (settled v o) o ≡ Some (Delta z) → o ≡ Some (Delta z)
    from false o h = h
    from true None h = h
    from true (Some (Stored y)) h = absurd (cc)
    from true (Some (Delta y)) h = absurd (cc)

-- what is not held has a value in memory, where it has one with what was written
pub value_beneath : (u : Option Write) (r v : Option ℤ) → known u r ≡ None → is_some (put u v) ≡ true → is_some v ≡ true
value_beneath None r v e h = h
value_beneath (Some (Stored None)) r v e h = absurd (cc)
value_beneath (Some (Stored (Some z))) r v e h = absurd (cc)
value_beneath (Some (Delta z)) r None e h = h
value_beneath (Some (Delta z)) r (Some n) e h = refl

-- a delta after writes and adds was there before, or what is added to is there
pub delta_after : (w : Option (Option ℤ)) (a : Option ℤ) (u : Option Write) (r v : Option ℤ) → (is_some a ≡ true → is_some (put u v) ≡ true) → ((z : ℤ) → u ≡ Some (Delta z) → is_some v ≡ true) →
    (z : ℤ) → added_to a (stored w u) r ≡ Some (Delta z) → is_some v ≡ true
delta_after None None u r v there before z e = before z e
delta_after (Some value) None u r v there before z e = absurd (cc)
delta_after (Some value) (Some y) u r v there before z e = absurd (cc)
delta_after None (Some y) None None v there before z e = there refl
delta_after None (Some y) None (Some x) v there before z e = absurd (cc)
delta_after None (Some y) (Some (Stored x)) r v there before z e = absurd (cc)
delta_after None (Some y) (Some (Delta x)) r v there before z e = before x refl
