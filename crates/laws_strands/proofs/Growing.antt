-- What a footprint puts into memory, as it grows.
use Rattle.std.proofs.Common.{◌≡◌, List, [], ◌∷◌, Option, Some, None, Bool, true, false, cond, ◌⊎◌, inl, inr, refl, sym, ap, ◌∙◌, arith, is_some, ℤ, ◌+ℤ◌}
use Rattle.std.proofs.lemmas.Int.{ints, int_wrap-add_left, int_wrap-add_right}
use Rattle.std.proofs.lemmas.List.Elements.{All-head, All-tail}
use Rattle.std.specs.Int.{w64, int_wrap}
use Rattle.std.specs.List.{All}
use Rattle.std.specs.Map.{lookup}
use Rattle.semantics.specs.Cells.{Cell, Memory, same_cell}
use Rattle.semantics.specs.Arithmetic.{cell_sum}
use Rattle.semantics.specs.Effect.{Effect}
use Rattle.semantics.specs.State.{override, sum_in, added}
use Rattle.semantics.proofs.Actions.{same_cell_itself}
use Rattle.laws_strands.specs.Footprint.{Write, Stored, Delta, Footprint, read_at, write_at, known, held, raised, settled, with_read, put}
use Rattle.laws_strands.specs.FrameStrands.{Access, Nowhere, Loads, Stores, Adds, footprint_after}
use Rattle.semantics.proofs.SameCells.{same_cell_is, same_cell_tells, same_cell_back}
use Rattle.laws_strands.proofs.Footprints.{lookup_with_write}
use Rattle.laws_strands.proofs.Items.{Touches}

-- the memory holds what was read
abbrev pub Agrees : Memory → Footprint → Type 0
Agrees m f = All (λ r. m r.0 ≡ Some r.1) f.reads

read_agrees : (m : Memory) (reads : List (Cell × ℤ)) → All (λ r. m r.0 ≡ Some r.1) reads → (x : Cell) (v : ℤ) → lookup (same_cell x) reads ≡ Some v → m x ≡ Some v
read_agrees m [] all x v e = absurd (cc)
read_agrees m (r ∷ reads) all x v e = from (same_cell x r.0) refl e (read_agrees m reads (All-tail (λ r. m r.0 ≡ Some r.1) r reads all) x v)
  where
    from : (b : Bool) → same_cell x r.0 ≡ b → cond b (Some r.1) (lookup (same_cell x) reads) ≡ Some v → (lookup (same_cell x) reads ≡ Some v → m x ≡ Some v) → m x ≡ Some v
    from true is h rest = ap m (same_cell_is x r.0 is) ∙ All-head (λ r. m r.0 ≡ Some r.1) r reads all ∙ h
    from false is h rest = rest h

pub agrees_at : (m : Memory) (f : Footprint) → Agrees m f → (x : Cell) (v : ℤ) → read_at f x ≡ Some v → m x ≡ Some v
agrees_at m f all x v e = read_agrees m f.reads all x v e

-- ---- what is held is what the memory will hold

known_put : (u : Option Write) (r v : Option ℤ) (y : ℤ) → ((y : ℤ) → r ≡ Some y → v ≡ Some y) → known u r ≡ Some y → put u v ≡ Some y
known_put None r v y agrees e = agrees y e
known_put (Some (Stored z)) r v y agrees e = e
known_put (Some (Delta z)) r v y agrees e = absurd (cc)

pub held_put : (m : Memory) (f : Footprint) → Agrees m f → (x : Cell) (y : ℤ) → held f x ≡ Some y → put (write_at f x) (m x) ≡ Some y
held_put m f all x y e = known_put (write_at f x) (read_at f x) (m x) y (agrees_at m f all x) e

-- ---- a cell is read

pub put_read : (m : Memory) (f : Footprint) (c : Cell) (v : ℤ) (x : Cell) → m c ≡ Some v → put (write_at (with_read f c v) x) (m x) ≡ put (write_at f x) (m x)
put_read m f c v x has = from (write_at f c) refl
  where
    here : (z : ℤ) → write_at f c ≡ Some (Delta z) → (b : Bool) → same_cell x c ≡ b → put (cond b (Some (Stored (cell_sum v z))) (write_at f x)) (m x) ≡ put (write_at f x) (m x)
    here z is false e = refl
    here z is true e =
        let same : x ≡ c = same_cell_is x c e in
        let there : write_at f x ≡ Some (Delta z) = ap (λ y. write_at f y) same ∙ is in
        let value : m x ≡ Some v = ap m same ∙ has in
        rw (there, value)

    from : (o : Option Write) → write_at f c ≡ o → put (lookup (same_cell x) (settled f.writes c v o)) (m x) ≡ put (write_at f x) (m x)
    from None is = refl
    from (Some (Stored z)) is = refl
    from (Some (Delta z)) is = ap (λ o. put o (m x)) (lookup_with_write f.writes c (Stored (cell_sum v z)) x) ∙ here z is (same_cell x c) refl

-- ---- an instruction is done

joined : (n y z : ℤ) → (n +ℤ y) +ℤ z ≡ n +ℤ (y +ℤ z)
joined n y z = omega (arith, ints)

sums_join : (n y z : ℤ) → cell_sum (cell_sum n y) z ≡ cell_sum n (cell_sum y z)
sums_join n y z = int_wrap-add_left w64 (n +ℤ y) z ∙ (ap (λ x. int_wrap w64 x) (joined n y z) ∙ sym (int_wrap-add_right w64 n (y +ℤ z)))

put_raised : (z : ℤ) (u : Option Write) (r v : Option ℤ) → ((y : ℤ) → r ≡ Some y → v ≡ Some y) → sum_in z (put u v) ≡ put (Some (raised z u r)) v
put_raised z (Some (Stored y)) r v agrees = refl
put_raised z (Some (Delta y)) r None agrees = refl
put_raised z (Some (Delta y)) r (Some n) agrees = ap Some (sums_join n y z)
put_raised z None (Some y) v agrees = let is : v ≡ Some y = agrees y refl in rw is
put_raised z None None v agrees = refl

pub put_after : (m : Memory) (f : Footprint) (a : Access) (e : Effect) → Agrees m f → Touches a e → (x : Cell) → added (e.adds x) (override (e.writes x) (put (write_at f x) (m x))) ≡ put (write_at (footprint_after f a e) x) (m x)
put_after m f Nowhere e all t x = let w = t.writes x in let a = t.adds x in rw (w, a)
put_after m f (Loads c) e all (r, w, a) x = let w2 = w x in let a2 = a x in rw (w2, a2)
put_after m f (Stores c) e all (z, r, w, a) x =
    let w1 : e.writes c ≡ Some (Some z) = rw (w c) (rw (same_cell_itself c)) in
    rw (w1, w x, a x, lookup_with_write f.writes c (Stored z) x, same_cell_back x c) (from (same_cell c x))
  where
    from : (b : Bool) → override (cond b (Some (Some z)) None) (put (write_at f x) (m x)) ≡ put (cond b (Some (Stored z)) (write_at f x)) (m x)
    from true = refl
    from false = refl
put_after m f (Adds c) e all (z, r, w, a) x =
    let a1 : e.adds c ≡ Some z = rw (a c) (rw (same_cell_itself c)) in
    rw (a1, w x, a x, lookup_with_write f.writes c (raised z (write_at f c) (read_at f c)) x) (from (same_cell_tells c x))
  where
    from : ((same_cell c x ≡ true) × (c ≡ x)) ⊎ (same_cell c x ≡ false) → added (cond (same_cell c x) (Some z) None) (put (write_at f x) (m x)) ≡ put (cond (same_cell x c) (Some (raised z (write_at f c) (read_at f c))) (write_at f x)) (m x)
    from (inl h) =
        let back : same_cell x c ≡ true = sym (same_cell_back c x) ∙ h.0 in
        rw (h.0, back) (put_raised z (write_at f x) (read_at f x) (m x) (agrees_at m f all x) ∙ ap (λ y. put (Some (raised z (write_at f y) (read_at f y))) (m x)) (sym h.1))
    from (inr h) =
        let back : same_cell x c ≡ false = sym (same_cell_back c x) ∙ h in
        rw (h, back)

-- ---- where values are

pub put_some : (u : Option Write) (v : Option ℤ) → is_some v ≡ true → is_some (put u v) ≡ true
put_some u None e = absurd (cc)
put_some None (Some y) e = refl
put_some (Some (Stored z)) (Some y) e = refl
put_some (Some (Delta z)) (Some y) e = refl

pub raised_some : (z y : ℤ) (u : Option Write) (r v : Option ℤ) → raised z u r ≡ Delta y → is_some (put u v) ≡ true → is_some v ≡ true
raised_some z y (Some (Stored x)) r v e h = absurd (cc)
raised_some z y (Some (Delta x)) r None e h = absurd (cc)
raised_some z y (Some (Delta x)) r (Some n) e h = refl
raised_some z y None r v e h = h

-- what is not held has a value in memory, where it has one with what was written
pub value_beneath : (u : Option Write) (r v : Option ℤ) → known u r ≡ None → is_some (put u v) ≡ true → is_some v ≡ true
value_beneath None r v e h = h
value_beneath (Some (Stored z)) r v e h = absurd (cc)
value_beneath (Some (Delta z)) r None e h = h
value_beneath (Some (Delta z)) r (Some n) e h = refl
