-- Looking up an address finds its entry, and a change is kept there.
use Rattle.std.proofs.Common.{◌≡◌, ◌≢◌, ℕ, zero, suc, List, [], ◌∷◌, ◌++◌, length, map, refl, ap, sym, ◌∙◌, arith, cond, ℤ, Bool, true, false, Option, Some, None, inl, inr, ◌⊎◌}
use Rattle.std.specs.Prelude.{eqb, find, slice_get, slice_set}
use Rattle.std.specs.Option.{option_map}
use Rattle.std.specs.Ordering.{int_eq}
use Rattle.std.proofs.lemmas.Bool.Decides.{Decides-int_eq, eqb_tells}
use Rattle.std.proofs.lemmas.List.{map-append}
use Rattle.std.proofs.lemmas.Option.{same_Some, slice_get_within, slice_get-map}
use Rattle.frame_strand.specs.Buffers.{change_in, value_in, with_change}
use Rattle.frame_strand.specs.Keeping.{AreDifferent}
use Rattle.frame_strand.specs.declared.cells.Read.{Read}
use Rattle.frame_strand.specs.declared.cells.Written.{Written}
use Rattle.frame_strand.specs.declared.cells.Change.{Change}
use Rattle.frame_strand.proofs.Chained.{get_before, get_last, length_push}

pub int_tells : (a b : ℤ) → ((int_eq a b ≡ true) × (a ≡ b)) ⊎ ((int_eq a b ≡ false) × (a ≢ b))
int_tells a b = from (int_eq a b) refl
  where
    from : (t : Bool) → int_eq a b ≡ t → ((int_eq a b ≡ true) × (a ≡ b)) ⊎ ((int_eq a b ≡ false) × (a ≢ b))
    from true e = inl (e, (Decides-int_eq a b).0 e)
    from false e = inr (e, λ q. let t : int_eq a b ≡ true = (Decides-int_eq a b).1 q in cc)

cond_true : {X : Type 0} (b : Bool) (x y : X) → b ≡ true → cond b x y ≡ x
cond_true b x y e = ap (λ (t : Bool). cond t x y) e

cond_false : {X : Type 0} (b : Bool) (x y : X) → b ≡ false → cond b x y ≡ y
cond_false b x y e = ap (λ (t : Bool). cond t x y) e

different_tail : (a : ℤ) (xs : List ℤ) → AreDifferent (a ∷ xs) → AreDifferent xs
different_tail a xs d i j x h k = let e = d (suc i) (suc j) x h k in omega arith

pub different_none : AreDifferent []
different_none i j a h k = absurd cc

pub different_push : (xs : List ℤ) (a : ℤ) → AreDifferent xs → ((i : ℕ) → slice_get xs i ≢ Some a) → AreDifferent (xs ++ a ∷ [])
different_push xs a d new i j x h k = from (eqb_tells i (length xs)) (eqb_tells j (length xs))
  where
    at : (n : ℕ) → slice_get (xs ++ a ∷ []) n ≡ Some x → n ≢ length xs → slice_get xs n ≡ Some x
    at n g ne = let lt = slice_get_within (xs ++ a ∷ []) n x g in let more = length_push xs a in sym (get_before xs a n (omega (arith, ne))) ∙ g

    last : (n : ℕ) → slice_get (xs ++ a ∷ []) n ≡ Some x → n ≡ length xs → a ≡ x
    last n g e = same_Some a x (sym (get_last xs a) ∙ sym (ap (slice_get (xs ++ a ∷ [])) e) ∙ g)

    from : ((eqb i (length xs) ≡ true) × (i ≡ length xs)) ⊎ ((eqb i (length xs) ≡ false) × (i ≢ length xs)) → ((eqb j (length xs) ≡ true) × (j ≡ length xs)) ⊎ ((eqb j (length xs) ≡ false) × (j ≢ length xs)) → i ≡ j
    from (inl p) (inl q) = p.1 ∙ sym q.1
    from (inl p) (inr q) = absurd (new j (at j k q.1 ∙ ap (λ z. Some z) (sym (last i h p.1))))
    from (inr p) (inl q) = absurd (new i (at i h p.1 ∙ ap (λ z. Some z) (sym (last j k q.1))))
    from (inr p) (inr q) = d i j x (at i h p.1) (at j k q.1)

-- ---- look-ups among entries with a key

module _ {X : Type 0} (key : X → ℤ) where
  pub found : (xs : List X) (i : ℕ) (x : X) (a : ℤ) → slice_get xs i ≡ Some x → key x ≡ a → AreDifferent (map key xs) → find (λ (y : X). int_eq a (key y)) xs ≡ Some x
  found [] i x a h e d = absurd cc
  found (y ∷ ys) zero x a h e d =
      let same = same_Some y x h in
      let yes : int_eq a (key y) ≡ true = (Decides-int_eq a (key y)).1 (sym e ∙ ap key (sym same)) in
      rw yes h
  found (y ∷ ys) (suc i) x a h e d = from (int_tells a (key y)) (found ys i x a h e)
    where
      from : ((int_eq a (key y) ≡ true) × (a ≡ key y)) ⊎ ((int_eq a (key y) ≡ false) × (a ≢ key y)) → (AreDifferent (map key ys) → find (λ (z : X). int_eq a (key z)) ys ≡ Some x) → cond (int_eq a (key y)) (Some y) (find (λ (z : X). int_eq a (key z)) ys) ≡ Some x
      from (inl q) rest =
          let there : slice_get (map key ys) i ≡ Some a = slice_get-map key ys i ∙ ap (option_map key) h ∙ ap (λ z. Some z) e in
          let never = d 0 (suc i) a (ap (λ z. Some z) (sym q.1)) there in
          absurd (omega arith)
      from (inr q) rest = let no = q.0 in rw no (rest (different_tail (key y) (map key ys) d))

  pub absent : (xs : List X) (a : ℤ) → ((i : ℕ) → slice_get (map key xs) i ≢ Some a) → find (λ (y : X). int_eq a (key y)) xs ≡ None
  absent [] a n = refl
  absent (y ∷ ys) a n = from (int_tells a (key y)) (absent ys a (λ i. n (suc i)))
    where
      from : ((int_eq a (key y) ≡ true) × (a ≡ key y)) ⊎ ((int_eq a (key y) ≡ false) × (a ≢ key y)) → find (λ (z : X). int_eq a (key z)) ys ≡ None → cond (int_eq a (key y)) (Some y) (find (λ (z : X). int_eq a (key z)) ys) ≡ None
      from (inl q) rest = absurd (n 0 (ap (λ z. Some z) (sym q.1)))
      from (inr q) rest = let no = q.0 in rw no rest

  -- what is not found does not stand there
  pub unlisted : (xs : List X) (a : ℤ) → find (λ (y : X). int_eq a (key y)) xs ≡ None → (i : ℕ) → slice_get (map key xs) i ≢ Some a
  unlisted [] a n i h = absurd cc
  unlisted (y ∷ ys) a n i h = from (int_tells a (key y)) n (unlisted ys a) i h
    where
      from : ((int_eq a (key y) ≡ true) × (a ≡ key y)) ⊎ ((int_eq a (key y) ≡ false) × (a ≢ key y)) → cond (int_eq a (key y)) (Some y) (find (λ (z : X). int_eq a (key z)) ys) ≡ None → (find (λ (z : X). int_eq a (key z)) ys ≡ None → (i : ℕ) → slice_get (map key ys) i ≢ Some a) → (i : ℕ) → slice_get (key y ∷ map key ys) i ≢ Some a
      from (inl q) none on i g = let bad : Some y ≡ None = sym (cond_true (int_eq a (key y)) (Some y) (find (λ (z : X). int_eq a (key z)) ys) q.0) ∙ none in cc
      from (inr q) none on zero g = q.1 (sym (same_Some (key y) a g))
      from (inr q) none on (suc i) g = let no = q.0 in on (sym (cond_false (int_eq a (key y)) (Some y) (find (λ (z : X). int_eq a (key z)) ys) no) ∙ none) i g

  pub key_there : (xs : List X) (i : ℕ) (a : ℤ) → slice_get (map key xs) i ≡ Some a → (x : X) × (slice_get xs i ≡ Some x) × (key x ≡ a)
  key_there [] i a h = absurd cc
  key_there (x ∷ xs) zero a h = (x, refl, same_Some (key x) a h)
  key_there (x ∷ xs) (suc i) a h = key_there xs i a h

  pub keys_set : (xs : List X) (i : ℕ) (x y : X) → slice_get xs i ≡ Some x → key y ≡ key x → map key (slice_set xs i y) ≡ map key xs
  keys_set [] i x y h e = refl
  keys_set (z ∷ xs) zero x y h e = ap (λ k. k ∷ map key xs) (e ∙ ap key (sym (same_Some z x h)))
  keys_set (z ∷ xs) (suc i) x y h e = ap (λ l. key z ∷ l) (keys_set xs i x y h e)

  pub keys_push : (xs : List X) (x : X) → map key (xs ++ x ∷ []) ≡ map key xs ++ key x ∷ []
  keys_push xs x = map-append key xs (x ∷ [])

-- ---- changes

pub change_at : (ws : List Written) (i : ℕ) (w : Written) (a : ℤ) → slice_get ws i ≡ Some w → w.at ≡ a → AreDifferent (map (λ (x : Written). x.at) ws) → change_in ws a ≡ Some w.change
change_at ws i w a h e d = ap (option_map (λ (x : Written). x.change)) (found (λ (x : Written). x.at) ws i w a h e d)

pub change_absent : (ws : List Written) (a : ℤ) → ((i : ℕ) → slice_get (map (λ (x : Written). x.at) ws) i ≢ Some a) → change_in ws a ≡ None
change_absent ws a n = ap (option_map (λ (x : Written). x.change)) (absent (λ (x : Written). x.at) ws a n)

pub value_at : (rs : List Read) (i : ℕ) (r : Read) (a : ℤ) → slice_get rs i ≡ Some r → r.at ≡ a → AreDifferent (map (λ (x : Read). x.at) rs) → value_in rs a ≡ Some r.value
value_at rs i r a h e d = ap (option_map (λ (x : Read). x.value)) (found (λ (x : Read). x.at) rs i r a h e d)

pub value_absent : (rs : List Read) (a : ℤ) → ((i : ℕ) → slice_get (map (λ (x : Read). x.at) rs) i ≢ Some a) → value_in rs a ≡ None
value_absent rs a n = ap (option_map (λ (x : Read). x.value)) (absent (λ (x : Read). x.at) rs a n)

unmapped : {X Y : Type 0} (f : X → Y) (o : Option X) → option_map f o ≡ None → o ≡ None
unmapped f None e = refl
unmapped f (Some x) e = absurd cc

pub value_unlisted : (rs : List Read) (a : ℤ) → value_in rs a ≡ None → (i : ℕ) → slice_get (map (λ (x : Read). x.at) rs) i ≢ Some a
value_unlisted rs a e = unlisted (λ (x : Read). x.at) rs a (unmapped (λ (x : Read). x.value) (find (λ (x : Read). int_eq a x.at) rs) e)

pub change_unlisted : (ws : List Written) (a : ℤ) → change_in ws a ≡ None → (i : ℕ) → slice_get (map (λ (x : Written). x.at) ws) i ≢ Some a
change_unlisted ws a e = unlisted (λ (x : Written). x.at) ws a (unmapped (λ (x : Written). x.change) (find (λ (x : Written). int_eq a x.at) ws) e)

pub set_changes : (ws : List Written) (i : ℕ) (w : Written) (a : ℤ) (u : Change) → slice_get ws i ≡ Some w → w.at ≡ a → AreDifferent (map (λ (x : Written). x.at) ws) → slice_set ws i (record { at = a; change = u }) ≡ with_change ws a u
set_changes [] i w a u h e d = absurd cc
set_changes (y ∷ ys) zero w a u h e d =
    let same : y.at ≡ a = ap (λ (x : Written). x.at) (same_Some y w h) ∙ e in
    let yes : int_eq a y.at ≡ true = (Decides-int_eq a y.at).1 (sym same) in
    rw yes (ap (λ (k : ℤ). record { at = k; change = u } ∷ ys) (sym same))
set_changes (y ∷ ys) (suc i) w a u h e d = from (int_tells a y.at) (set_changes ys i w a u h e)
  where
    from : ((int_eq a y.at ≡ true) × (a ≡ y.at)) ⊎ ((int_eq a y.at ≡ false) × (a ≢ y.at)) → (AreDifferent (map (λ (x : Written). x.at) ys) → slice_set ys i (record { at = a; change = u }) ≡ with_change ys a u) → y ∷ slice_set ys i (record { at = a; change = u }) ≡ cond (int_eq a y.at) (record y { change = u } ∷ ys) (y ∷ with_change ys a u)
    from (inl q) rest =
        let there : slice_get (map (λ (x : Written). x.at) ys) i ≡ Some a = slice_get-map (λ (x : Written). x.at) ys i ∙ ap (option_map (λ (x : Written). x.at)) h ∙ ap (λ z. Some z) e in
        let never = d 0 (suc i) a (ap (λ z. Some z) (sym q.1)) there in
        absurd (omega arith)
    from (inr q) rest = let no = q.0 in rw no (ap (λ l. y ∷ l) (rest (different_tail y.at (map (λ (x : Written). x.at) ys) d)))

pub push_changes : (ws : List Written) (a : ℤ) (u : Change) → change_in ws a ≡ None → ws ++ record { at = a; change = u } ∷ [] ≡ with_change ws a u
push_changes [] a u n = refl
push_changes (y ∷ ys) a u n = from (int_tells a y.at) n (push_changes ys a u)
  where
    from : ((int_eq a y.at ≡ true) × (a ≡ y.at)) ⊎ ((int_eq a y.at ≡ false) × (a ≢ y.at)) → option_map (λ (w : Written). w.change) (cond (int_eq a y.at) (Some y) (find (λ (w : Written). int_eq a w.at) ys)) ≡ None → (change_in ys a ≡ None → ys ++ record { at = a; change = u } ∷ [] ≡ with_change ys a u) → y ∷ (ys ++ record { at = a; change = u } ∷ []) ≡ cond (int_eq a y.at) (record y { change = u } ∷ ys) (y ∷ with_change ys a u)
    from (inl q) none rest = let bad : Some y.change ≡ None = sym (ap (option_map (λ (w : Written). w.change)) (cond_true (int_eq a y.at) (Some y) (find (λ (w : Written). int_eq a w.at) ys) q.0)) ∙ none in absurd cc
    from (inr q) none rest = let no = q.0 in rw no (ap (λ l. y ∷ l) (rest (sym (ap (option_map (λ (w : Written). w.change)) (cond_false (int_eq a y.at) (Some y) (find (λ (w : Written). int_eq a w.at) ys) q.0)) ∙ none)))

pub change_with : (ws : List Written) (a : ℤ) (u : Change) (b : ℤ) → change_in (with_change ws a u) b ≡ cond (int_eq b a) (Some u) (change_in ws b)
change_with [] a u b = from (int_eq b a)
  where
    from : (t : Bool) → option_map (λ (w : Written). w.change) (cond t (Some (record { at = a; change = u })) None) ≡ cond t (Some u) None
    from true = refl
    from false = refl
change_with (y ∷ ys) a u b = from (int_tells a y.at) (int_tells b a) (int_tells b y.at) (change_with ys a u b)
  where
    from : ((int_eq a y.at ≡ true) × (a ≡ y.at)) ⊎ ((int_eq a y.at ≡ false) × (a ≢ y.at)) → ((int_eq b a ≡ true) × (b ≡ a)) ⊎ ((int_eq b a ≡ false) × (b ≢ a)) → ((int_eq b y.at ≡ true) × (b ≡ y.at)) ⊎ ((int_eq b y.at ≡ false) × (b ≢ y.at)) →
        change_in (with_change ys a u) b ≡ cond (int_eq b a) (Some u) (change_in ys b) →
        change_in (cond (int_eq a y.at) (record y { change = u } ∷ ys) (y ∷ with_change ys a u)) b ≡ cond (int_eq b a) (Some u) (change_in (y ∷ ys) b)
    from (inl p) (inl q) (inl r) rest = let e1 = p.0 in let e2 = q.0 in let e3 = r.0 in rw (e1, e2, e3) refl
    from (inl p) (inl q) (inr r) rest = absurd (r.1 (q.1 ∙ p.1))
    from (inl p) (inr q) (inl r) rest = absurd (q.1 (r.1 ∙ sym p.1))
    from (inl p) (inr q) (inr r) rest = let e1 = p.0 in let e2 = q.0 in let e3 = r.0 in rw (e1, e2, e3) refl
    from (inr p) (inl q) (inl r) rest = absurd (p.1 (sym q.1 ∙ r.1))
    from (inr p) (inl q) (inr r) rest = let e1 = p.0 in let e2 = q.0 in let e3 = r.0 in rw (e1, e3) rest
    from (inr p) (inr q) (inl r) rest = let e1 = p.0 in let e2 = q.0 in let e3 = r.0 in rw (e1, e2, e3) refl
    from (inr p) (inr q) (inr r) rest = let e1 = p.0 in let e2 = q.0 in let e3 = r.0 in rw (e1, e3) rest

pub value_push : (rs : List Read) (a v b : ℤ) → b ≢ a → value_in (rs ++ record { at = a; value = v } ∷ []) b ≡ value_in rs b
value_push [] a v b ne = ap (λ t. option_map (λ (r : Read). r.value) (cond t (Some (record { at = a; value = v })) None)) (no (int_tells b a))
  where
    no : ((int_eq b a ≡ true) × (b ≡ a)) ⊎ ((int_eq b a ≡ false) × (b ≢ a)) → int_eq b a ≡ false
    no (inl q) = absurd (ne q.1)
    no (inr q) = q.0
value_push (r ∷ rs) a v b ne = from (int_eq b r.at) (value_push rs a v b ne)
  where
    from : (t : Bool) → value_in (rs ++ record { at = a; value = v } ∷ []) b ≡ value_in rs b → option_map (λ (r : Read). r.value) (cond t (Some r) (find (λ (x : Read). int_eq b x.at) (rs ++ record { at = a; value = v } ∷ []))) ≡ option_map (λ (r : Read). r.value) (cond t (Some r) (find (λ (x : Read). int_eq b x.at) rs))
    from true e = refl
    from false e = e
