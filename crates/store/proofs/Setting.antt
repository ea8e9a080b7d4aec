-- What a memory is after one cell took a value.
use Rattle.std.proofs.Common.{◌≡◌, ℕ, zero, suc, ◌<◌, ◌≤◌, List, [], ◌∷◌, length, Some, None, ℤ, refl, ap, sym, ◌∙◌, arith, subst, ◌⊎◌, inl, inr, ⊎_elim}
use Rattle.std.specs.Prelude.{◌≢◌, slice_get, slice_set, map, Bool, true, false, IsTrue, IsSome, is_some}
use Rattle.std.specs.Bool.{OnFalse, OnTrue, Decides}
use Rattle.std.proofs.lemmas.Bool.{OnTrue_at, OnFalse_at}
use Rattle.std.proofs.lemmas.Option.{slice_get_past}
use Rattle.store.specs.Cells.{NamedCells, cell_in, cell_at}
use Rattle.store.specs.Named.{Sets}
use Rattle.store.specs.Rows.{sizes_of}

equal_or_not : (a b : ℕ) → (a ≡ b) ⊎ (a ≢ b)
equal_or_not zero zero = inl refl
equal_or_not zero (suc b) = inr (λ e. omega (arith, e))
equal_or_not (suc a) zero = inr (λ e. omega (arith, e))
equal_or_not (suc a) (suc b) = ⊎_elim (λ e. inl (ap suc e)) (λ n. inr (λ e. n (omega (arith, e)))) (equal_or_not a b)

length-slice_set : {X : Type 0} (xs : List X) (i : ℕ) (y : X) → length (slice_set xs i y) ≡ length xs
length-slice_set [] i y = refl
length-slice_set (x ∷ xs) zero y = refl
length-slice_set (x ∷ xs) (suc i) y = ap suc (length-slice_set xs i y)

get_set : {X : Type 0} (xs : List X) (i : ℕ) (y : X) → i < length xs → slice_get (slice_set xs i y) i ≡ Some y
get_set [] i y h = absurd (omega arith)
get_set (x ∷ xs) zero y h = refl
get_set (x ∷ xs) (suc i) y h = get_set xs i y (omega arith)

get_other : {X : Type 0} (xs : List X) (i j : ℕ) (y : X) → j ≢ i → slice_get (slice_set xs i y) j ≡ slice_get xs j
get_other [] i j y n = refl
get_other (x ∷ xs) zero zero y n = absurd (n refl)
get_other (x ∷ xs) zero (suc j) y n = refl
get_other (x ∷ xs) (suc i) zero y n = refl
get_other (x ∷ xs) (suc i) (suc j) y n = get_other xs i j y (λ e. n (ap suc e))

within : {X : Type 0} (xs : List X) (i : ℕ) (x : X) → slice_get xs i ≡ Some x → i < length xs
within [] i x h = absurd cc
within (y ∷ xs) zero x h = omega arith
within (y ∷ xs) (suc i) x h = let k = within xs i x h in omega (arith, k)

named : (m : List NamedCells) (g : ℕ) (x y : NamedCells) → slice_get m g ≡ Some x → y.name ≡ x.name → map (λ (w : NamedCells). w.name) (slice_set m g y) ≡ map (λ (w : NamedCells). w.name) m
named [] g x y h e = refl
named (w ∷ ws) zero x y h e = let s : w ≡ x = cc in ap (λ n. n ∷ map (λ (v : NamedCells). v.name) ws) (e ∙ sym (ap (λ (v : NamedCells). v.name) s))
named (w ∷ ws) (suc g) x y h e = ap (λ ns. w.name ∷ ns) (named ws g x y h e)

same_global : (m : List NamedCells) (g i j : ℕ) (z : ℤ) (x : NamedCells) → slice_get m g ≡ Some x → j ≢ i → cell_at (slice_set m g (record x { cells = slice_set x.cells i z })) g j ≡ cell_at m g j
same_global m g i j z x e n =
    ap (λ o. cell_in o j) (get_set m g (record x { cells = slice_set x.cells i z }) (within m g x e)) ∙ get_other x.cells i j z n ∙ sym (ap (λ o. cell_in o j) e)

other : (m : List NamedCells) (g i : ℕ) (z : ℤ) (x : NamedCells) → slice_get m g ≡ Some x → (h j : ℕ) → (h ≡ g → j ≢ i) → cell_at (slice_set m g (record x { cells = slice_set x.cells i z })) h j ≡ cell_at m h j
other m g i z x e h j n = ⊎_elim
    (λ s. subst (λ (k : ℕ). cell_at (slice_set m g (record x { cells = slice_set x.cells i z })) k j ≡ cell_at m k j) (sym s) (same_global m g i j z x e (n s)))
    (λ d. ap (λ o. cell_in o j) (get_other m g h (record x { cells = slice_set x.cells i z }) d))
    (equal_or_not h g)

pub sets_is : (m : List NamedCells) (g i : ℕ) (z : ℤ) (x : NamedCells) → slice_get m g ≡ Some x → i < length x.cells → Sets m (slice_set m g (record x { cells = slice_set x.cells i z })) g i z
sets_is m g i z x e h = record {
  there = ap (λ o. cell_in o i) (get_set m g (record x { cells = slice_set x.cells i z }) (within m g x e)) ∙ get_set x.cells i z h;
  others = λ h j n. other m g i z x e h j n;
  names = named m g x (record x { cells = slice_set x.cells i z }) e refl;
}

pub set_is : (m items : List NamedCells) (g i : ℕ) (z v : ℤ) (x y : NamedCells) (b : Bool) → v ≡ z → items ≡ m → slice_get items g ≡ Some x → (IsTrue b → i < length x.cells) → OnTrue b (y ≡ record x { cells = slice_set x.cells i v }) → OnTrue b (Sets m (slice_set items g y) g i z)
set_is m items g i z v x y false a e k f h = h
set_is m items g i z v x y true a e k f h = rw (e, h, a) (sets_is m g i z x (ap (λ (xs : List NamedCells). slice_get xs g) (sym e) ∙ k) (f refl))

pub not_there : (m items : List NamedCells) (g i : ℕ) → items ≡ m → length items ≤ g → IsSome (cell_at m g i) → IsTrue false
not_there m items g i e h k = let n : slice_get m g ≡ None = ap (λ (xs : List NamedCells). slice_get xs g) (sym e) ∙ slice_get_past items g h in absurd (let j = ap (λ o. is_some (cell_in o i)) n in cc)

pub same_cells : (n o : List ℕ) (xs ys us vs : List ℤ) (x y : NamedCells) (b : Bool) → record { name = n; cells = xs } ≡ x → record { name = o; cells = ys } ≡ y → n ≡ o → us ≡ xs → vs ≡ ys → Decides b (us ≡ vs) → (IsTrue b → x ≡ y) × (x ≡ y → IsTrue b)
same_cells n o xs ys us vs x y b ex ey e ea eb d = (
  (λ t. sym ex ∙ (λ i. record { name = e i; cells = (sym ea ∙ d.0 t ∙ eb) i }) ∙ ey),
  (λ s. d.1 (ea ∙ ap (λ (w : NamedCells). w.cells) (ex ∙ s ∙ sym ey) ∙ sym eb)),
)

sizes_put : (m : List NamedCells) (g : ℕ) (x y : NamedCells) → slice_get m g ≡ Some x → length y.cells ≡ length x.cells → sizes_of (slice_set m g y) ≡ sizes_of m
sizes_put [] g x y at long = refl
sizes_put (w ∷ ws) zero x y at long = let s : w ≡ x = cc in ap (λ n. n ∷ sizes_of ws) (long ∙ sym (ap (λ (v : NamedCells). length v.cells) s))
sizes_put (w ∷ ws) (suc g) x y at long = ap (λ ns. length w.cells ∷ ns) (sizes_put ws g x y at long)

-- the sizes stay, whether the cell was there or not
pub sizes_set : (m items : List NamedCells) (g i : ℕ) (v : ℤ) (x y : NamedCells) (b : Bool) → items ≡ m → slice_get items g ≡ Some x → OnTrue b (y ≡ record x { cells = slice_set x.cells i v }) → OnFalse b (y ≡ x) →
    sizes_of (slice_set items g y) ≡ sizes_of m
sizes_set m items g i v x y true e at set same =
    sizes_put items g x y at (ap (λ (w : NamedCells). length w.cells) (OnTrue_at refl set) ∙ length-slice_set x.cells i v) ∙ ap sizes_of e
sizes_set m items g i v x y false e at set same = sizes_put items g x y at (ap (λ (w : NamedCells). length w.cells) (OnFalse_at refl same)) ∙ ap sizes_of e
