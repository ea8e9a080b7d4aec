-- The globals of memory and a row of their numbers are one memory.
use Rattle.std.proofs.Common.{◌≡◌, ℕ, zero, suc, ◌+◌, ◌<◌, ◌≤◌, List, [], ◌∷◌, ◌++◌, length, take, drop, Option, Some, None, Bool, true, false, cond, refl, ap, sym, ◌∙◌, subst, arith, slice_get, ℤ}
use Rattle.std.specs.Prelude.{IsSome, nat_lt, sum}
use Rattle.std.proofs.lemmas.Bool.{le-ltb, ltb-false, ltb-true}
use Rattle.std.proofs.lemmas.List.{drop_at, length-append, length-drop, length-map, length-take-le, take_at}
use Rattle.semantics.specs.Cells.{Object, Shared, Local}
use Rattle.semantics.specs.Frames.{global_cells}
use Rattle.program.specs.declared.function.Global.{Global}
use Rattle.program.specs.declared.function.Program.{Program}
use Rattle.store.specs.verifier.Accepted.{IsProgramOf}
use Rattle.frame_engine.specs.Starts.{starts_from}
use Rattle.store.specs.Cells.{NamedCells, cell_at}
use Rattle.store.specs.Named.{HasGlobalCells}
use Rattle.store.specs.Rows.{sizes_of}
use Rattle.store.specs.Refilled.{refilled, row_of}
use Rattle.store.specs.Serially.{global_cell, memory_of_globals, names_of}
use Rattle.serial_stack.specs.Layouts.{size_in, start_in}
use Rattle.serial_stack.specs.Starts.{StandsInRow}
use Rattle.serial_stack.proofs.Rows.{sum_more}
use Rattle.serial_machine.specs.Rows.{in_row, row_memory}
use Rattle.serial_machine.specs.Safe.{HasCellsOf}
use Rattle.serial_machine.proofs.text.Fits.{below_all, starts_long}
use Rattle.serial_machine.proofs.text.Named.{global_positive}

-- ---- the cells of one global

none_below : (i : ℕ) (o : Option ℤ) → None ≡ cond (nat_lt i 0) o None
none_below i o = sym (ap (λ (b : Bool). cond b o None) (le-ltb i 0 (omega arith)))

take_in : (n : ℕ) (row : List ℤ) (i : ℕ) → i < n → slice_get (take n row) i ≡ slice_get row i
take_in zero row i low = absurd (omega (arith, low))
take_in (suc n) [] i low = refl
take_in (suc n) (x ∷ row) zero low = refl
take_in (suc n) (x ∷ row) (suc i) low = take_in n row i (omega (arith, low))

take_out : (n : ℕ) (row : List ℤ) (i : ℕ) → n ≤ i → slice_get (take n row) i ≡ None
take_out zero row i past = refl
take_out (suc n) [] i past = refl
take_out (suc n) (x ∷ row) zero past = absurd (omega (arith, past))
take_out (suc n) (x ∷ row) (suc i) past = take_out n row i (omega (arith, past))

get_take : (n : ℕ) (row : List ℤ) (i : ℕ) → slice_get (take n row) i ≡ cond (nat_lt i n) (slice_get row i) None
get_take n row i = by (nat_lt i n) refl
  where
    by : (b : Bool) → nat_lt i n ≡ b → slice_get (take n row) i ≡ cond b (slice_get row i) None
    by true e = take_in n row i (ltb-true i n e)
    by false e = take_out n row i (ltb-false i n e)

get_drop : (n : ℕ) (row : List ℤ) (i : ℕ) → slice_get (drop n row) i ≡ slice_get row (n + i)
get_drop zero row i = let place : i ≡ 0 + i = omega arith in ap (λ (k : ℕ). slice_get row k) place
get_drop (suc n) [] i = refl
get_drop (suc n) (x ∷ row) i = let place : suc (n + i) ≡ suc n + i = omega arith in get_drop n row i ∙ ap (λ (k : ℕ). slice_get (x ∷ row) k) place

-- ---- all of them

held_in : (m : List NamedCells) (row : List ℤ) (g i : ℕ) → cell_at (refilled m row) g i ≡ cond (nat_lt i (size_in (sizes_of m) g)) (slice_get row (start_in (sizes_of m) g + i)) None
held_in [] row g i = none_below i (slice_get row (0 + i))
held_in (x ∷ m) row zero i =
    let place : i ≡ 0 + i = omega arith in
    get_take (length x.cells) row i ∙ ap (λ (k : ℕ). cond (nat_lt i (length x.cells)) (slice_get row k) None) place
held_in (x ∷ m) row (suc g) i =
    let n = length x.cells in
    let s = start_in (sizes_of m) g in
    let place : n + (s + i) ≡ (n + s) + i = omega arith in
    held_in m (drop n row) g i
    ∙ ap (λ (o : Option ℤ). cond (nat_lt i (size_in (sizes_of m) g)) o None) (get_drop n row (s + i) ∙ ap (λ (k : ℕ). slice_get row k) place)

pub refilled_is : (m : List NamedCells) (row : List ℤ) → memory_of_globals (refilled m row) ≡ row_memory (sizes_of m) row
refilled_is m row = λ i c. by c.object c.index i
  where
    by : (o : Object) (k : ℕ) → global_cell (refilled m row) o k ≡ in_row (sizes_of m) row o k
    by (Shared g) k = held_in m row g k
    by (Local owner n) k = refl

own_row : (m : List NamedCells) → refilled m (row_of m) ≡ m
own_row [] = refl
own_row (g ∷ m) =
    let front : take (length g.cells) (g.cells ++ row_of m) ≡ g.cells = take_at g.cells (row_of m) (length g.cells) refl in
    let back : drop (length g.cells) (g.cells ++ row_of m) ≡ row_of m = drop_at g.cells (row_of m) (length g.cells) refl in
    let first : record g { cells = take (length g.cells) (g.cells ++ row_of m) } ≡ g = ap (λ (xs : List ℤ). record g { cells = xs }) front in
    (λ i. first i ∷ refilled m (back i)) ∙ ap (λ (more : List NamedCells). g ∷ more) (own_row m)

pub row_is : (m : List NamedCells) → row_memory (sizes_of m) (row_of m) ≡ memory_of_globals m
row_is m = sym (refilled_is m (row_of m)) ∙ ap memory_of_globals (own_row m)

pub names_kept : (m : List NamedCells) (row : List ℤ) → names_of (refilled m row) ≡ names_of m
names_kept [] row = refl
names_kept (g ∷ m) row = ap (λ (more : List (List ℕ)). g.name ∷ more) (names_kept m (drop (length g.cells) row))

-- ---- as many cells

length_low : (xs : List ℤ) (i : ℕ) → IsSome (slice_get xs i) → i < length xs
length_low [] i h = absurd (cc)
length_low (x ∷ xs) zero h = omega arith
length_low (x ∷ xs) (suc i) h = let k = length_low xs i h in omega (arith, k)

-- a row that has each cell of objects of these sizes is as long as they are
pub row_covers : (sizes : List ℕ) (row : List ℤ) → ((g i : ℕ) → i < size_in sizes g → IsSome (slice_get row (start_in sizes g + i))) → sum sizes ≤ length row
row_covers [] row all = omega arith
row_covers (c ∷ more) row all =
    let rest = row_covers more (drop c row) (λ g i low. subst (λ (o : Option ℤ). IsSome o) (sym (get_drop c row (start_in more g + i) ∙ at g i)) (all (suc g) i low)) in
    let cut = length-drop c row in
    let whole = sum_more c more in
    let first : c ≤ length row = long c all in
    omega (arith, rest, cut, whole, first)
  where
    at : (g i : ℕ) → slice_get row (c + (start_in more g + i)) ≡ slice_get row ((c + start_in more g) + i)
    at g i = let place : c + (start_in more g + i) ≡ (c + start_in more g) + i = omega arith in ap (λ (k : ℕ). slice_get row k) place

    long : (n : ℕ) → ((g i : ℕ) → i < size_in (n ∷ more) g → IsSome (slice_get row (start_in (n ∷ more) g + i))) → n ≤ length row
    long zero all = omega arith
    long (suc n) all = let last = length_low row (0 + n) (all 0 n (omega arith)) in omega (arith, last)

-- globals that such a row refills keep their sizes
pub sizes_kept : (m : List NamedCells) (row : List ℤ) → sum (sizes_of m) ≤ length row → sizes_of (refilled m row) ≡ sizes_of m
sizes_kept [] row room = refl
sizes_kept (x ∷ m) row room =
    let n = length x.cells in
    let all = sum_more n (sizes_of m) in
    let cut = length-drop n row in
    let first : length (take n row) ≡ n = length-take-le n row (omega (arith, room, all)) in
    let rest : sizes_of (refilled m (drop n row)) ≡ sizes_of m = sizes_kept m (drop n row) (omega (arith, room, all, cut)) in
    λ i. first i ∷ rest i

-- ---- the row at the start

pub row_long : (m : List NamedCells) → length (row_of m) ≡ sum (sizes_of m)
row_long [] = refl
row_long (g ∷ m) = length-append g.cells (row_of m) ∙ ap (λ (n : ℕ). length g.cells + n) (row_long m) ∙ sym (sum_more (length g.cells) (sizes_of m))

read : (b : Bool) (o : Option ℤ) (z : ℤ) → cond b o None ≡ Some z → (b ≡ true) × (o ≡ Some z)
read true o z e = (refl, e)
read false o z e = absurd (cc)

pub stands_in_row : (globals : List ℕ) (row : List ℤ) → length row ≡ sum globals → StandsInRow globals (row_memory globals row) row
stands_in_row globals row long = record {
  long = long;
  within = λ g i z e. ltb-true i (size_in globals g) (read (nat_lt i (size_in globals g)) (slice_get row (start_in globals g + i)) z e).0;
  held = λ g i z e. (read (nat_lt i (size_in globals g)) (slice_get row (start_in globals g + i)) z e).1;
}

-- ---- memory that was made for a program

cell_low : (m : List NamedCells) (g i : ℕ) → IsSome (cell_at m g i) → i < size_in (sizes_of m) g
cell_low [] g i h = absurd (cc)
cell_low (x ∷ m) zero i h = length_low x.cells i h
cell_low (x ∷ m) (suc g) i h = cell_low m g i h

global_low : (m : List NamedCells) (g i : ℕ) → IsSome (cell_at m g i) → g < length m
global_low [] g i h = absurd (cc)
global_low (x ∷ m) zero i h = omega arith
global_low (x ∷ m) (suc g) i h = let k = global_low m g i h in omega (arith, k)

pub covers : (program : Program) (m : List NamedCells) → HasGlobalCells program m → HasCellsOf program (sizes_of m)
covers program m has g = by (slice_get program.globals g) refl
  where
    all : (n : ℕ) → ((i : ℕ) → i < n → i < size_in (sizes_of m) g) → n ≤ size_in (sizes_of m) g
    all zero low = omega arith
    all (suc n) low = let last = low n (omega arith) in omega (arith, last)

    by : (o : Option Global) → slice_get program.globals g ≡ o → global_cells o ≤ size_in (sizes_of m) g
    by None is = omega arith
    by (Some global) is = all global.cells (λ i low. cell_low m g i (has g i global is low))

pub as_many : (text : List ℕ) (program : Program) → IsProgramOf text program → (m : List NamedCells) → HasGlobalCells program m → length program.globals ≤ length (starts_from 0 (sizes_of m))
as_many text program accepted m has =
    let long : length (starts_from 0 (sizes_of m)) ≡ length m = starts_long 0 (sizes_of m) ∙ length-map m (λ (g : NamedCells). length g.cells) in
    let most : length program.globals ≤ length m =
    below_all program.globals (length m) (λ g global is. global_low m g 0 (has g 0 global is (global_positive text program accepted g global is))) in
    omega (arith, long, most)
