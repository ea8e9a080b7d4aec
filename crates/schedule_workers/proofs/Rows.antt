-- Where the cells of objects lie that stand one after the other.
use Rattle.std.proofs.Common.{◌≡◌, ℕ, zero, suc, ◌+◌, ◌<◌, ◌%◌, List, [], ◌∷◌, get_or, refl, ap, sym, ◌∙◌, arith, ℤ, pos, ◌+ℤ◌, Option, Some, None}
use Rattle.std.specs.Prelude.{fold, map, sum, slice_get}
use Rattle.std.specs.Int.{w64, int_wrap}
use Rattle.std.specs.Option.{option_map}
use Rattle.std.proofs.lemmas.Int.{ints, int_wrap_fits}
use Rattle.std.proofs.lemmas.Option.{slice_get-map}
use Rattle.std.proofs.Math.Nat.{mod-eq_of_lt}
use Rattle.semantics.specs.Arithmetic.{signed, wrapped}
use Rattle.semantics.specs.Frames as frames
use Rattle.syntax.specs.declared.operator.Width.TheVariants.{Bits64}
use Rattle.program.specs.Cells.{alloca_cells, global_cells}
use Rattle.program.specs.declared.function.Alloca.{Alloca}
use Rattle.program.specs.declared.function.Function.{Function}
use Rattle.program.specs.declared.function.Global.{Global}
use Rattle.program.specs.declared.function.Program.{Program}
use Rattle.program.specs.declared.identifier.ObjectName.TheVariants as object
use Rattle.frame_engine.specs.declared.activation.Places.{Places}
use Rattle.frame_engine.specs.Activation.{allocas_of, or_none}
use Rattle.frame_engine.specs.Starts.{alloca_starts, starts_from}
use Rattle.schedule_workers.specs.Layouts.{number_in}
use Rattle.schedule_workers.specs.RunShown.{cells_in}

-- ---- objects in a row

-- the cells of the object of this number
abbrev pub size_in : List ℕ → ℕ → ℕ
size_in [] n = 0
size_in (cells ∷ more) zero = cells
size_in (cells ∷ more) (suc n) = size_in more n

-- the cells before it
abbrev pub start_in : List ℕ → ℕ → ℕ
start_in [] n = 0
start_in (cells ∷ more) zero = 0
start_in (cells ∷ more) (suc n) = cells + start_in more n

summed : (a : ℕ) (cells : List ℕ) → fold (λ (s x : ℕ). s + x) a cells ≡ a + fold (λ (s x : ℕ). s + x) 0 cells
summed a [] = omega arith
summed a (c ∷ cs) =
    let one = summed (a + c) cs in
    let other = summed (0 + c) cs in
    omega (arith, one, other)

pub sum_more : (c : ℕ) (cells : List ℕ) → sum (c ∷ cells) ≡ c + sum cells
sum_more c cells = let s = summed (0 + c) cells in omega (arith, s)

pub start_below : (cells : List ℕ) (n i : ℕ) → i < size_in cells n → start_in cells n + i < sum cells
start_below [] n i h = absurd (omega (arith, h))
start_below (c ∷ cs) zero i h = let s = sum_more c cs in omega (arith, h, s)
start_below (c ∷ cs) (suc n) i h = let r = start_below cs n i h in let s = sum_more c cs in omega (arith, r, s)

pub same_place : (cells : List ℕ) (a b i j : ℕ) → i < size_in cells a → j < size_in cells b → start_in cells a + i ≡ start_in cells b + j → (a ≡ b) × (i ≡ j)
same_place [] a b i j h k e = absurd (omega (arith, h))
same_place (c ∷ cs) zero zero i j h k e = (refl, omega (arith, e))
same_place (c ∷ cs) zero (suc b) i j h k e = absurd (omega (arith, h, e))
same_place (c ∷ cs) (suc a) zero i j h k e = absurd (omega (arith, k, e))
same_place (c ∷ cs) (suc a) (suc b) i j h k e =
    let less : start_in cs a + i ≡ start_in cs b + j = omega (arith, e) in
    let r = same_place cs a b i j h k less in
    (ap suc r.0, r.1)

-- ---- as numbers of 64 bits

wrapped_pos : (n : ℕ) → wrapped Bits64 (pos n) ≡ signed Bits64 (n % 18446744073709551616)
unfolding int_wrap
wrapped_pos n = refl

pub wrapped_small : (n : ℕ) → n < 9223372036854775808 → wrapped Bits64 (pos n) ≡ pos n
wrapped_small n small = int_wrap_fits w64 (pos n) (record { sfits = small })

pub small_number : (n : ℕ) → n < 9223372036854775808 → signed Bits64 n ≡ pos n
small_number n small =
    let low : n < 18446744073709551616 = omega (arith, small) in
    ap (signed Bits64) (sym (mod-eq_of_lt low)) ∙ sym (wrapped_pos n) ∙ wrapped_small n small

numbers_from : (sizes : List ℕ) (at n i : ℕ) → at + sum sizes < 9223372036854775808 → i < size_in sizes n → get_or (starts_from at sizes) n (pos 0) ≡ pos (at + start_in sizes n)
numbers_from [] at n i low h = absurd (omega (arith, h))
numbers_from (c ∷ cs) at zero i low h =
    let small : at < 9223372036854775808 = omega (arith, low) in
    let same : at ≡ at + 0 = omega arith in
    small_number at small ∙ ap (λ (x : ℕ). pos x) same
numbers_from (c ∷ cs) at (suc n) i low h =
    let s = sum_more c cs in
    let less : at + c + sum cs < 9223372036854775808 = omega (arith, low, s) in
    let small : at + c < 18446744073709551616 = omega (arith, less) in
    let next = numbers_from cs (at + c) n i less h in
    let same : at + c + start_in cs n ≡ at + (c + start_in cs n) = omega arith in
    ap (λ (x : ℕ). get_or (starts_from x cs) n (pos 0)) (mod-eq_of_lt small) ∙ next ∙ ap (λ (x : ℕ). pos x) same

-- a cell of an object in a row that begins at a place
pub row_address : (sizes : List ℕ) (home n i : ℕ) (z : ℤ) → z ≡ number_in (starts_from 0 sizes) n → home + sum sizes < 9223372036854775808 → i < size_in sizes n →
    wrapped Bits64 ((pos home +ℤ z) +ℤ pos i) ≡ pos (home + (start_in sizes n + i))
row_address sizes home n i z e low h =
    let within = start_below sizes n i h in
    let less : 0 + sum sizes < 9223372036854775808 = omega (arith, low) in
    let small : home + (start_in sizes n + i) < 9223372036854775808 = omega (arith, low, within) in
    let join : (pos home +ℤ pos (0 + start_in sizes n)) +ℤ pos i ≡ pos (home + (start_in sizes n + i)) = omega (arith, ints) in
    ap (λ (x : ℤ). wrapped Bits64 ((pos home +ℤ x) +ℤ pos i)) (e ∙ numbers_from sizes 0 n i less h) ∙ ap (wrapped Bits64) join ∙ wrapped_small (home + (start_in sizes n + i)) small

pub first_row_address : (sizes : List ℕ) (n i : ℕ) (z : ℤ) → z ≡ number_in (starts_from 0 sizes) n → sum sizes < 9223372036854775808 → i < size_in sizes n →
    wrapped Bits64 (z +ℤ pos i) ≡ pos (start_in sizes n + i)
first_row_address sizes n i z e low h =
    let within = start_below sizes n i h in
    let less : 0 + sum sizes < 9223372036854775808 = omega (arith, low) in
    let small : start_in sizes n + i < 9223372036854775808 = omega (arith, low, within) in
    let join : pos (0 + start_in sizes n) +ℤ pos i ≡ pos (start_in sizes n + i) = omega (arith, ints) in
    ap (λ (x : ℤ). wrapped Bits64 (x +ℤ pos i)) (e ∙ numbers_from sizes 0 n i less h) ∙ ap (wrapped Bits64) join ∙ wrapped_small (start_in sizes n + i) small

-- ---- a function's allocas, and the globals

abbrev pub sizes_of : Option Function → List ℕ
sizes_of None = []
sizes_of (Some f) = map (λ (a : Alloca). a.cells) f.allocas

pub cells_are : (o : Option Function) → cells_in o ≡ sum (sizes_of o)
cells_are None = refl
cells_are (Some f) = refl

alloca_size : (xs : List Alloca) (a : ℕ) → alloca_cells (slice_get xs a) ≡ size_in (map (λ (x : Alloca). x.cells) xs) a
alloca_size [] a = refl
alloca_size (x ∷ xs) zero = refl
alloca_size (x ∷ xs) (suc a) = alloca_size xs a

pub size_is : (prog : Program) (o : Option Function) (a : ℕ) → frames.cells_in prog o (object.Alloca (record { 0 = a })) ≡ size_in (sizes_of o) a
size_is prog None a = refl
size_is prog (Some f) a = alloca_size f.allocas a

pub global_size : (xs : List Global) (g : ℕ) → global_cells (slice_get xs g) ≡ size_in (map (λ (x : Global). x.cells) xs) g
global_size [] g = refl
global_size (x ∷ xs) zero = refl
global_size (x ∷ xs) (suc g) = global_size xs g

starts_of : (o : Option Function) → or_none (option_map (λ (x : Function). alloca_starts x.allocas) o) ≡ starts_from 0 (sizes_of o)
starts_of None = refl
starts_of (Some f) = refl

pub starts_are : (prog : Program) (places : Places) (function : ℕ) → places.allocas ≡ map (λ (x : Function). alloca_starts x.allocas) prog.functions → allocas_of places function ≡ starts_from 0 (sizes_of (slice_get prog.functions function))
starts_are prog places function all =
    ap or_none (ap (λ xs. slice_get xs function) all ∙ slice_get-map (λ (x : Function). alloca_starts x.allocas) prog.functions function) ∙ starts_of (slice_get prog.functions function)
