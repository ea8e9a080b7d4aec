-- A row with as many numbers as a program's globals have cells.
use Rattle.std.proofs.Common.{◌≡◌, ◌∙◌, ℕ, zero, suc, ◌-◌, ◌^◌, ◌<◌, List, [], ◌∷◌, length, Some, refl, ap, sym, arith, slice_get, ℤ}
use Rattle.std.specs.Prelude.{IsSome, map, min, sum}
use Rattle.program.specs.declared.function.Global.{Global}
use Rattle.program.specs.declared.function.Program.{Program}
use Rattle.store.specs.Cells.{NamedCells, cell_at}
use Rattle.store.specs.Made.{IsMadeFor}
use Rattle.store.specs.Named.{HasGlobalCells}
use Rattle.store.specs.Rows.{sizes_of}
use Rattle.store.specs.Refilled.{refilled}
use Rattle.serial_machine.proofs.Held.{sizes_kept}
use Rattle.kernel_calls.specs.Told.{cells_in, sizes_in}

-- ---- as many

below_cap : (s n m : ℕ) → min s m ≡ n → n < m → n ≡ s
below_cap s n m is low = grind arith

-- a row is shorter than 2^63, so where the counts agree the sum was not cut
pub as_many : (program : Program) (row : List ℤ) → cells_in program ≡ length row → length row < 9223372036854775808 →
    length row ≡ sum (sizes_in program)
as_many program row same small = below_cap (sum (sizes_in program)) (length row) (2 ^ 64 - 1) same (omega (arith, small))

-- ---- numbers for all cells

there : (xs : List ℤ) (i : ℕ) → i < length xs → IsSome (slice_get xs i)
there [] i low = absurd (omega (arith, low))
there (x ∷ xs) zero low = refl
there (x ∷ xs) (suc i) low = there xs i (omega (arith, low))

cells_there : (m : List NamedCells) (globals : List Global) → sizes_of m ≡ map (λ (g : Global). g.cells) globals →
    (g i : ℕ) (global : Global) → slice_get globals g ≡ Some global → i < global.cells → IsSome (cell_at m g i)
cells_there m [] made g i global is low = absurd (cc)
cells_there [] (d ∷ globals) made g i global is low = absurd (cc)
cells_there (x ∷ m) (d ∷ globals) made zero i global is low =
    let both : length x.cells ∷ sizes_of m ≡ d.cells ∷ map (λ (g : Global). g.cells) globals = made in
    let same : length x.cells ≡ d.cells = cc in
    let one : d.cells ≡ global.cells = (let e : Some d ≡ Some global = is in let f : d ≡ global = cc in ap (λ (g : Global). g.cells) f) in
    there x.cells i (omega (arith, same, one, low))
cells_there (x ∷ m) (d ∷ globals) made (suc g) i global is low =
    let both : length x.cells ∷ sizes_of m ≡ d.cells ∷ map (λ (g : Global). g.cells) globals = made in
    let rest : sizes_of m ≡ map (λ (g : Global). g.cells) globals = cc in
    cells_there m globals rest g i global is low

module _ (program : Program) (zeroed : List NamedCells) (made : IsMadeFor program zeroed) (row : List ℤ) (long : length row ≡ sum (sizes_in program)) where
  total : sum (sizes_of zeroed) ≡ length row
  total = ap (λ (l : List ℕ). sum l) made ∙ sym long

  pub filled_made : IsMadeFor program (refilled zeroed row)
  filled_made = sizes_kept zeroed row (omega (arith, total)) ∙ made

  pub filled_cells : HasGlobalCells program (refilled zeroed row)
  filled_cells g i global is low = cells_there (refilled zeroed row) program.globals filled_made g i global is low
