-- The row of a run holds what its machine's memory does of the globals.
use Rattle.std.proofs.Common.{◌≡◌, ℕ, zero, suc, ◌+◌, ◌<◌, ◌≤◌, List, [], ◌∷◌, length, map, take, drop, Option, Some, None, refl, sym, ap, ◌∙◌, subst, arith, slice_get, ℤ, pos, ◌+ℤ◌}
use Rattle.std.specs.Prelude.{Bool, true, false, IfOk, IsSome, Result, Ok, Err, nat_lt, option_and_then, sum}
use Rattle.std.specs.Option.{option_map}
use Rattle.std.proofs.lemmas.Bool.{ltb-false, ltb-true}
use Rattle.std.proofs.lemmas.Option.{slice_get_within}
use Rattle.std.proofs.Math.Logic.{∥∥₁_elim}
use Rattle.std.proofs.Props.{props}
use Rattle.std.proofs.Math.Nat.{ℕ_set}
use Rattle.std.proofs.Math.IntN.{ℤ_set}
use mathlib.Core.Sum.{⊎_set}
use Rattle.semantics.specs.Arithmetic.{cell_sum, signed, wrapped}
use Rattle.semantics.specs.Cells.{Cell, Shared}
use Rattle.lists.specs.declared.memory.OutOfMemory.{OutOfMemory}
use Rattle.semantics.specs.Events.{Machine}
use Rattle.syntax.specs.declared.operator.Width.TheVariants.{Bits64}
use Rattle.program.specs.Cells.{global_cells}
use Rattle.program.specs.declared.function.Global.{Global}
use Rattle.serial_machine.specs.store.Cells.{NamedCells, cell_at}
use Rattle.serial_machine.specs.store.Named.{cell_named, cell_of, number_of, size_of}
use Rattle.serial_machine.specs.store.Made.{IsMadeFor}
use Rattle.serial_machine.specs.store.Rows.{sizes_of}
use Rattle.serial_machine.specs.store.Refilled.{refilled}
use Rattle.serial_machine.proofs.Held.{sizes_kept}
use Rattle.frame_engine.specs.Flat.{cell_in}
use Rattle.frame_engine.specs.Starts.{global_starts, starts_from}
use Rattle.schedule_workers.specs.Layouts.{number_in}
use Rattle.schedule_workers.proofs.Rows.{first_row_address, global_size, size_in, small_number, start_in, sum_more}
use Rattle.schedule_core.specs.declared.stage.Stage.{Stage}
use Rattle.schedule_core.specs.Replaying.{IsMachine}
use Rattle.schedule_core.specs.Stages.{HoldsGlobals, IsState, global_named, names_of, program_of}

-- ---- rows

take_get : (n : ℕ) (row : List ℤ) (i : ℕ) → i < n → slice_get (take n row) i ≡ slice_get row i
take_get zero row i low = absurd (omega (arith, low))
take_get (suc n) [] i low = refl
take_get (suc n) (x ∷ row) zero low = refl
take_get (suc n) (x ∷ row) (suc i) low = take_get n row i (omega (arith, low))

take_past : (n : ℕ) (row : List ℤ) (i : ℕ) → n ≤ i → slice_get (take n row) i ≡ None
take_past zero row i past = refl
take_past (suc n) [] i past = refl
take_past (suc n) (x ∷ row) zero past = absurd (omega (arith, past))
take_past (suc n) (x ∷ row) (suc i) past = take_past n row i (omega (arith, past))

drop_get : (n : ℕ) (row : List ℤ) (i : ℕ) → slice_get (drop n row) i ≡ slice_get row (n + i)
drop_get zero row i = let place : i ≡ 0 + i = omega arith in ap (λ (k : ℕ). slice_get row k) place
drop_get (suc n) [] i = refl
drop_get (suc n) (x ∷ row) i = let place : suc (n + i) ≡ suc n + i = omega arith in drop_get n row i ∙ ap (λ (k : ℕ). slice_get (x ∷ row) k) place

refilled_get : (m : List NamedCells) (row : List ℤ) (g i : ℕ) → i < size_in (sizes_of m) g → cell_at (refilled m row) g i ≡ slice_get row (start_in (sizes_of m) g + i)
refilled_get [] row g i low = absurd (omega (arith, low))
refilled_get (x ∷ m) row zero i low = let place : i ≡ 0 + i = omega arith in take_get (length x.cells) row i low ∙ ap (λ (k : ℕ). slice_get row k) place
refilled_get (x ∷ m) row (suc g) i low =
    let place : length x.cells + (start_in (sizes_of m) g + i) ≡ length x.cells + start_in (sizes_of m) g + i = omega arith in
    refilled_get m (drop (length x.cells) row) g i low ∙ (drop_get (length x.cells) row (start_in (sizes_of m) g + i) ∙ ap (λ (k : ℕ). slice_get row k) place)

refilled_past : (m : List NamedCells) (row : List ℤ) (g i : ℕ) → size_in (sizes_of m) g ≤ i → cell_at (refilled m row) g i ≡ None
refilled_past [] row g i past = refl
refilled_past (x ∷ m) row zero i past = take_past (length x.cells) row i past
refilled_past (x ∷ m) row (suc g) i past = refilled_past m (drop (length x.cells) row) g i past

names_kept : (m : List NamedCells) (row : List ℤ) → names_of (refilled m row) ≡ names_of m
names_kept [] row = refl
names_kept (x ∷ m) row = ap (λ (more : List (List ℕ)). x.name ∷ more) (names_kept m (drop (length x.cells) row))

-- the last cell of a row
record Last (sizes : List ℕ) : Type 0 where
  global : ℕ
  index : ℕ
  within : index < size_in sizes global
  ends : suc (start_in sizes global + index) ≡ sum sizes

last_of : (c : ℕ) (sizes : List ℕ) → 0 < sum (c ∷ sizes) → (0 < sum sizes → Last sizes) → Last (c ∷ sizes)
last_of c sizes some behind = by (sum sizes) refl
  where
    whole : sum (c ∷ sizes) ≡ c + sum sizes
    whole = sum_more c sizes

    in_front : (n : ℕ) → c ≡ n → sum sizes ≡ 0 → Last (c ∷ sizes)
    in_front zero none rest = absurd (omega (arith, some, whole, none, rest))
    in_front (suc n) many rest = record { global = 0; index = n; within = omega (arith, many); ends = omega (arith, whole, many, rest) }

    by : (n : ℕ) → sum sizes ≡ n → Last (c ∷ sizes)
    by zero rest = in_front c refl rest
    by (suc n) rest =
        let l = behind (omega (arith, rest)) in
        let ends = l.ends in
        record { global = suc l.global; index = l.index; within = l.within; ends = omega (arith, whole, ends) }

last_cell : (sizes : List ℕ) → 0 < sum sizes → Last sizes
last_cell [] some = absurd (omega (arith, some))
last_cell (c ∷ sizes) some = last_of c sizes some (last_cell sizes)

-- ---- globals of a program

declared : (xs : List Global) (g i : ℕ) → i < size_in (map (λ (x : Global). x.cells) xs) g → (global : Global) × (slice_get xs g ≡ Some global) × (i < global.cells)
declared [] g i low = absurd (omega (arith, low))
declared (x ∷ xs) zero i low = (x, refl, low)
declared (x ∷ xs) (suc g) i low = declared xs g i low

size_there : (m : List NamedCells) (g n : ℕ) → option_map size_of (slice_get m g) ≡ Some n → size_in (sizes_of m) g ≡ n
size_there [] g n e = absurd (cc)
size_there (x ∷ m) zero n e = cc
size_there (x ∷ m) (suc g) n e = size_there m g n e

-- ---- a machine's

some_value : (o : Option ℤ) → IsSome o → (z : ℤ) × (o ≡ Some z)
some_value None some = absurd (cc)
some_value (Some z) some = (z, refl)

abbrev pub cell : ℕ → ℕ → Cell
cell g i = record { object = Shared g; index = i }

module _ (stage : Stage) (made : IsMadeFor (program_of stage) stage.memory) (small : sum (sizes_of stage.memory) < 9223372036854775808)
    (starts : stage.places.globals ≡ global_starts (program_of stage).globals) (m : Machine) (s : IsState stage m) where
  abbrev row : List ℤ
  row = stage.run.cells.cells.items

  abbrev sizes : List ℕ
  sizes = sizes_of stage.memory

  -- what stands at the address of a declared cell
  pub at_address : (g i : ℕ) → i < size_in sizes g →
      (z : ℤ) × (m.core.memory (cell g i) ≡ Some z) × (cell_in row (wrapped Bits64 (number_in stage.places.globals g +ℤ pos i)) ≡ Some z)
  at_address g i low =
      let (global, is, within) = declared (program_of stage).globals g i (subst (λ (l : List ℕ). i < size_in l g) made low) in
      let (z, holds) = some_value (m.core.memory (cell g i)) (s.well.full [] g i global is within) in
      (z, holds, s.shown.shows.cells.values (cell g i) z holds)

  pub address_is : (g i : ℕ) → i < size_in sizes g → wrapped Bits64 (number_in stage.places.globals g +ℤ pos i) ≡ pos (start_in sizes g + i)
  address_is g i low =
      first_row_address sizes g i (number_in stage.places.globals g)
      (ap (λ (l : List ℤ). number_in l g) starts ∙ ap (λ (l : List ℕ). number_in (starts_from 0 l) g) (sym made)) small low

  in_row : (g i : ℕ) → i < size_in sizes g → m.core.memory (cell g i) ≡ slice_get row (start_in sizes g + i)
  in_row g i low =
      let (z, holds, stands) = at_address g i low in
      holds ∙ sym (sym (ap (cell_in row) (address_is g i low)) ∙ stands)

  pub absent : (g i : ℕ) → size_in sizes g ≤ i → m.core.memory (cell g i) ≡ None
  absent g i past = by (m.core.memory (cell g i)) refl
    where
      by : (o : Option ℤ) → m.core.memory (cell g i) ≡ o → o ≡ None
      by None e = refl
      by (Some z) e =
          let inside : i < global_cells (slice_get (program_of stage).globals g) = s.shown.shows.cells.inside (cell g i) z e in
          let many = global_size (program_of stage).globals g in
          let same : size_in sizes g ≡ size_in (map (λ (x : Global). x.cells) (program_of stage).globals) g = ap (λ (l : List ℕ). size_in l g) made in
          absurd (omega (arith, inside, many, same, past))

  pub row_is_long : sum sizes ≤ length row
  row_is_long = by (sum sizes) refl
    where
      by : (n : ℕ) → sum sizes ≡ n → sum sizes ≤ length row
      by zero none = omega (arith, none)
      by (suc n) some =
          let l = last_cell sizes (omega (arith, some)) in
          let (z, holds, stands) = at_address l.global l.index l.within in
          let low = slice_get_within row (start_in sizes l.global + l.index) z (sym (ap (cell_in row) (address_is l.global l.index l.within)) ∙ stands) in
          let ends = l.ends in
          omega (arith, low, ends)

  pub holds_globals : HoldsGlobals m stage.memory (refilled stage.memory row)
  holds_globals = record { names = names_kept stage.memory row; sizes = sizes_kept stage.memory row row_is_long; cells = λ g i. by g i (nat_lt i (size_in sizes g)) refl }
    where
      by : (g i : ℕ) (b : Bool) → nat_lt i (size_in sizes g) ≡ b → cell_at (refilled stage.memory row) g i ≡ m.core.memory (cell g i)
      by g i true e = let low = ltb-true i (size_in sizes g) e in refilled_get stage.memory row g i low ∙ sym (in_row g i low)
      by g i false e = let past = ltb-false i (size_in sizes g) e in refilled_past stage.memory row g i past ∙ sym (absent g i past)

  -- ---- by name

  there : (name : List ℕ) (g n i : ℕ) → number_of stage.memory name ≡ Some g → option_map size_of (slice_get stage.memory g) ≡ Some n → i < n →
      (z : ℤ) × (global_named m stage.memory name i ≡ Some z) × (cell_in row (wrapped Bits64 (number_in stage.places.globals g +ℤ pos i)) ≡ Some z)
  there name g n i named size low =
      let many = size_there stage.memory g n size in
      let (z, holds, stands) = at_address g i (omega (arith, low, many)) in
      (z, ap (option_and_then (λ h. m.core.memory (cell h i))) named ∙ holds, stands)

  past_end : (name : List ℕ) (g n i : ℕ) → number_of stage.memory name ≡ Some g → option_map size_of (slice_get stage.memory g) ≡ Some n → n ≤ i → global_named m stage.memory name i ≡ None
  past_end name g n i named size past =
      let many = size_there stage.memory g n size in
      ap (option_and_then (λ h. m.core.memory (cell h i))) named ∙ absent g i (omega (arith, past, many))

  none_size : (l : List NamedCells) (g i : ℕ) → cell_at l g i ≡ None → size_in (sizes_of l) g ≤ i
  none_size [] g i e = omega arith
  none_size (x ∷ l) zero i e = none_past x.cells i e
    where
      none_past : (xs : List ℤ) (j : ℕ) → slice_get xs j ≡ None → length xs ≤ j
      none_past [] j none = omega arith
      none_past (y ∷ xs) zero none = absurd (cc)
      none_past (y ∷ xs) (suc j) none = let rest = none_past xs j none in omega (arith, rest)
  none_size (x ∷ l) (suc g) i e = none_size l g i e

  pub no_name : (name : List ℕ) (i : ℕ) → cell_named stage.memory name i ≡ None → global_named m stage.memory name i ≡ None
  no_name name i none = by (number_of stage.memory name) refl
    where
      by : (o : Option ℕ) → number_of stage.memory name ≡ o → global_named m stage.memory name i ≡ None
      by None named = ap (option_and_then (λ h. m.core.memory (cell h i))) named
      by (Some g) named =
          ap (option_and_then (λ h. m.core.memory (cell h i))) named
          ∙ absent g i (none_size stage.memory g i (sym (ap (λ o. cell_of stage.memory o i) named) ∙ none))

-- ---- of a machine

module _ (stage : Stage) (kept : ∥ IsMachine stage ∥₁) where
  is_made : IsMadeFor (program_of stage) stage.memory
  is_made = ∥∥₁_elim kept (Prim.hlevel (props, ⊎_set, ℕ_set, ℤ_set)) (λ k. k.made)

  is_small : sum (sizes_of stage.memory) < 9223372036854775808
  is_small = ∥∥₁_elim kept (Prim.hlevel (props, ⊎_set, ℕ_set, ℤ_set)) (λ k. k.small)

  has_starts : stage.places.globals ≡ global_starts (program_of stage).globals
  has_starts = ∥∥₁_elim kept (Prim.hlevel (props, ⊎_set, ℕ_set, ℤ_set)) (λ k. k.places.globals)

  pub globals_held : (m : Machine) → IsState stage m → HoldsGlobals m stage.memory (refilled stage.memory stage.run.cells.cells.items)
  globals_held m s = holds_globals stage is_made is_small has_starts m s

  -- a machine stands for some state
  pub row_holds_all : sum (sizes_of stage.memory) ≤ length stage.run.cells.cells.items
  row_holds_all = ∥∥₁_elim kept (Prim.hlevel (props, ⊎_set, ℕ_set, ℤ_set)) (λ k. row_is_long stage is_made is_small has_starts _ k.replays.state)

  pub named_nowhere : (m : Machine) → IsState stage m → (name : List ℕ) (i : ℕ) → cell_named stage.memory name i ≡ None → global_named m stage.memory name i ≡ None
  named_nowhere m s name i none = no_name stage is_made is_small has_starts m s name i none

  pub named_past : (m : Machine) → IsState stage m → (name : List ℕ) (g n i : ℕ) → number_of stage.memory name ≡ Some g → option_map size_of (slice_get stage.memory g) ≡ Some n → n ≤ i →
      global_named m stage.memory name i ≡ None
  named_past m s name g n i named size past = past_end stage is_made is_small has_starts m s name g n i named size past

  size_at_most : (l : List NamedCells) (g : ℕ) → size_in (sizes_of l) g ≤ sum (sizes_of l)
  size_at_most [] g = omega arith
  size_at_most (x ∷ l) zero = let s = sum_more (length x.cells) (sizes_of l) in omega (arith, s)
  size_at_most (x ∷ l) (suc g) = let s = sum_more (length x.cells) (sizes_of l) in let r = size_at_most l g in omega (arith, s, r)

  -- the number that was read at this address
  pub named_there : (m : Machine) → IsState stage m → (name : List ℕ) (g n i : ℕ) → number_of stage.memory name ≡ Some g → option_map size_of (slice_get stage.memory g) ≡ Some n → i < n →
      (start index address read : ℤ) → start ≡ number_in stage.places.globals g → index ≡ signed Bits64 i → address ≡ cell_sum start index →
      ((z : ℤ) → cell_in stage.run.cells.cells.items address ≡ Some z → read ≡ z) → Some read ≡ global_named m stage.memory name i
  named_there m s name g n i named size low start index address read starts_at is_index is_address reads =
      let (z, is, stands) = there stage is_made is_small has_starts m s name g n i named size low in
      let many = size_there stage.memory g n size in
      let most = size_at_most stage.memory g in
      let few : i < 9223372036854775808 = (let small = is_small in omega (arith, low, many, most, small)) in
      let at : address ≡ wrapped Bits64 (number_in stage.places.globals g +ℤ pos i) = is_address ∙ (λ j. cell_sum (starts_at j) ((is_index ∙ small_number i few) j)) in
      ap Some (reads z (ap (cell_in stage.run.cells.cells.items) at ∙ stands)) ∙ sym is

  pub memory_held : (r : Result (List NamedCells) OutOfMemory) (numbers : List ℤ) → numbers ≡ stage.run.cells.cells.items → IfOk r (λ after. after ≡ refilled stage.memory numbers) →
      IfOk r (λ after. (m : Machine) → IsState stage m → HoldsGlobals m stage.memory after)
  memory_held (Err e) numbers is after = tt
  memory_held (Ok memory) numbers is after =
      λ m s. subst (λ (l : List NamedCells). HoldsGlobals m stage.memory l) (sym (after ∙ ap (refilled stage.memory) is)) (globals_held m s)
