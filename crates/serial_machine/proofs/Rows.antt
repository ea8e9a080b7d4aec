-- A run over a row of cells ends with the serial meaning's memory in it.
use Rattle.std.proofs.Common.{◌≡◌, ℕ, zero, suc, ◌+◌, ◌<◌, List, [], ◌∷◌, length, Option, Some, None, Bool, true, false, cond, is_some, refl, ap, sym, ◌∙◌, subst, arith, slice_get, ℤ, pos, ◌+ℤ◌}
use Rattle.std.specs.Prelude.{IsSome, nat_lt, sum}
use Rattle.std.proofs.lemmas.Bool.{ltb-true, lt-ltb}
use Rattle.std.proofs.lemmas.Int.{ints}
use Rattle.semantics.specs.Arithmetic.{wrapped}
use Rattle.semantics.specs.Paths.{Path, same_path}
use Rattle.syntax.specs.declared.operator.Width.TheVariants.{Bits64}
use Rattle.semantics.specs.Cells.{Object, Shared, Local, Cell}
use Rattle.semantics.specs.Frames.{Role, Child, Body}
use Rattle.semantics.specs.SerialMeaning.{Gave, Outcome, IsSerialMeaning, cleared}
use Rattle.semantics.specs.State.{override}
use Rattle.program.specs.declared.function.Program.{Program}
use Rattle.frame_engine.specs.declared.activation.Places.{Places}
use Rattle.frame_engine.specs.Flat.{cell_in, is_cell}
use Rattle.frame_engine.specs.declared.flat.Flat.{Flat}
use Rattle.frame_engine.specs.Shows.{IsIn, Layout, ShowsCells, address}
use Rattle.laws_schedule.proofs.laws_phases.defined.Written.{plain_keeps}
use Rattle.laws_strands.specs.stacks.Strands.{Placed}
use Rattle.serial_stack.specs.Steps.{Run, Goes, plain, sync, detach, call, reattach, ret, EndsWith, Walk, begins, goes_on, starting}
use Rattle.serial_stack.proofs.Walks.{steps_mean}
use Rattle.serial_stack.specs.Layouts.{size_in, start_in, alloca_sizes, end_of, for_body, with_allocas, of_globals, layout_of, frames_of}
use Rattle.serial_stack.specs.Runs.{HasEnded}
use Rattle.serial_stack.specs.declared.stack.Stack.{Stack}
use Rattle.serial_stack.proofs.Rows.{IsPacked, address_is, packed, start_below}
use Rattle.serial_machine.specs.Rows.{in_row, row_memory, RowsMean}

abbrev global_cell : ℕ → ℕ → Cell
global_cell g i = record { object = Shared g; index = i }

-- ---- no cell of a global loses its value

step_keeps : (prog : Program) (s t : Run) → Goes prog s t → (g i : ℕ) → is_some (s.memory (global_cell g i)) ≡ true → is_some (t.memory (global_cell g i)) ≡ true
step_keeps prog s t (plain e act fine) g i h = plain_keeps prog s.path s.frame s.memory e act (global_cell g i) h
step_keeps prog s t (sync r b rs act) g i h = h
step_keeps prog s t (detach r b n act) g i h = h
step_keeps prog s t (call d callee vs act) g i h = h
step_keeps prog s t (reattach r x rest act at free) g i h = h
step_keeps prog s t (ret v x rest k d act at waits) g i h = h

walk_keeps : (prog : Program) (start : Run) (n peak : ℕ) (s : Run) → Walk prog start n peak s → (g i : ℕ) → is_some (start.memory (global_cell g i)) ≡ true → is_some (s.memory (global_cell g i)) ≡ true
walk_keeps prog start n peak s begins g i h = h
walk_keeps prog start n peak s (goes_on k high r t w step) g i h = step_keeps prog r s step g i (walk_keeps prog start k high r w g i h)

-- ---- a row that is as long as its globals holds them all

there : (xs : List ℤ) (n : ℕ) → n < length xs → is_some (slice_get xs n) ≡ true
there [] n low = absurd (omega (arith, low))
there (x ∷ xs) zero low = refl
there (x ∷ xs) (suc n) low = there xs n (omega (arith, low))

full : (globals : List ℕ) (row : List ℤ) → length row ≡ sum globals → (g i : ℕ) → i < size_in globals g → is_some (row_memory globals row (global_cell g i)) ≡ true
full globals row long g i low =
    ap (λ (b : Bool). is_some (cond b (slice_get row (start_in globals g + i)) None)) (lt-ltb i (size_in globals g) low) ∙ there row (start_in globals g + i) (let below = start_below globals g i low in omega (arith, below, long))

-- ---- at the end

none_of : (o : Option ℤ) → ((z : ℤ) → o ≡ Some z → ⊥) → o ≡ None
none_of None never = refl
none_of (Some z) never = absurd (never z refl)

some_of : (o : Option ℤ) → is_some o ≡ true → (z : ℤ) × (o ≡ Some z)
some_of None h = absurd (cc)
some_of (Some z) h = (z, refl)

-- the root returns the number after so many steps, where the row shows what memory holds
pub record EndsInRow (globals : List ℕ) (prog : Program) (start : Run) (done peak : ℕ) (items : List ℤ) (result : ℤ) : Type 0 where
  pub run : Run
  pub before : ℕ
  pub walk : Walk prog start before peak run
  pub last : done ≡ suc before
  pub ends : EndsWith prog run result
  pub tall : length run.path ≡ length run.below
  pub shown : ShowsCells (layout_of globals prog (frames_of run)) (is_cell items) (λ a z. cell_in items a ≡ Some z) run.memory

module _ (prog : Program) (globals : List ℕ) (arguments row : List ℤ) (long : length row ≡ sum globals) (small : sum globals < 9223372036854775808) (done peak : ℕ) (items : List ℤ) (result : ℤ)
    (h : EndsInRow globals prog (starting prog arguments (row_memory globals row)) done peak items result)
  where
    abbrev s : Run
    s = h.run

    abbrev l : Layout
    l = layout_of globals prog (frames_of s)

    shared_size : (role : Role) (p : Path) (sizes : List ℕ) (home g : ℕ) → (for_body role (with_allocas p sizes home (of_globals globals)) (of_globals globals)).cells (Shared g) ≡ size_in globals g
    shared_size Body p sizes home g = refl
    shared_size (Child r c) p sizes home g = refl

    -- the root's layout
    alone : l ≡ for_body s.frame.role (with_allocas s.path (alloca_sizes prog s.frame.function) (end_of globals prog []) (of_globals globals)) (of_globals globals)
    alone = ap (λ (below : List Placed). layout_of globals prog (record { path = s.path; frame = s.frame } ∷ below)) h.ends.root

    size_is : (g : ℕ) → l.cells (Shared g) ≡ size_in globals g
    size_is g = ap (λ (x : Layout). x.cells (Shared g)) alone ∙ shared_size s.frame.role s.path (alloca_sizes prog s.frame.function) (end_of globals prog []) g

    root_path : s.path ≡ []
    root_path = empty s.path (h.tall ∙ ap (λ (below : List Placed). length below) h.ends.root)
      where
        empty : (p : Path) → length p ≡ 0 → p ≡ []
        empty [] e = refl
        empty (x ∷ p) e = absurd (omega (arith, e))

    at_is : (g : ℕ) → l.at (Shared g) ≡ pos (start_in globals g)
    at_is g = ap (λ (x : Layout). x.at (Shared g)) alone ∙ shared_at s.frame.role s.path (alloca_sizes prog s.frame.function) (end_of globals prog []) g
      where
        shared_at : (role : Role) (p : Path) (sizes : List ℕ) (home g : ℕ) → (for_body role (with_allocas p sizes home (of_globals globals)) (of_globals globals)).at (Shared g) ≡ pos (start_in globals g)
        shared_at Body p sizes home g = refl
        shared_at (Child r c) p sizes home g = refl

    -- no alloca but the root's own lives
    no_other : (owner : Path) (n : ℕ) → same_path s.path owner ≡ false → l.cells (Local owner n) ≡ 0
    no_other owner n off = ap (λ (x : Layout). x.cells (Local owner n)) alone ∙ local_size s.frame.role (alloca_sizes prog s.frame.function) (end_of globals prog [])
      where
        local_size : (role : Role) (sizes : List ℕ) (home : ℕ) → (for_body role (with_allocas s.path sizes home (of_globals globals)) (of_globals globals)).cells (Local owner n) ≡ 0
        local_size Body sizes home = ap (λ (b : Bool). cond b (size_in sizes n) 0) off
        local_size (Child r c) sizes home = refl

    number_there : (g i : ℕ) (z : ℤ) → i < size_in globals g → s.memory (global_cell g i) ≡ Some z → slice_get items (start_in globals g + i) ≡ Some z
    number_there g i z low e =
        let c : Cell = global_cell g i in
        let all : IsPacked (of_globals globals) (sum globals) = packed globals prog [] in
        let within : IsIn (of_globals globals) c = low in
        let lies = all.lies c within in
        let is = lies.is in
        let place : lies.place ≡ start_in globals g + i = omega (arith, ints, is) in
        let same : address l c ≡ pos lies.place = ap (λ (a : ℤ). wrapped Bits64 (a +ℤ pos i)) (at_is g) ∙ address_is (of_globals globals) (sum globals) c all small within in
        let at : cell_in items (pos lies.place) ≡ Some z = ap (λ (a : ℤ). cell_in items a) (sym same) ∙ h.shown.values c z e in
        subst (λ (x : ℕ). slice_get items x ≡ Some z) place at

    global_at_end : (g i : ℕ) → s.memory (global_cell g i) ≡ in_row globals items (Shared g) i
    global_at_end g i = by (nat_lt i (size_in globals g)) refl
      where
        by : (b : Bool) → nat_lt i (size_in globals g) ≡ b → s.memory (global_cell g i) ≡ cond b (slice_get items (start_in globals g + i)) None
        by true e =
            let low : i < size_in globals g = ltb-true i (size_in globals g) e in
            let some = some_of (s.memory (global_cell g i)) (walk_keeps prog (starting prog arguments (row_memory globals row)) h.before peak s h.walk g i (full globals row long g i low)) in
            some.1 ∙ sym (number_there g i some.0 low some.1)
        by false e = none_of (s.memory (global_cell g i)) (λ z some.
            let within : i < size_in globals g = subst (λ (x : ℕ). i < x) (size_is g) (h.shown.inside (global_cell g i) z some) in
            absurd (let t : true ≡ false = sym (lt-ltb i (size_in globals g) within) ∙ e in cc))

    -- each cell of the globals is there
    pub covered : (g i : ℕ) → i < size_in globals g → IsSome (slice_get items (start_in globals g + i))
    covered g i low =
        let some = some_of (s.memory (global_cell g i)) (walk_keeps prog (starting prog arguments (row_memory globals row)) h.before peak s h.walk g i (full globals row long g i low)) in
        let at : slice_get items (start_in globals g + i) ≡ Some some.0 = number_there g i some.0 low some.1 in
        subst (λ (o : Option ℤ). IsSome o) (sym at) refl

    local_at_end : (owner : Path) (n i : ℕ) → cleared s.path s.memory (record { object = Local owner n; index = i }) ≡ None
    local_at_end owner n i = by (same_path s.path owner) refl
      where
        c : Cell
        c = record { object = Local owner n; index = i }

        by : (b : Bool) → same_path s.path owner ≡ b → override (cond b (Some None) None) (s.memory c) ≡ None
        by true e = refl
        by false e = none_of (s.memory c) (λ z some.
            let within : i < l.cells (Local owner n) = h.shown.inside c z some in
            let none = no_other owner n e in
            absurd (omega (arith, within, none)))

    all_at_end : (o : Object) (i : ℕ) → cleared s.path s.memory (record { object = o; index = i }) ≡ in_row globals items o i
    all_at_end (Shared g) i = global_at_end g i
    all_at_end (Local owner n) i = local_at_end owner n i

    memory_at_end : cleared s.path s.memory ≡ row_memory globals items
    memory_at_end = λ i c. all_at_end c.object c.index i

    pub row_means : IsSerialMeaning prog arguments (row_memory globals row) (record { ending = Gave (Some result); memory = row_memory globals items; count = done; depth = peak })
    row_means =
        let m = steps_mean prog arguments (row_memory globals row) h.before peak s (Some result) h.walk h.ends.root h.ends.returns in
        let same : ◌≡◌ {A = Outcome} (record { ending = Gave (Some result); memory = cleared s.path s.memory; count = suc h.before; depth = peak })
        (record { ending = Gave (Some result); memory = row_memory globals items; count = done; depth = peak }) =
        λ i. record { ending = Gave (Some result); memory = memory_at_end i; count = sym h.last i; depth = peak } in
        subst (IsSerialMeaning prog arguments (row_memory globals row)) same m

-- on the engine's stack of boxes
pub ends_in_row : (prog : Program) (places : Places) (globals : List ℕ) (start : Run) (done peak : ℕ) (k : Stack) (result : ℤ) →
    HasEnded globals prog places start done peak k result → EndsInRow globals prog start done peak k.cells.cells.items result
ends_in_row prog places globals start done peak k result h = record {
  run = h.run;
  before = h.before;
  walk = h.walk;
  last = h.last;
  ends = h.ends;
  tall = h.shown.top.tall;
  shown = subst
      (λ (f : Flat).
      ShowsCells (layout_of globals prog (frames_of h.run)) (is_cell f.cells.items) (λ a z. cell_in f.cells.items a ≡ Some z)
      h.run.memory)
      (sym h.cells) h.shown.cells;
}

pub rows_mean : RowsMean
rows_mean prog places globals arguments row long small done peak k result h =
    row_means prog globals arguments row long small done peak k.cells.cells.items result (ends_in_row prog places globals (starting prog arguments (row_memory globals row)) done peak k result h)
