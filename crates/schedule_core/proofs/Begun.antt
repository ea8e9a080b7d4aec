-- The stage before the first event.
use Rattle.std.proofs.Common.{◌≡◌, ℕ, zero, suc, ◌+◌, ◌<◌, ◌≤◌, List, [], ◌∷◌, ◌++◌, length, map, take, Some, None, Bool, refl, sym, ap, ◌∙◌, subst, arith, slice_get, append_assoc, ℤ}
use Rattle.std.specs.Prelude.{sum, Result, Ok, Err, OnOk}
use Rattle.std.specs.List.{fold}
use Rattle.std.proofs.lemmas.List.{length-append}
use Rattle.program.specs.declared.function.Global.{Global}
use Rattle.program.specs.declared.function.Program.{Program}
use Rattle.lists.specs.declared.memory.OutOfMemory.{OutOfMemory}
use Rattle.serial_machine.specs.laws_conditions.theorem.Schedules.{KeepsSchedule}
use Rattle.serial_machine.specs.verifier.Accepted.{IsAccepted}
use Rattle.serial_machine.specs.store.Requirements.{unmet_in}
use Rattle.serial_machine.specs.store.Cells.{NamedCells, cell_at}
use Rattle.serial_machine.specs.store.Rows.{sizes_of}
use Rattle.serial_machine.specs.store.Refilled.{row_of}
use Rattle.schedule_workers.specs.Follows.{AreGiven}
use Rattle.schedule_workers.specs.Stalls.{StallsAgree, no_blocks}
use Rattle.frame_engine.specs.Fits.{HasMoves}
use Rattle.schedule_workers.specs.Starts.{ArePlaces, Begins, IsRowOf}
use Rattle.frame.specs.declared.event.Event.{Event}
use Rattle.schedule_core.specs.declared.stage.Stage.{Stage}
use Rattle.schedule_core.specs.Replaying.{IsMachine, KeepsItsSchedule, KeepsSchedules, Replays, first_state}
use Rattle.serial_machine.specs.store.Made.{IsMadeFor}
use Rattle.schedule_core.specs.Stages.{IsState, given, program_of, workers_of}
use Rattle.schedule_core.proofs.Grounds.{FromStart, laws}

-- ---- the row of the globals

summed : (at : ℕ) (cells : List ℕ) → fold (λ (s x : ℕ). s + x) at cells ≡ at + fold (λ (s x : ℕ). s + x) 0 cells
summed at [] = omega arith
summed at (c ∷ cells) = let first = summed (at + c) cells in let rest = summed (0 + c) cells in omega (arith, first, rest)

sum_more : (n : ℕ) (l : List ℕ) → sum (n ∷ l) ≡ n + sum l
sum_more n l = let s = summed (0 + n) l in omega (arith, s)

get_front : (xs ys : List ℤ) (i : ℕ) (z : ℤ) → slice_get xs i ≡ Some z → slice_get (xs ++ ys) i ≡ Some z
get_front [] ys i z e = absurd (cc)
get_front (x ∷ xs) ys zero z e = e
get_front (x ∷ xs) ys (suc i) z e = get_front xs ys i z e

get_back : (xs ys : List ℤ) (j : ℕ) → slice_get (xs ++ ys) (length xs + j) ≡ slice_get ys j
get_back [] ys j = ap (λ (n : ℕ). slice_get ys n) (let e : 0 + j ≡ j = omega arith in e)
get_back (x ∷ xs) ys j = let e : suc (length xs) + j ≡ suc (length xs + j) = omega arith in ap (λ (n : ℕ). slice_get (x ∷ (xs ++ ys)) n) e ∙ get_back xs ys j

row_held : (m : List NamedCells) (g i : ℕ) (z : ℤ) → cell_at m g i ≡ Some z → slice_get (row_of m) (sum (take g (sizes_of m)) + i) ≡ Some z
row_held [] g i z e = absurd (cc)
row_held (x ∷ m) zero i z e = let n : i ≡ 0 + i = omega arith in subst (λ k. slice_get (x.cells ++ row_of m) k ≡ Some z) n (get_front x.cells (row_of m) i z e)
row_held (x ∷ m) (suc g) i z e =
    let s = sum (take g (sizes_of m)) in
    let more = sum_more (length x.cells) (take g (sizes_of m)) in
    let n : length x.cells + (s + i) ≡ sum (length x.cells ∷ take g (sizes_of m)) + i = omega (arith, more) in
    subst (λ k. slice_get (x.cells ++ row_of m) k ≡ Some z) n (get_back x.cells (row_of m) (s + i) ∙ row_held m g i z e)

pub row_long : (m : List NamedCells) → length (row_of m) ≡ sum (sizes_of m)
row_long [] = refl
row_long (x ∷ m) = length-append x.cells (row_of m) ∙ (ap (λ (n : ℕ). length x.cells + n) (row_long m) ∙ sym (sum_more (length x.cells) (sizes_of m)))

low : (xs : List ℤ) (i : ℕ) (z : ℤ) → slice_get xs i ≡ Some z → i < length xs
low [] i z e = absurd (cc)
low (x ∷ xs) zero z e = omega arith
low (x ∷ xs) (suc i) z e = let k = low xs i z e in omega (arith, k)

-- a global that holds a cell is declared, with as many cells
declared : (m : List NamedCells) (globals : List Global) → sizes_of m ≡ map (λ (g : Global). g.cells) globals → (g i : ℕ) (z : ℤ) → cell_at m g i ≡ Some z →
    (global : Global) × (slice_get globals g ≡ Some global) × (i < global.cells)
declared [] globals made g i z e = absurd (cc)
declared (x ∷ m) [] made g i z e = absurd (cc)
declared (x ∷ m) (d ∷ globals) made zero i z e =
    let same : length x.cells ≡ d.cells = (let both : length x.cells ∷ sizes_of m ≡ d.cells ∷ map (λ (g : Global). g.cells) globals = made in cc) in
    let k = low x.cells i z e in
    (d, refl, omega (arith, same, k))
declared (x ∷ m) (d ∷ globals) made (suc g) i z e =
    let rest : sizes_of m ≡ map (λ (g : Global). g.cells) globals = (let both : length x.cells ∷ sizes_of m ≡ d.cells ∷ map (λ (g : Global). g.cells) globals = made in cc) in
    declared m globals rest g i z e

pub row_is : (prog : Program) (m : List NamedCells) → IsMadeFor prog m → IsRowOf prog (given m) (row_of m)
row_is prog m made = record {
  long = row_long m ∙ ap sum made;
  within = λ g i z e. declared m prog.globals made g i z e;
  held = λ g i z e. subst (λ (l : List ℕ). slice_get (row_of m) (sum (take g l) + i) ≡ Some z) made (row_held m g i z e);
}

-- ---- the first stage

module _ (stage : Stage) (accepted : IsAccepted (program_of stage)) (arguments : List ℤ) (none : unmet_in (program_of stage) arguments ≡ None) (made : IsMadeFor (program_of stage) stage.memory)
    (workers : ℕ) (some : 0 < workers) (places : ArePlaces (program_of stage) stage.places) (begins : Begins (program_of stage) arguments (row_of stage.memory) stage.run)
    (many : length stage.run.hands.items ≡ workers) (stalls : StallsAgree no_blocks stage.run.cactus) where
  from : FromStart (program_of stage) arguments stage.memory (workers_of stage)
  from = laws.from_start (program_of stage) accepted arguments none stage.memory made (workers_of stage) (omega (arith, some, many))

  begun : IsState stage (first_state (program_of stage) arguments stage.memory)
  begun = record {
    shown = begins stage.places (given stage.memory) places (row_is (program_of stage) stage.memory made);
    manned = omega (arith, some, many);
    reached = record { arguments = arguments; memory = given stage.memory; events = []; after = refl };
    well = record { safe = from.safe; strands = from.strands; full = from.full };
  }

  pub begun_replays : Replays (program_of stage) arguments stage.memory workers [] stage
  begun_replays = subst (λ n. Replays (program_of stage) arguments stage.memory n [] stage) many own
    where
      own : Replays (program_of stage) arguments stage.memory (workers_of stage) [] stage
      own = record { program = refl; as_many = refl; globals_are = refl; state = begun; stalls = stalls }

  pub begun_machine : HasMoves (program_of stage) (length stage.run.moves.items) → sum (sizes_of stage.memory) < 9223372036854775808 → AreGiven stage.run.cactus → IsMachine stage
  begun_machine moves small given = record {
    accepted = accepted;
    moves = moves;
    places = places;
    made = made;
    small = small;
    given = given;
    arguments = arguments;
    taken = none;
    events = [];
    replays = record { program = refl; as_many = refl; globals_are = refl; state = begun; stalls = stalls };
  }

-- ---- the schedule theorem

pub kept_by : (prog : Program) (arguments : List ℤ) (globals : List NamedCells) (workers : ℕ) (stage : Stage) → IsMachine stage → Replays prog arguments globals workers [] stage →
    unmet_in prog arguments ≡ None → IsMadeFor prog globals → 0 < workers → (events : List Event) → KeepsItsSchedule prog arguments globals workers events
kept_by prog arguments globals workers stage m r none made some events =
    (laws.from_start prog (subst (λ q. IsAccepted q) r.program m.accepted) arguments none globals made workers (omega (arith, some))).keeps events

-- and so of whatever led to a stage
pub kept_all : (stage : Stage) → IsAccepted (program_of stage) → KeepsSchedules stage
kept_all stage accepted prog arguments globals workers events none made r =
    (laws.from_start prog (subst (λ q. IsAccepted q) r.program accepted) arguments none globals made workers (subst (λ (n : ℕ). 1 ≤ n) r.as_many r.state.manned)).keeps events
