-- The laws on accepted programs that a machine rests on.
use Rattle.std.proofs.Common.{◌≡◌, ℕ, zero, suc, ◌<◌, ◌≤◌, List, [], ◌∷◌, ◌++◌, length, map, None, Some, arith, refl, ap, sym, subst, slice_get, ℤ}
use Rattle.std.specs.Prelude.{IsSome}
use Rattle.semantics.specs.Events.{Event, start}
use Rattle.semantics.specs.Frames.{global_cells}
use Rattle.semantics.specs.Replay.{replay}
use Rattle.program.specs.declared.function.Global.{Global}
use Rattle.program.specs.declared.function.Program.{Program}
use Rattle.serial_machine.specs.verifier.Accepted.{IsAccepted}
use Rattle.serial_machine.specs.store.Requirements.{unmet_in}
use Rattle.serial_machine.specs.store.Cells.{NamedCells, cell_at}
use Rattle.serial_machine.specs.store.Made.{IsMadeFor}
use Rattle.serial_machine.specs.store.Named.{HasGlobalCells}
use Rattle.serial_machine.specs.store.Rows.{sizes_of}
use Rattle.serial_machine.specs.laws_schedule.Promise.{AreTaken, HasGlobals}
use Rattle.serial_machine.proofs.Arguments.{are_taken}
use Rattle.serial_machine.proofs.Globals.{globals_given}
use Rattle.serial_machine.proofs.laws_schedule.Promise.{accepted_programs_keep_their_promise}
use Rattle.serial_machine.proofs.laws_schedule.safe.Safe.{schedules_are_safe}
use Rattle.schedule_core.specs.laws_workers.Safe.{StartFits}
use Rattle.schedule_core.proofs.laws_workers.Going.{workers_runs_are_safe}
use Rattle.schedule_core.proofs.laws_workers.Texts.{texts_fit, starts_fit}
use Rattle.schedule_core.specs.laws_workers.strands.StrandsPromise.{StaysSafeAsStrands}
use Rattle.schedule_core.proofs.laws_workers.strands.Law.{frames_go_as_strands}
use Rattle.schedule_workers.specs.Going.{RunsSafely, TextFits}
use Rattle.frame_engine.specs.Fits.{HasMoves}
use Rattle.schedule_workers.specs.Starts.{ArePlaces}
use Rattle.frame_engine.specs.declared.activation.Places.{Places}
use Rattle.schedule_core.specs.Replaying.{KeepsItsSchedule, event_of}
use Rattle.schedule_core.specs.Stages.{AreFull, given}
use Rattle.schedule_core.proofs.Depths.{stays_low}
use Rattle.frame.specs.declared.event.Event.{Event as MachineEvent}

-- of one program, from arguments that `main` takes and memory that was made for it
pub record FromStart (program : Program) (arguments : List ℤ) (globals : List NamedCells) (workers : ℕ) : Type 0 where
  -- no worker's step traps, and each frame in a worker's hand can do its step (crew_promise)
  pub safe : RunsSafely program workers (start program arguments (given globals))
  -- a worker's frame may go on as a strand, with other numbers in the cells (strand_promise)
  pub strands : (events : List Event) → StaysSafeAsStrands program (replay program workers events (start program arguments (given globals)))
  -- globals keep their numbers (schedule_theorem's `schedules_are_safe`)
  pub full : (events : List Event) → AreFull program (replay program workers events (start program arguments (given globals))).core.memory
  -- the schedule theorem (schedule_theorem's `accepted_programs_keep_their_promise`)
  pub keeps : (events : List MachineEvent) → KeepsItsSchedule program arguments globals workers events

pub record Laws : Type 0 where
  -- (crew_promise's `texts_fit`)
  pub texts_fit : (program : Program) → IsAccepted program → (places : Places) → ArePlaces program places → (moves : ℕ) → HasMoves program moves →
      TextFits program places moves
  pub from_start : (program : Program) → IsAccepted program → (arguments : List ℤ) → unmet_in program arguments ≡ None → (globals : List NamedCells) →
      IsMadeFor program globals → (workers : ℕ) → 1 ≤ workers → FromStart program arguments globals workers
  -- `main` is there, has an entry, and registers for its arguments (crew_promise's `starts_fit`)
  pub main : (program : Program) → IsAccepted program → (arguments : List ℤ) → unmet_in program arguments ≡ None → StartFits program arguments

-- ---- memory that was made for a program has its cells

there : (xs : List ℤ) (i : ℕ) → i < length xs → IsSome (slice_get xs i)
there [] i low = absurd (omega (arith, low))
there (x ∷ xs) zero low = refl
there (x ∷ xs) (suc i) low = there xs i (omega (arith, low))

cells_there : (m : List NamedCells) (globals : List Global) → sizes_of m ≡ map (λ (g : Global). g.cells) globals → (g i : ℕ) (global : Global) → slice_get globals g ≡ Some global → i < global.cells → IsSome (cell_at m g i)
cells_there m [] made g i global is low = absurd (cc)
cells_there [] (d ∷ globals) made g i global is low = absurd (cc)
cells_there (x ∷ m) (d ∷ globals) made zero i global is low =
    let same : length x.cells ≡ d.cells = (let both : length x.cells ∷ sizes_of m ≡ d.cells ∷ map (λ (g : Global). g.cells) globals = made in cc) in
    let one : d.cells ≡ global.cells = (let e : Some d ≡ Some global = is in let f : d ≡ global = cc in ap (λ (g : Global). g.cells) f) in
    there x.cells i (omega (arith, same, one, low))
cells_there (x ∷ m) (d ∷ globals) made (suc g) i global is low =
    let rest : sizes_of m ≡ map (λ (g : Global). g.cells) globals = (let both : length x.cells ∷ sizes_of m ≡ d.cells ∷ map (λ (g : Global). g.cells) globals = made in cc) in
    cells_there m globals rest g i global is low

pub made_cells : (program : Program) (globals : List NamedCells) → IsMadeFor program globals → HasGlobalCells program globals
made_cells program globals made g i global is low = cells_there globals program.globals made g i global is low

-- ---- put together

module _ (program : Program) (a : IsAccepted program) (arguments : List ℤ) (none : unmet_in program arguments ≡ None) where
  taken : AreTaken program arguments
  taken = are_taken program arguments none

  main : StartFits program arguments
  main = starts_fit a.text program a.means arguments taken

  module _ (globals : List NamedCells) (made : IsMadeFor program globals) (workers : ℕ) (some : 1 ≤ workers) where
    valued : HasGlobals program (given globals)
    valued = globals_given program globals (made_cells program globals made)

    from : FromStart program arguments globals workers
    from = record {
      safe = workers_runs_are_safe a.text program a.means arguments (given globals) taken valued workers some;
      strands = λ events. frames_go_as_strands a.text program a.means arguments (given globals) taken valued workers some events;
      full = λ events g i global is low.
          (schedules_are_safe a.text program a.means arguments (given globals) taken valued workers some events).globals g i (subst (λ o. i < global_cells o) (sym is) low);
      keeps = λ events.
          let p = accepted_programs_keep_their_promise a.text program a.means arguments (given globals) taken valued in
          record {
            serial = p.serial;
            is_serial = p.is_serial;
            within_budget = p.within_budget;
            within_depth = p.within_depth;
            schedule = p.every_schedule workers some (map event_of events);
            low = stays_low program workers p.serial arguments (given globals) (p.every_schedule workers some) (map event_of events);
            onwards = λ more. p.every_schedule workers some (map event_of (events ++ more));
            low_onwards = λ more. stays_low program workers p.serial arguments (given globals) (p.every_schedule workers some) (map event_of (events ++ more));
          };
    }

pub laws : Laws
laws = record {
  texts_fit = λ program a places at moves has. texts_fit a.text program a.means places moves at.globals at.allocas has;
  from_start = λ program a arguments none globals made workers some. from program a arguments none globals made workers some;
  main = λ program a arguments none. main program a arguments none;
}
