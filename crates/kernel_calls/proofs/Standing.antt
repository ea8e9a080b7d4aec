-- What is told of a run.
use Rattle.std.proofs.Common.{◌≡◌, ◌∙◌, ◌<◌, ◌≤◌, List, length, Option, None, Some, false, is_some, refl, subst, sym, ℕ, ℤ}
use Rattle.std.specs.Prelude.{sum}
use Rattle.program.specs.declared.function.Program.{Program}
use Rattle.semantics.specs.Events.{Machine}
use Rattle.kernel_calls.specs.hosted.Hosted.{IsProgress, IsTold}
use Rattle.kernel_calls.specs.declared.hosted.met.Met.{Met}
use Rattle.kernel_calls.specs.declared.hosted.met.Met.TheVariants as told
use Rattle.kernel_calls.specs.declared.hosted.met.Progress.{Progress}
use Rattle.shared_run.specs.Story.{origin}
use Rattle.store.specs.Cells.{NamedCells}
use Rattle.shared_run.specs.Answer.{IsSerialAnswer, LeadTo}
use Rattle.store.specs.declared.outcome.Finished.{Finished}
use Rattle.kernel_calls.specs.Boards.{AnswersSerially, Begins, GoesOn, HasEnded, HasOtherCellsOfRun, IsNew, IsSpent, MayGoOn, OfRun, StandsHeld, StaysHeld}
use Rattle.kernel_calls.specs.Replayed.{StandsIn}
use Rattle.kernel_calls.specs.Runs.{Run, machine_of}
use Rattle.kernel_calls.specs.Told.{Shows, memory_from, sizes_in}
use Rattle.kernel_calls.specs.declared.told.Outcome.{Outcome}

-- ---- one that begins

pub begins_here : (program own : Program) (arguments row : List ℤ) (memory : List NamedCells) (workers fuel : ℕ) (run : Run) (state : Option Run) →
    length row ≡ sum (sizes_in program) → own ≡ program → memory ≡ memory_from program row → IsNew (origin own arguments memory workers) fuel run → state ≡ Some run →
    Begins program arguments row workers fuel state
begins_here program own arguments row memory workers fuel run state long same is new held = record {
  long = long;
  run = run;
  state_is = held;
  new = subst (λ (m : List NamedCells). IsNew (origin program arguments m workers) fuel run) is
      (subst (λ (p : Program). IsNew (origin p arguments memory workers) fuel run) same new);
}

-- ---- one that has not ended

none_of : (o : Option ℤ) → is_some o ≡ false → o ≡ None
none_of None is = refl
none_of (Some z) is = absurd (cc)

stands_now : (machine : Machine) (progress : Progress) (outcome : Outcome) → IsProgress machine progress → progress.ended ≡ false → outcome.instructions ≡ progress.instructions →
    outcome.peak ≡ progress.peak → StandsIn machine outcome
stands_now machine progress outcome has unended instructions peak = record {
  unended = none_of machine.core.result (sym has.ended ∙ unended);
  instructions = instructions ∙ has.instructions;
  peak = peak ∙ has.peak;
}

pub stands_in : (old new : Run) (progress : Progress) (outcome : Outcome) → new ≡ old → IsProgress (machine_of new) progress → progress.ended ≡ false →
    outcome.instructions ≡ progress.instructions → outcome.peak ≡ progress.peak → StandsIn (machine_of old) outcome
stands_in old new progress outcome same has unended instructions peak =
    subst (λ (r : Run). StandsIn (machine_of r) outcome) same (stands_now (machine_of new) progress outcome has unended instructions peak)

-- ---- behind a meeting

pub works : (old new : Run) (met : Met) → GoesOn old new → IsTold (machine_of new) old.fuel met → met ≡ told.Work → MayGoOn new
works old new met goes is_told is =
    let t = subst (λ (m : Met). IsTold (machine_of new) old.fuel m) is is_told in
    record { unended = t.0; within = subst (λ (f : ℕ). (machine_of new).core.done < f) (sym goes.fuel) t.1 }

pub idles : (old new : Run) (met : Met) → GoesOn old new → IsTold (machine_of new) old.fuel met → met ≡ told.Idle → MayGoOn new
idles old new met goes is_told is =
    let t = subst (λ (m : Met). IsTold (machine_of new) old.fuel m) is is_told in
    record { unended = t.0; within = subst (λ (f : ℕ). (machine_of new).core.done < f) (sym goes.fuel) t.1 }

pub spent : (old new : Run) (met : Met) → GoesOn old new → IsTold (machine_of new) old.fuel met → met ≡ told.OutOfFuel → IsSpent new
spent old new met goes is_told is =
    let t = subst (λ (m : Met). IsTold (machine_of new) old.fuel m) is is_told in
    record { unended = t.0; beyond = subst (λ (f : ℕ). f ≤ (machine_of new).core.done) (sym goes.fuel) t.1 }

pub ended : (old new : Run) (met : Met) → IsTold (machine_of new) old.fuel met → met ≡ told.Ended → HasEnded new
ended old new met is_told is = subst (λ (m : Met). IsTold (machine_of new) old.fuel m) is is_told

-- ---- what a handle holds behind it

goes_nowhere : (run : Run) → GoesOn run run
goes_nowhere run = record { start = refl; fuel = refl }

pub stays_some : (old new : Option Run) (run : Run) → old ≡ Some run → OfRun new (GoesOn run) → StaysHeld old new
stays_some old new run is goes = subst (λ (o : Option Run). StaysHeld o new) (sym is) goes

pub stays_none : (old new : Option Run) → old ≡ None → new ≡ None → StaysHeld old new
stays_none old new is none = subst (λ (o : Option Run). StaysHeld o new) (sym is) none

pub stays_same : (old new : Option Run) → new ≡ old → StaysHeld old new
stays_same None new same = same
stays_same (Some run) new same = (run, same, goes_nowhere run)

-- ---- at the end

pub answers_here : (old now : Run) (finished : Finished) (row : List ℤ) (outcome : Outcome) → now ≡ old → IsSerialAnswer now.start finished → LeadTo now.start now.events finished →
    Shows finished row outcome → AnswersSerially (Some old) row outcome
answers_here old now finished row outcome same answer replays shown = record {
  run = old;
  held = refl;
  finished = finished;
  answer = subst (λ (r : Run). IsSerialAnswer r.start finished) same answer;
  replays = subst (λ (r : Run). LeadTo r.start r.events finished) same replays;
  shown = shown;
}

pub answers_held : (state : Option Run) (run : Run) (row : List ℤ) (outcome : Outcome) → state ≡ Some run → AnswersSerially (Some run) row outcome → AnswersSerially state row outcome
answers_held state run row outcome is answers = subst (λ (o : Option Run). AnswersSerially o row outcome) (sym is) answers

pub stands_held : (state : Option Run) (run : Run) (outcome : Outcome) → state ≡ Some run → StandsHeld (Some run) outcome → StandsHeld state outcome
stands_held state run outcome is stands = subst (λ (o : Option Run). StandsHeld o outcome) (sym is) stands

pub other_held : (state : Option Run) (run : Run) (row : List ℤ) → state ≡ Some run → HasOtherCellsOfRun (Some run) row → HasOtherCellsOfRun state row
other_held state run row is other = subst (λ (o : Option Run). HasOtherCellsOfRun o row) (sym is) other
