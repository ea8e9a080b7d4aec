-- Each living frame is safe, whatever the schedule.
use Rattle.std.proofs.Common.{◌≡◌, ◌∙◌, ℕ, suc, ◌<◌, ◌≤◌, List, [], ◌∷◌, Option, Some, None, Bool, true, false, is_some, sym, ap, subst, arith, le_trans, ℤ}
use Rattle.semantics.specs.Paths.{Path}
use Rattle.semantics.specs.Cells.{Memory}
use Rattle.laws_conditions.specs.theorem.Conditions.{ClosesRegions}
use Rattle.semantics.specs.Effect.{Return, action_of}
use Rattle.semantics.specs.Frames.{Frame, Ends, item_at}
use Rattle.semantics.specs.State.{State}
use Rattle.semantics.specs.Events.{Machine, Event, Step, start}
use Rattle.semantics.specs.Replay.{or_unchanged, replay}
use Rattle.semantics.specs.Sound.{NeverTraps}
use Rattle.laws_conditions.specs.theorem.Schedules.{KeepsSchedule}
use Rattle.program.specs.declared.function.Program.{Program}
use Rattle.program.specs.declared.instruction.Terminator.{Terminator}
use Rattle.program.specs.declared.instruction.Terminator.TheVariants as terminator
use Rattle.verifier.specs.Accepted.{IsProgramOf}
use Rattle.verifier.specs.Budgets.{budget_of}
use Rattle.laws_conditions.specs.rules.Registers.{returns_number}
use Rattle.laws_conditions.proofs.rules.Moves.{GivenBack, returns_here}
use Rattle.laws_phases.specs.defined.Names.{IsNamed}
use Rattle.laws_phases.specs.defined.Placed.{IsPlaced}
use Rattle.laws_phases.proofs.defined.Placed.{places_have_items}
use Rattle.laws_phases.specs.regions.Closed.{ClosesByPlace}
use Rattle.laws_phases.proofs.regions.Closed.{regions_are_closed, starts_in_place}
use Rattle.laws_schedule.specs.zones.ByPhases.{IsKeptBySteps}
use Rattle.laws_phases.specs.facts.Traps.{MayDo}
use Rattle.laws_schedule.specs.kinds.Holding.{HasKindedRegisters}
use Rattle.laws_schedule.specs.kinds.Uses.{HasKindedUses}
use Rattle.laws_schedule.proofs.kinds.Kept.{kinds_are_kept, starts_kinded}
use Rattle.laws_schedule.proofs.kinds.Uses.{uses_are_kinded}
use Rattle.laws_schedule.specs.safe.Sizes.{HasSizedUses}
use Rattle.laws_schedule.proofs.safe.Sizes.{uses_are_sized}
use Rattle.laws_schedule.specs.Promise.{AreTaken, HasGlobals, KeepsItsPromise}
use Rattle.laws_schedule.proofs.Accepted.{IsTaken, is_taken}
use Rattle.laws_schedule.proofs.Bounds.{budget_bounded}
use Rattle.laws_schedule.proofs.Promise.{accepted_programs_keep_their_promise}
use Rattle.laws_schedule.proofs.Starting.{as_many}
use Rattle.laws_schedule.specs.safe.Kept.{OfAll, IsWithin}
use Rattle.laws_schedule.specs.safe.Objects.{KnowsObjects}
use Rattle.laws_schedule.specs.safe.Steps.{IsSteady}
use Rattle.laws_schedule.proofs.safe.Counted.{frames_are_counted}
use Rattle.laws_schedule.proofs.safe.Everywhere.{everywhere, of_first}
use Rattle.laws_schedule.proofs.safe.Held.{always_rooted, held_frames_are_steady, globals_stay}
use Rattle.laws_schedule.proofs.safe.Objects.{objects_are_known}
use Rattle.laws_schedule.proofs.safe.Replayed.{from_later, held_next}
use Rattle.laws_schedule.specs.safe.Promise.{IsSafeRun, SchedulesAreSafe}
use Rattle.laws_schedule.specs.safe.Safe.{HasPlace, CanStep, IsSafe}
use Rattle.laws_schedule.proofs.safe.Bounds.{registers_bound}
use Rattle.laws_schedule.proofs.safe.Cells.{uses_there}
use Rattle.laws_schedule.proofs.safe.Registers.{reads_hold}

-- what the conditions on regions keep of frames is kept by each step
placed_kept : (prog : Program) (holds : Path → Frame → Type 0) (opens : Path → Frame → ℕ → Bool) → ClosesRegions prog holds opens → IsKeptBySteps prog holds
placed_kept prog holds opens closes = record {
  plain = λ p f m e h going at fine. (closes.plain_holds p f m e h going at fine).0;
  child = λ p f m r b n h going at. (closes.detach_holds p f m r b n h going at).0;
  continues = λ p f m r b n h going at. (closes.detach_holds p f m r b n h going at).1;
  syncs = λ p f m r b rs h going at. (closes.sync_holds p f m r b rs h going at).0;
  callee = λ p f m d g vs h going at. (closes.call_holds p f m d g vs h going at).0;
  waits = λ p f m d g vs h going at. (closes.call_holds p f m d g vs h going at).1;
  resumes = λ p f k d v h waits. (closes.resume_holds p f k d v h waits).0;
}

one_more : (done after count budget : ℕ) → after ≡ suc done → after ≤ count → count ≤ budget → done < budget
one_more done after count budget e low within = omega (arith, e, low, within)

-- `main` gives a number
number_given : (prog : Program) → IsNamed prog → returns_number prog prog.main.0 ≡ true → (p : Path) (f : Frame) (m : Memory) → f.function ≡ prog.main.0 → (v : Option ℤ) → action_of prog p f m ≡ Return v → is_some v ≡ true
number_given prog named gives p f m main v at = let (t, is, back) = returns_here prog p f m v at in by t is back
  where
    by : (t : Terminator) → item_at prog f.function f.block f.index ≡ Some (Ends t) → GivenBack t v → is_some v ≡ true
    by (terminator.Jump target) is back = absurd back
    by (terminator.Branch test x y) is back = absurd back
    by (terminator.Switch w a default cases) is back = absurd back
    by (terminator.Return None) is back =
        let none : returns_number prog f.function ≡ false = named.returns f.function f.block f.index is in
        let some : returns_number prog f.function ≡ true = ap (returns_number prog) main ∙ gives in
        absurd (let both : false ≡ true = sym none ∙ some in cc)
    by (terminator.Return (Some a)) is back = back
    by (terminator.Detach region body continuation) is back = absurd back
    by (terminator.Reattach region continuation) is back = absurd back
    by (terminator.Sync region target) is back = absurd back

module _ (text : List ℕ) (program : Program) (accepted : IsProgramOf text program) (arguments : List ℤ) (memory : Memory) (given : AreTaken program arguments) (globals : HasGlobals program memory) where
  taken : IsTaken program
  taken = is_taken text program accepted

  uses : HasKindedUses program
  uses = uses_are_kinded text program accepted

  sized : HasSizedUses program
  sized = uses_are_sized text program accepted

  closed : ClosesByPlace program
  closed = regions_are_closed program taken.names.named taken.right.graph taken.right.regions

  promise : KeepsItsPromise program arguments memory
  promise = accepted_programs_keep_their_promise text program accepted arguments memory given globals

  module _ (workers : ℕ) (some : 1 ≤ workers) (events : List Event) where
    abbrev first : Machine
    first = start program arguments memory

    abbrev m : Machine
    m = replay program workers events first

    never : NeverTraps program workers first
    never more = (promise.every_schedule workers some more).no_trap.0

    later : (more : List Event) → KeepsSchedule program workers promise.serial (replay program workers more m)
    later = from_later program workers (λ (x : Machine). KeepsSchedule program workers promise.serial x) events first (promise.every_schedule workers some)

    placed : OfAll m.core (λ p f. IsPlaced program f)
    placed =
        everywhere program (λ p f. IsPlaced program f) (placed_kept program (λ p f. IsPlaced program f) closed.opens closed.closes) workers first never
        (of_first program arguments memory (λ p f. IsPlaced program f) (starts_in_place program arguments taken.names.main.there)) events

    kinded : OfAll m.core (λ p f. HasKindedRegisters program f)
    kinded =
        everywhere program (λ p f. HasKindedRegisters program f) (kinds_are_kept program taken.names.typed taken.names.kinds) workers first never
        (of_first program arguments memory (λ p f. HasKindedRegisters program f) (starts_kinded program taken.names.kinds uses.main arguments (as_many program arguments given))) events

    known : OfAll m.core (KnowsObjects program m.core)
    known = objects_are_known program taken.names.named taken.names.objects arguments memory workers never events

    counted : OfAll m.core (IsWithin m.core.done)
    counted = frames_are_counted program arguments memory workers never events

    module _ (p : Path) (f : Frame) (is : m.core.frames p ≡ Some f) where
      place : HasPlace program f
      place =
          let at = placed p f is in
          let x = places_have_items program taken.right.graph f at in
          record { function = at.function; block = at.block; is = at.is; item = x.0; stands = x.1; bounds = registers_bound program taken.names.kinds taken.names.stable f.function at.function at.is.at_function }

      module _ (w : ℕ) (here : m.hands w ≡ Some p) where
        steady : IsSteady program m.core p f
        steady = held_frames_are_steady program arguments memory workers never events w p f here is

        budget_left : m.core.done < budget_of program
        budget_left =
            let next = held_next program workers m (λ more. (later more).no_trap.0) w p f here is in
            let within = (later (Step w ∷ [])).within_budget in
            let low : next.after.core.done ≤ promise.serial.count = subst (λ (o : Option Machine). (or_unchanged o m).core.done ≤ promise.serial.count) next.is within in
            one_more m.core.done next.after.core.done promise.serial.count (budget_of program) (ap (λ (s : State). s.done) next.core) low promise.within_budget

        can_step : CanStep program m.core p f place
        can_step =
            let (x, stands, may) = steady.ready in
            record {
              steady = steady;
              reads = λ r reads.
                  let same : x ≡ place.item = (let both : Some x ≡ Some place.item = sym stands ∙ place.stands in cc) in
                  reads_hold program taken.names.kinds uses p f m.core.memory (kinded p f is) place.function place.is.at_function place.item place.stands
                  (subst (λ y. MayDo program p f m.core.memory y) same may) r reads;
              cells = λ e mode c act u. uses_there program taken.names.named taken.names.objects sized m.core p f (known p f is) steady.ready e mode c act u;
              gives = λ top v at.
                  number_given program taken.names.named taken.names.main.gives p f m.core.memory ((always_rooted program arguments memory workers never events).first p f is top).function v at;
            }

      safe : IsSafe program (budget_of program) m p f
      safe = record { place = place; kinds = kinded p f is; objects = known p f is; counted = counted p f is; steps = λ w here. (can_step w here, budget_left w here) }

    pub safe_run : IsSafeRun program m
    safe_run = record {
      frames = safe;
      globals = λ g i low. globals_stay program arguments memory workers never events g i (globals g i low);
      within_budget = le_trans (later []).within_budget promise.within_budget;
      small = budget_bounded program taken.right.costs;
    }

pub schedules_are_safe : SchedulesAreSafe
schedules_are_safe text program accepted arguments memory given globals workers some events = safe_run text program accepted arguments memory given globals workers some events
