-- Every schedule of a program that the verifier takes.
use Rattle.std.proofs.Common.{◌≡◌, ℕ, ◌≤◌, List, [], ℤ, Bool, true, sym, subst}
use Rattle.semantics.specs.Paths.{Path}
use Rattle.semantics.specs.Cells.{Memory}
use Rattle.laws_conditions.specs.theorem.Conditions.{ClosesRegions}
use Rattle.semantics.specs.Frames.{Frame}
use Rattle.semantics.specs.State.{root_frame}
use Rattle.semantics.specs.SerialMeaning.{Outcome, IsSerialMeaning}
use Rattle.semantics.specs.Events.{Event, start}
use Rattle.semantics.specs.Replay.{replay}
use Rattle.laws_conditions.specs.theorem.Schedules.{KeepsSchedule}
use Rattle.laws_conditions.proofs.theorem.EverySchedule.{kept_by_schedules}
use Rattle.laws_conditions.proofs.theorem.SerialExists.{serial_alone}
use Rattle.program.specs.declared.function.Program.{Program}
use Rattle.laws_phases.specs.region_match.declared.tables.Regions.{Regions}
use Rattle.verifier.specs.Accepted.{AreTasksOf}
use Rattle.verifier.specs.Budgets.{depth_of, IsDepthOf}
use Rattle.laws_phases.specs.defined.Placed.{IsPlaced}
use Rattle.laws_phases.proofs.facts.Handed.{facts_at_start}
use Rattle.laws_schedule.specs.zones.Keeping.{Keeping, OfTask, kept_cells, pending_at, Fits, Expects}
use Rattle.laws_schedule.specs.zones.ByPhases.{NamesZones, GivesWidths}
use Rattle.laws_schedule.proofs.zones.Conditions.{zones_are_met}
use Rattle.laws_schedule.proofs.zones.Starting.{zones_at_start}
use Rattle.laws_schedule.specs.zones.Conditions.{MeetsZones}
use Rattle.laws_schedule.specs.zones.ByPhases.{IsJudged}
use Rattle.laws_phases.specs.costs.Ends.{EndsWithinBudget}
use Rattle.laws_schedule.specs.Promise.{AreTaken, HasGlobals, KeepsItsPromise}
use Rattle.laws_schedule.proofs.Accepted.{IsTaken, regions_of, judged}
use Rattle.laws_schedule.proofs.Runs.{MakesReady, first_placed, gives as gives_number, ends, within_budget, within_depth}
use Rattle.laws_schedule.proofs.Starting.{met_at_root}

module _ (program : Program) (t : IsTaken program) (zones : NamesZones program) (kinded : Path → Frame → Bool)
    (gives : GivesWidths program (λ p f. kinded p f ≡ true)) (ready : MakesReady program (λ p f. kinded p f ≡ true))
    (opens : Path → Frame → ℕ → Bool) (closes : ClosesRegions program (λ p f. IsPlaced program f) opens)
    (arguments : List ℤ) (memory : Memory) (given : AreTaken program arguments) (globals : HasGlobals program memory)
    (begun : kinded [] (root_frame program arguments) ≡ true)
  where
    abbrev base : Path → Frame → Type 0
    base p f = kinded p f ≡ true

    met : IsJudged program (regions_of program t)
    met = judged program t zones

    zoned : MeetsZones program (regions_of program t) base
    zoned = zones_are_met program (regions_of program t) kinded met gives

    abbrev placed : IsPlaced program (root_frame program arguments)
    placed = first_placed program t base gives.kept gives.widths ready arguments memory given globals begun

    abbrev root_zone : Keeping
    root_zone = OfTask (root_frame program arguments) placed.function.zones []

    root_fits : Fits program (regions_of program t) base [] (root_frame program arguments) root_zone
    root_fits =
        zones_at_start program (regions_of program t) kinded met arguments placed.function placed.block placed.is begun
        (facts_at_start program met.ranges arguments (met_at_root program arguments given))

    by_schedules : (o : Outcome) → IsSerialMeaning program arguments memory o → (workers : ℕ) → 1 ≤ workers → (events : List Event) →
        KeepsSchedule program workers o (replay program workers events (start program arguments memory))
    by_schedules o meant workers some events =
        kept_by_schedules Keeping (kept_cells program) program (Fits program (regions_of program t) base) (pending_at program)
        (Expects program)
        (λ p f. IsPlaced program f) opens zoned.stays zoned.passes closes arguments memory root_zone root_fits placed
        o meant workers some events

    abbrev run : (regions : Regions) → AreTasksOf program regions → EndsWithinBudget program regions arguments memory
    run regions table = ends program t base gives.kept gives.widths ready arguments memory given globals begun regions table

    -- by any table of the blocks' tasks
    depth_met : (o : Outcome) → IsSerialMeaning program arguments memory o → (depth : ℕ) → IsDepthOf program depth → o.depth ≤ depth
    depth_met o meant depth (regions, table, is) =
        let other = run regions table in
        let same : other.outcome ≡ o = serial_alone program arguments memory other.outcome o other.serial meant in
        let low = within_depth program t base gives.kept gives.widths ready arguments memory given globals begun regions table in
        subst (λ n. o.depth ≤ n) (sym is) (subst (λ (x : Outcome). x.depth ≤ depth_of program regions) same low)

    pub keeps : KeepsItsPromise program arguments memory
    keeps =
        let table : AreTasksOf program (regions_of program t) = t.right.zones.1 in
        let e = run (regions_of program t) table in
        record {
          serial = e.outcome;
          is_serial = e.serial;
          only_one = λ other meant. serial_alone program arguments memory other e.outcome meant e.serial;
          gives = gives_number program t base gives.kept gives.widths ready arguments memory given globals begun e.outcome e.serial;
          within_budget = within_budget program t base gives.kept gives.widths ready arguments memory given globals begun
              (regions_of program t) table;
          within_depth = λ depth is. depth_met e.outcome e.serial depth is;
          every_schedule = λ workers some events. by_schedules e.outcome e.serial workers some events;
        }
