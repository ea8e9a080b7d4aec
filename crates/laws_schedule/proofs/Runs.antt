-- The serial run of a program that the verifier takes.
use Rattle.std.proofs.Common.{◌≡◌, ◌∙◌, ◌≤◌, List, [], Option, Some, None, ℤ, true, is_some, refl, ap}
use Rattle.semantics.specs.Paths.{Path}
use Rattle.semantics.specs.Cells.{Memory, globals_of}
use Rattle.semantics.specs.Frames.{Frame}
use Rattle.semantics.specs.State.{root_frame}
use Rattle.semantics.specs.SerialMeaning.{Gave, Outcome, IsSerialMeaning}
use Rattle.laws_conditions.specs.theorem.SerialConditions.{Nothing, KeptSerially}
use Rattle.program.specs.declared.function.Program.{Program}
use Rattle.laws_phases.specs.region_match.declared.tables.Regions.{Regions}
use Rattle.verifier.specs.Accepted.{AreTasksOf}
use Rattle.verifier.specs.Budgets.{budget_of, depth_of}
use Rattle.laws_conditions.specs.rules.Registers.{Registered}
use Rattle.laws_phases.specs.defined.Defined.{IsAlways}
use Rattle.laws_phases.specs.defined.Placed.{IsPlaced}
use Rattle.laws_phases.specs.defined.Regions.{UsesOwnRegions}
use Rattle.laws_phases.specs.defined.Values.{ReadsValues}
use Rattle.laws_phases.proofs.defined.Needed.{reads_have_values}
use Rattle.laws_phases.proofs.defined.Regions.{regions_are_own}
use Rattle.laws_phases.specs.facts.Owing.{HasWidths}
use Rattle.laws_phases.specs.facts.Traps.{IsReady}
use Rattle.laws_phases.specs.defined.Starting.{IsFirst}
use Rattle.laws_phases.proofs.defined.Starting.{starts_well}
use Rattle.laws_phases.specs.costs.Ends.{EndsWithinBudget}
use Rattle.laws_phases.proofs.costs.Ends.{whole_run}
use Rattle.laws_schedule.specs.zones.ByPhases.{IsKeptBySteps}
use Rattle.laws_schedule.specs.Promise.{AreTaken, HasGlobals}
use Rattle.laws_schedule.proofs.Accepted.{IsTaken, rules_right}
use Rattle.laws_schedule.proofs.Bounds.{depth_within}
use Rattle.laws_schedule.proofs.Findings.{found, gives_result}
use Rattle.laws_schedule.proofs.Serially.{free_goes, Runs, Found, runs_kept}
use Rattle.laws_schedule.proofs.Starting.{met_at_root, as_many}

number_given : (v : Option ℤ) → is_some v ≡ true → (z : ℤ) × (v ≡ Some z)
number_given None some = absurd (cc)
number_given (Some z) some = (z, refl)

-- kinded: what is kept of the values in a frame's registers by every step of every frame. With it what a frame reads is there.
abbrev pub MakesReady : Program → (Path → Frame → Type 0) → Type 0
MakesReady program kinded =
    (p : Path) (f : Frame) (m : Memory) → IsPlaced program f → Registered (IsAlways program) p f m → kinded p f →
    ReadsValues program f m →
    UsesOwnRegions program p f → IsReady program p f m

module _ (program : Program) (t : IsTaken program) (kinded : Path → Frame → Type 0) (kept : IsKeptBySteps program kinded)
    (widths : (p : Path) (f : Frame) → kinded p f → HasWidths program f) (ready : MakesReady program kinded)
  where
    kept_along : KeptSerially program Nothing (Runs program kinded) (Found program)
    kept_along = runs_kept program t.names.named t.names.objects t.right.regions t.right.definedness kinded kept

    frame_ready : (p : Path) (f : Frame) (m : Memory) → Runs program kinded p f m → IsReady program p f m
    frame_ready p f m b =
        ready p f m b.0.0.0.1 b.1 b.0.0.0.0.1 (reads_have_values program t.names.named t.names.objects t.right.definedness p f m b.0.0.1)
        (regions_are_own program t.right.regions p f b.0.0.0.1 b.0.1)

    module _ (arguments : List ℤ) (memory : Memory) (given : AreTaken program arguments) (globals : HasGlobals program memory)
        (start : kinded [] (root_frame program arguments))
      where
        first : IsFirst program arguments memory
        first =
            starts_well program t.names.named t.right.regions arguments memory
            (record { main = t.names.main.there; count = as_many program arguments given; globals = globals })

        pub first_placed : IsPlaced program (root_frame program arguments)
        first_placed = first.placed

        at_root : Runs program kinded [] (root_frame program arguments) (globals_of memory)
        at_root = (((((free_goes, start), first.placed), first.values), first.regions), first.registers)

        -- the serial run gives a number
        pub gives : (o : Outcome) → IsSerialMeaning program arguments memory o → (z : ℤ) × (o.ending ≡ Gave (Some z))
        gives o meant =
            let back = gives_result program [] (root_frame program arguments) (globals_of memory) meant.within o refl meant.meets in
            let finds = found program (Runs program kinded) (Found program) kept_along meant.within [] (root_frame program arguments)
            (globals_of memory) o at_root meant.meets in
            let number = number_given back.0 (finds.1 back.0 back.1 t.names.main.gives) in
            (number.0, back.1 ∙ ap (λ v. Gave v) number.1)

        pub ends : (regions : Regions) → AreTasksOf program regions → EndsWithinBudget program regions arguments memory
        ends regions table =
            whole_run program regions (rules_right program t regions table) (Runs program kinded) (Found program) kept_along
            (λ p f m b. widths p f b.0.0.0.0.1) frame_ready arguments memory at_root (met_at_root program arguments given)

        pub within_budget : (regions : Regions) (table : AreTasksOf program regions) →
            (ends regions table).outcome.count ≤ budget_of program
        within_budget regions table = (ends regions table).count

        pub within_depth : (regions : Regions) (table : AreTasksOf program regions) →
            (ends regions table).outcome.depth ≤ depth_of program regions
        within_depth regions table = depth_within program regions (ends regions table).outcome.depth (ends regions table).depth_is
