-- The law: the schedule theorem's conditions on zones.
use Rattle.std.specs.Prelude.{◌≡◌, ℕ, ◌≤◌, Bool, true, ℤ, List, [], All}
use Rattle.semantics.specs.Paths.{Path}
use Rattle.semantics.specs.Cells.{Memory}
use Rattle.semantics.specs.Frames.{Frame}
use Rattle.semantics.specs.SerialMeaning.{Outcome, IsSerialMeaning}
use Rattle.semantics.specs.Events.{Event, start}
use Rattle.semantics.specs.Replay.{replay}
use Rattle.laws_conditions.specs.theorem.Schedules.{KeepsSchedule}
use Rattle.semantics.specs.State.{root_frame}
use Rattle.laws_conditions.specs.theorem.Conditions.{StaysInZone, PassesZonesOn, ClosesRegions}
use Rattle.program.specs.declared.function.Block.{Block}
use Rattle.program.specs.declared.function.Function.{Function}
use Rattle.program.specs.declared.function.Program.{Program}
use Rattle.laws_phases.specs.region_match.declared.tables.Regions.{Regions}
use Rattle.laws_phases.specs.defined.Leads.{IsBlock}
use Rattle.laws_conditions.specs.rules.Costs.{numbers}
use Rattle.laws_phases.specs.facts.Known.{IsMet, KnownHold}
use Rattle.laws_schedule.specs.zones.Keeping.{Keeping, OfTask, kept_cells, pending_at, Fits, Expects}
use Rattle.laws_schedule.specs.zones.ByPhases.{IsJudged, GivesWidths, IsByRules}

-- each instruction of a frame stays in the frame's zone and clear of what is pending, and zones and what is pending are
-- passed on; for conditions that are given by tests
pub record MeetsZones (prog : Program) (regions : Regions) (base : Path → Frame → Type 0) : Type 0 where
  pub stays : StaysInZone Keeping (kept_cells prog) prog (Fits prog regions base) (pending_at prog)
  pub passes : PassesZonesOn Keeping (kept_cells prog) prog (Fits prog regions base) (pending_at prog) (Expects prog)

abbrev pub ZonesAreMet : Type 0
ZonesAreMet =
    (prog : Program) (regions : Regions) (base : Path → Frame → Bool) → IsJudged prog regions →
    GivesWidths prog (λ p f. base p f ≡ true) →
    MeetsZones prog regions (λ p f. base p f ≡ true)

-- at the start they hold of the first frame, which keeps to the zones of its function, where what is known at the entry
-- holds
abbrev pub ZonesAtStart : Type 0
ZonesAtStart =
    (prog : Program) (regions : Regions) (base : Path → Frame → Bool) → IsJudged prog regions →
    (arguments : List ℤ) (function : Function) (block : Block) →
    IsBlock prog prog.main.0 0 function block →
    base [] (root_frame prog arguments) ≡ true → KnownHold prog (root_frame prog arguments) →
    Fits prog regions (λ p f. base p f ≡ true) [] (root_frame prog arguments)
    (OfTask (root_frame prog arguments) function.zones [])

-- definedness and the regions keep the registers that annotations and facts name
abbrev pub JudgedByRules : Type 0
JudgedByRules = (prog : Program) (regions : Regions) → IsByRules prog regions → IsJudged prog regions

-- so every schedule on any number of workers comes to the serial meaning, where regions are closed before their frames
-- end
abbrev pub SchedulesAgree : Type 0
SchedulesAgree =
    (prog : Program) (regions : Regions) (base : Path → Frame → Bool) (holds : Path → Frame → Bool) (opens : Path →
    Frame → ℕ → Bool) →
    IsJudged prog regions → GivesWidths prog (λ p f. base p f ≡ true) →
    ClosesRegions prog (λ p f. holds p f ≡ true) opens →
    (arguments : List ℤ) (memory : Memory) (function : Function) (block : Block) →
    IsBlock prog prog.main.0 0 function block →
    base [] (root_frame prog arguments) ≡ true → holds [] (root_frame prog arguments) ≡ true →
    All (IsMet (numbers (root_frame prog arguments).registers)) function.requirements →
    (o : Outcome) → IsSerialMeaning prog arguments memory o → (workers : ℕ) → 1 ≤ workers → (events : List Event) →
    KeepsSchedule prog workers o (replay prog workers events (start prog arguments memory))
