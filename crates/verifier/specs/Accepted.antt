-- What a text means by the phases: a program, or the fault that is named.
use Rattle.std.specs.Prelude.{◌≡◌, ◌⊎◌, ℕ, List, [], ◌∷◌, Option, Some, Ok, Err}
use Rattle.refusal.specs.declared.broken.Broken.{Broken}
use Rattle.refusal.specs.Earliest.{IsFirst}
use Rattle.refusal.specs.Refusals.{IfBroken}
use Rattle.syntax.specs.declared.module.Module.{Module}
use Rattle.program.specs.declared.function.Program.{Program}
use Rattle.ir_reader.specs.Reading.{Answers}
use Rattle.types.specs.Meaning.{Means}
use Rattle.cfg.specs.Edges.{graphs_of}
use Rattle.cfg.specs.Rules.{IsGraphRight, IsGraphBroken}
use Rattle.region_match.specs.declared.tables.Regions.{Regions}
use Rattle.region_match.specs.Matched.{AreRegionsRight, IsTaskBroken}
use Rattle.region_match.specs.Tasks.{AreAllTasks}
use Rattle.definedness.specs.Definedness.{IsDefinednessBroken}
use Rattle.footprints.specs.ranges.Rules.{IsRangeBroken, AreRangesRight}
use Rattle.footprints.specs.ranges.declared.unverified.Unverified.{Unverified}
use Rattle.footprints.specs.ranges.declared.unverified.Unverified.TheVariants as unverified
use Rattle.footprints.specs.Rules.{IsZoneBroken, AreZonesRightBy}
use Rattle.cost_table.specs.Rules.{IsCostBroken, AreCostsRight}

abbrev pub IsDefined : Program → Type 0
IsDefined program = (b : Broken) → IsDefinednessBroken program b → ⊥

-- the table has the task of each block
abbrev pub AreTasksOf : Program → Regions → Type 0
AreTasksOf program regions = AreAllTasks (graphs_of program) regions.functions

-- by the tasks of the blocks no rule on zones is broken
abbrev pub AreZonesRight : Program → Type 0
AreZonesRight program = (regions : Regions) × AreTasksOf program regions × AreZonesRightBy program regions

-- by the tasks of the blocks this is the earliest broken rule on zones
abbrev pub IsFirstOfZones : Program → Broken → Type 0
IsFirstOfZones program broken = (regions : Regions) × AreTasksOf program regions ×
    IsFirst (IsZoneBroken program regions) broken

-- the rules after the types, phase by phase
pub record IsRight (program : Program) : Type 0 where
  pub graph : IsGraphRight program
  pub regions : AreRegionsRight program
  pub definedness : IsDefined program
  pub ranges : AreRangesRight program
  pub zones : AreZonesRight program
  pub costs : AreCostsRight program

-- the text is read as a module, the module means this program, and the program keeps the rules
abbrev pub IsProgramOf : List ℕ → Program → Type 0
IsProgramOf text program = (whole : Module) × Answers text (Ok whole) × Means whole (Ok program) ×
    IsRight program

-- a phase: which fault it names, and that its rules are kept
pub record Phase : Type 1 where
  pub names : Broken → Type 0
  pub kept : Type 0

-- the phases after the types, in their order
abbrev pub phases : Program → List Phase
phases program =
    record { names = IsFirst (IsGraphBroken program); kept = IsGraphRight program } ∷
    record { names = IsFirst (IsTaskBroken program); kept = AreRegionsRight program } ∷
    record { names = IsFirst (IsDefinednessBroken program); kept = IsDefined program } ∷
    record { names = IsFirst (IsRangeBroken program); kept = AreRangesRight program } ∷
    record { names = IsFirstOfZones program; kept = AreZonesRight program } ∷
    record { names = IsFirst (IsCostBroken program); kept = AreCostsRight program } ∷ []

-- a phase names this fault, and the rules of those before it are kept
abbrev pub IsNamedBy : List Phase → Broken → Type 0
IsNamedBy [] broken = ⊥
IsNamedBy (phase ∷ later) broken = phase.names broken ⊎ (phase.kept × IsNamedBy later broken)

abbrev pub IsFaulty : Program → Broken → Type 0
IsFaulty program broken = IsNamedBy (phases program) broken

-- the text breaks this rule at this line, by the first phase with a fault
abbrev pub IsRefused : List ℕ → Broken → Type 0
IsRefused text broken = Answers text (Err (broken.number, broken.line)) ⊎ ((whole : Module) × Answers text (Ok whole) ×
    (Means whole (Err broken) ⊎ ((program : Program) × Means whole (Ok program) × IsFaulty program broken)))

-- if a fault, then the text is refused for it; or there is no verdict, and the effort is named that was granted, if
-- that is bounded
abbrev pub IsUnverified : List ℕ → Option ℕ → Unverified → Type 0
IsUnverified text effort (unverified.Refused refused) = IfBroken (IsRefused text) refused
IsUnverified text effort (unverified.OutOfEffort granted) = effort ≡ Some granted

-- some text means the program
pub record IsAccepted (program : Program) : Type 0 where
  pub text : List ℕ
  pub means : IsProgramOf text program
