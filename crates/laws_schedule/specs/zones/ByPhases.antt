-- What the phases give of a program, as far as the conditions on zones ask for it.
use Rattle.std.specs.Prelude.{◌≡◌, ℕ, ◌<◌, List, ◌∷◌, length, Option, Some, None, ℤ, Contains, slice_get}
use Rattle.linear.specs.declared.form.RegisterId.{RegisterId}
use Rattle.semantics.specs.Paths.{Path}
use Rattle.semantics.specs.Cells.{Memory}
use Rattle.semantics.specs.Frames.{Value, Registers, OnCall, Frame}
use Rattle.semantics.specs.Effect.{Effect, Plain, Detach, Sync, Call, action_of}
use Rattle.semantics.specs.State.{went, detached, continued, synced, called, waiting, resumed}
use Rattle.laws_conditions.specs.theorem.Conditions.{Going}
use Rattle.program.specs.declared.annotation.Zone.{Zone}
use Rattle.program.specs.declared.identifier.ObjectName.TheVariants.{Parameter}
use Rattle.program.specs.declared.function.Function.{Function}
use Rattle.program.specs.declared.function.Program.{Program}
use Rattle.types.specs.Apart.{IsNamedBy, parameters_at, CallsApart}
use Rattle.types.specs.Definitions.{KeepsParameters}
use Rattle.laws_phases.specs.cfg.Edges.{graphs_of}
use Rattle.laws_phases.specs.cfg.Rules.{IsGraphRight}
use Rattle.laws_phases.specs.region_match.declared.tables.Regions.{Regions}
use Rattle.laws_phases.specs.region_match.Matched.{AreRegionsRight}
use Rattle.laws_phases.specs.region_match.Tasks.{AreAllTasks}
use Rattle.laws_phases.specs.defined.Defined.{AreUsesDefined}
use Rattle.laws_phases.specs.defined.Names.{IsNamed}
use Rattle.laws_phases.specs.defined.Stable.{IsStable as KeepsRegisters}
use Rattle.laws_phases.specs.facts.Owing.{IsTyped, AreFactsStable, HasWidths}
use Rattle.laws_phases.specs.ranges.Rules.{AreRangesRight}
use Rattle.laws_phases.specs.facts.Stable.{ArePhisApart}
use Rattle.laws_phases.specs.footprints.Rules.{AreZonesRightBy}
use Rattle.laws_phases.specs.zones.Callees.{IsOverParameters}

-- what the rules on names give of zones: the parameters that a function's text names are its own, and its head's zones
-- name parameters alone
pub record NamesZones (prog : Program) : Type 0 where
  pub own : (f : ℕ) (r : RegisterId) → IsNamedBy prog.functions f (Parameter r) → r.0 < parameters_at prog.functions f
  pub over : (f : ℕ) (function : Function) → slice_get prog.functions f ≡ Some function → (z : Zone) →
      Contains function.zones z →
      IsOverParameters (length function.parameters) z

-- by all phases: no rule on ranges is broken, and none on zones by the table of the blocks' tasks
pub record IsJudged (prog : Program) (regions : Regions) : Type 0 where
  pub tasks : AreAllTasks (graphs_of prog) regions.functions
  pub zones : AreZonesRightBy prog regions
  pub ranges : AreRangesRight prog
  pub typed : IsTyped prog
  pub stable : AreFactsStable prog
  pub named : IsNamed prog
  pub registers : KeepsRegisters prog
  pub apart : CallsApart prog.functions
  pub parameters : KeepsParameters prog.functions
  pub names : NamesZones prog

-- base is kept of each frame by each step, whatever the other frames do
pub record IsKeptBySteps (prog : Program) (base : Path → Frame → Type 0) : Type 0 where
  pub plain : (p : Path) (f : Frame) (m : Memory) (e : Effect) → base p f → Going f → action_of prog p f m ≡ Plain e →
      e.trap ≡ None → base p (went f e)
  pub child : (p : Path) (f : Frame) (m : Memory) (region body next : ℕ) → base p f → Going f →
      action_of prog p f m ≡ Detach region body next →
      base (f.made ∷ p) (detached f region body next)
  pub continues : (p : Path) (f : Frame) (m : Memory) (region body next : ℕ) → base p f → Going f →
      action_of prog p f m ≡ Detach region body next →
      base p (continued f next)
  pub syncs : (p : Path) (f : Frame) (m : Memory) (region block : ℕ) (registers : Registers) → base p f → Going f →
      action_of prog p f m ≡ Sync region block registers → base p (synced f region block registers)
  pub callee : (p : Path) (f : Frame) (m : Memory) (d : Option RegisterId) (callee : ℕ) (values : List Value) →
      base p f → Going f →
      action_of prog p f m ≡ Call d callee values → base (f.made ∷ p) (called p f callee values)
  pub waits : (p : Path) (f : Frame) (m : Memory) (d : Option RegisterId) (callee : ℕ) (values : List Value) →
      base p f → Going f →
      action_of prog p f m ≡ Call d callee values → base p (waiting f d)
  pub resumes : (p : Path) (f : Frame) (k : ℕ) (d : Option RegisterId) (result : Option ℤ) → base p f →
      f.waits ≡ OnCall k d → base p (resumed f d result)

-- it says that numbers of i32 fit, so that the facts of arithmetic are true
pub record GivesWidths (prog : Program) (base : Path → Frame → Type 0) : Type 0 where
  pub kept : IsKeptBySteps prog base
  pub widths : (p : Path) (f : Frame) → base p f → HasWidths prog f

-- what the rules of the phases say of a program, each in the words of its own phase
pub record IsByRules (prog : Program) (regions : Regions) : Type 0 where
  pub tasks : AreAllTasks (graphs_of prog) regions.functions
  pub zones : AreZonesRightBy prog regions
  pub ranges : AreRangesRight prog
  pub graph : IsGraphRight prog
  pub matched : AreRegionsRight prog
  pub uses : AreUsesDefined prog
  pub typed : IsTyped prog
  pub named : IsNamed prog
  pub phis : ArePhisApart prog
  pub apart : CallsApart prog.functions
  pub parameters : KeepsParameters prog.functions
  pub names : NamesZones prog
