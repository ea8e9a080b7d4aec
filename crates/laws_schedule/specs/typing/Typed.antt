-- What the laws on runs ask of names and types, of each program that a module means. Where names have to be defined
-- once, where functions have blocks, phis have entries and arrays have cells, the module is one that is read.
use Rattle.std.specs.Prelude.{ℕ, ◌<◌, All, Ok}
use Rattle.linear.specs.declared.form.Term.{Term}
use Rattle.program.specs.declared.function.Program.{Program}
use Rattle.syntax.specs.declared.module.Module.{Module}
use Rattle.laws_phases.specs.cfg.Rules.{IsGraphRight}
use Rattle.ir_reader.specs.Kept.{IsKeptModule}
use Rattle.laws_phases.specs.region_match.Matched.{AreRegionsRight}
use Rattle.types.specs.Meaning.{Means}
use Rattle.laws_conditions.specs.rules.Costs.{parameters_of, measure_of}
use Rattle.laws_phases.specs.defined.Defined.{AreUsesDefined}
use Rattle.laws_phases.specs.defined.Known.{NamesParameters}
use Rattle.laws_phases.specs.defined.Names.{IsNamed}
use Rattle.laws_phases.specs.defined.Values.{NamesObjects}
use Rattle.laws_phases.specs.facts.Owing.{IsTyped}

-- registers are defined once; labels and callees are there; calls fit their callees; an entry block has no phis
abbrev pub NamesAreRight : Type 0
NamesAreRight = (whole : Module) (program : Program) → IsKeptModule whole → Means whole (Ok program) →
    IsGraphRight program → IsNamed program

-- `requires` and `ensures` name parameters and the result; results are taken where there are any; no phi stands behind
-- a detach
abbrev pub TypesAreRight : Type 0
TypesAreRight = (whole : Module) (program : Program) → Means whole (Ok program) → IsGraphRight program →
    AreRegionsRight program → IsTyped program

-- at a call, what the callee's `ensures` name is an argument or the result
abbrev pub ParametersAreNamed : Type 0
ParametersAreNamed = (whole : Module) (program : Program) → Means whole (Ok program) → NamesParameters program

-- a measure names parameters alone
abbrev pub MeasuresNameParameters : Type 0
MeasuresNameParameters = (whole : Module) (program : Program) → Means whole (Ok program) → (f : ℕ) →
    All (λ (t : Term). t.register.0 < parameters_of program f) (measure_of program f).terms

-- objects have the cells that are asked for, and an element's register is defined before it
abbrev pub ObjectsAreNamed : Type 0
ObjectsAreNamed = (whole : Module) (program : Program) → IsKeptModule whole → Means whole (Ok program) →
    IsGraphRight program → AreRegionsRight program →
    AreUsesDefined program → NamesObjects program
