-- What is known at a place names no register that the place's step defines.
use Rattle.std.specs.Prelude.{◌≡◌, ℕ, ◌<◌, List, length, Option, Some, true, is_some, ◌⊎◌, All, slice_get}
use Rattle.semantics.specs.Frames.{Does, item_at}
use Rattle.linear.specs.declared.form.RegisterId.{RegisterId}
use Rattle.linear.specs.declared.form.Fact.{Fact}
use Rattle.program.specs.declared.identifier.FunctionId.{FunctionId}
use Rattle.program.specs.declared.function.Block.{Block}
use Rattle.program.specs.declared.function.Function.{Function}
use Rattle.program.specs.declared.function.Program.{Program}
use Rattle.program.specs.declared.instruction.Argument.{Argument}
use Rattle.program.specs.declared.instruction.Instruction.TheVariants as instruction
use Rattle.ranges.specs.Places.{facts_at_step}
use Rattle.laws_conditions.specs.rules.Costs.{Lacks}
use Rattle.laws_phases.specs.defined.Leads.{IsBlock}
use Rattle.laws_phases.specs.defined.Names.{StepDefines, NamesOnly}
use Rattle.laws_phases.specs.defined.Stable.{IsStable}

-- an argument stands for the register, or the result does
abbrev pub IsPut : Function → List Argument → Option RegisterId → ℕ → Type 0
IsPut callee arguments d r = (r < length arguments) ⊎ ((r ≡ length callee.registers) × (is_some d ≡ true))

-- what the rules on names give: `requires` names parameters, and `ensures` parameters and the result
pub record NamesParameters (prog : Program) : Type 0 where
  pub requirements : (f : ℕ) (function : Function) → slice_get prog.functions f ≡ Some function →
      All (NamesOnly (λ r. r < length function.parameters)) function.requirements
  pub guarantees : (f b i : ℕ) (d : Option RegisterId) (g : FunctionId) (arguments : List Argument)
      (callee : Function) →
      item_at prog f b i ≡ Some (Does (instruction.Call d g arguments)) → slice_get prog.functions g.0 ≡ Some callee →
      All (NamesOnly (IsPut callee arguments d)) callee.guarantees

abbrev pub KnownIsStable : Type 0
KnownIsStable =
    (prog : Program) → IsStable prog → NamesParameters prog → (f b i d : ℕ) (function : Function) (block : Block) →
    IsBlock prog f b function block →
    StepDefines function b i d →
    All (λ (fact : Fact). Lacks fact.form d) (facts_at_step prog.functions function b block i)
