-- What the rules on names, types and the graph give of a program, as far as the laws here ask for it.
use Rattle.std.specs.Prelude.{◌≡◌, ℕ, ◌≤◌, List, [], length, Option, Some, None, true, false, is_some, slice_get, All}
use Rattle.semantics.specs.Frames.{Does, Ends, block_at, item_at}
use Rattle.linear.specs.declared.form.RegisterId.{RegisterId}
use Rattle.program.specs.declared.identifier.FunctionId.{FunctionId}
use Rattle.program.specs.declared.function.Block.{Block}
use Rattle.program.specs.declared.function.Function.{Function}
use Rattle.program.specs.declared.function.Program.{Program}
use Rattle.program.specs.declared.instruction.Argument.{Argument}
use Rattle.program.specs.declared.instruction.Instruction.TheVariants as instruction
use Rattle.program.specs.declared.instruction.Phi.{Phi}
use Rattle.program.specs.declared.instruction.Step.{Step}
use Rattle.program.specs.declared.instruction.Terminator.{Terminator}
use Rattle.program.specs.declared.instruction.Terminator.TheVariants as terminator
use Rattle.program.specs.declared.annotation.Inequality.{Inequality}
use Rattle.cfg.specs.declared.structure.Way.{Way}
use Rattle.laws_conditions.specs.rules.Moves.{dest_of}
use Rattle.laws_conditions.specs.rules.Costs.{parameters_of}
use Rattle.laws_conditions.specs.rules.Registers.{returns_number}
use Rattle.laws_phases.specs.defined.Leads.{LeadsTo, IsBlock}

-- both sides of the inequality name such registers alone
pub record NamesOnly (P : ℕ → Type 0) (q : Inequality) : Type 0 where
  pub low : All (λ t. P t.register.0) q.low.terms
  pub high : All (λ t. P t.register.0) q.high.terms

-- the step of this number of a block defines the register
pub record StepDefines (function : Function) (b i r : ℕ) : Type 0 where
  pub block : Block
  pub step : Step
  pub at_block : slice_get function.blocks b ≡ Some block
  pub at_step : slice_get block.steps i ≡ Some step
  pub defines : dest_of step.instruction ≡ Some r

-- a phi of the block defines the register
pub record PhiDefines (function : Function) (b r : ℕ) : Type 0 where
  pub block : Block
  pub number : ℕ
  pub phi : Phi
  pub at_block : slice_get function.blocks b ≡ Some block
  pub at_phi : slice_get block.phis number ≡ Some phi
  pub defines : phi.register.0 ≡ r

-- no register is defined at two places, and none of a parameter
pub record DefinesOnce (function : Function) : Type 0 where
  pub steps : (b c i j r : ℕ) → StepDefines function b i r → StepDefines function c j r → (b ≡ c) × (i ≡ j)
  pub phis : (b c r : ℕ) → PhiDefines function b r → PhiDefines function c r → b ≡ c
  pub apart : (b c i r : ℕ) → StepDefines function b i r → PhiDefines function c r → ⊥
  pub steps_above : (b i r : ℕ) → StepDefines function b i r → length function.parameters ≤ r
  pub phis_above : (b r : ℕ) → PhiDefines function b r → length function.parameters ≤ r

pub record IsNamed (prog : Program) : Type 0 where
  pub once : (f : ℕ) (function : Function) → slice_get prog.functions f ≡ Some function → DefinesOnce function
  -- no edge leads to the entry block, so it has no phis
  pub entry : (f : ℕ) (function : Function) (block : Block) → IsBlock prog f 0 function block → block.phis ≡ []
  -- labels and callees are there
  pub targets : (f b i to : ℕ) (t : Terminator) (w : Way) → item_at prog f b i ≡ Some (Ends t) → LeadsTo t w to →
      is_some (block_at prog f to) ≡ true
  pub callees : (f b i : ℕ) (d : Option RegisterId) (g : FunctionId) (arguments : List Argument) →
      item_at prog f b i ≡ Some (Does (instruction.Call d g arguments)) → is_some (block_at prog g.0 0) ≡ true
  -- a call passes as many arguments as there are parameters, and one that defines a register is of a function that
  -- returns a number
  pub arguments : (f b i : ℕ) (d : Option RegisterId) (g : FunctionId) (arguments : List Argument) →
      item_at prog f b i ≡ Some (Does (instruction.Call d g arguments)) → length arguments ≡ parameters_of prog g.0
  pub calls : (f b i : ℕ) (d : RegisterId) (g : FunctionId) (arguments : List Argument) →
      item_at prog f b i ≡ Some (Does (instruction.Call (Some d) g arguments)) → returns_number prog g.0 ≡ true
  pub returns : (f b i : ℕ) → item_at prog f b i ≡ Some (Ends (terminator.Return None)) → returns_number prog f ≡ false
