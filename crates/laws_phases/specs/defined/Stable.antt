-- Which registers a step and a phi leave alone: those of the annotations, facts and zones of their places. An act that
-- needs a register names it.
use Rattle.std.specs.Prelude.{◌≡◌, ◌≢◌, ℕ, ◌<◌, ◌≤◌, List, ◌∷◌, length, Some, Contains, slice_get}
use Rattle.std.specs.List.{flat_map}
use Rattle.linear.specs.declared.form.RegisterId.{RegisterId}
use Rattle.program.specs.declared.identifier.BlockId.{BlockId}
use Rattle.program.specs.declared.function.Block.{Block}
use Rattle.program.specs.declared.function.Function.{Function}
use Rattle.program.specs.declared.function.Program.{Program}
use Rattle.program.specs.declared.instruction.Step.{Step}
use Rattle.program.specs.declared.instruction.Terminator.TheVariants as terminator
use Rattle.cfg.specs.Edges.{graph_of}
use Rattle.cfg.specs.Rules.{IsGraphRight}
use Rattle.region_match.specs.Rules.{ending_at}
use Rattle.region_match.specs.Tasks.{HasTask}
use Rattle.region_match.specs.Matched.{AreRegionsRight}
use Rattle.definedness.specs.declared.act.Act.{Act}
use Rattle.definedness.specs.declared.act.Act.TheVariants.{Needs}
use Rattle.definedness.specs.RegisterActs.{inequality_needs, pending_needs, left_needs, zone_needs, instruction_needs}
use Rattle.laws_conditions.specs.rules.Moves.{dest_of}
use Rattle.laws_phases.specs.defined.Leads.{IsBlock}
use Rattle.laws_phases.specs.defined.Names.{StepDefines, PhiDefines, IsNamed}
use Rattle.laws_phases.specs.defined.Defined.{AreUsesDefined}

abbrev pub Names : List Act → ℕ → Type 0
Names acts r = (line : ℕ) × Contains acts (Needs r line)

-- the `foot` lines that a block of a child keeps to do not name the register
abbrev pub IsOffFoot : Function → ℕ → ℕ → Type 0
IsOffFoot function b d =
    (detach : ℕ) (outer : List ℕ) (region : RegisterId) (body continuation : BlockId) (child : Block) →
    HasTask (graph_of function).blocks b (detach ∷ outer) →
    ending_at function.blocks detach ≡ Some (terminator.Detach region body continuation) →
    slice_get function.blocks body.0 ≡ Some child →
    Names (flat_map (zone_needs function.allocas) child.foot) d → ⊥

-- the register d, which the step of this number defines, is no parameter, and is named by none of: the annotations of
-- the block, the `shows` lines and the operands of the step and of those before it, their results, the zones of the
-- child
pub record IsSteady (function : Function) (b : ℕ) (block : Block) (i d : ℕ) : Type 0 where
  pub parameter : length function.parameters ≤ d
  pub keeps : Names (flat_map inequality_needs block.keeps) d → ⊥
  pub pending : Names (flat_map (pending_needs function.allocas) block.pending) d → ⊥
  pub left : Names (left_needs block.left) d → ⊥
  pub shows : (j : ℕ) (s : Step) → j ≤ i → slice_get block.steps j ≡ Some s →
      Names (flat_map inequality_needs s.shows) d → ⊥
  pub uses : (j : ℕ) (s : Step) → j ≤ i → slice_get block.steps j ≡ Some s →
      Names (instruction_needs function.allocas s.line s.instruction) d → ⊥
  pub earlier : (j : ℕ) (s : Step) → j < i → slice_get block.steps j ≡ Some s → dest_of s.instruction ≢ Some d
  pub foot : IsOffFoot function b d

-- a phi's register is no parameter, and the zones of the child do not name it
pub record IsSteadyPhi (function : Function) (b d : ℕ) : Type 0 where
  pub parameter : length function.parameters ≤ d
  pub foot : IsOffFoot function b d

pub record IsStable (prog : Program) : Type 0 where
  pub steps : (f b i d : ℕ) (function : Function) (block : Block) → IsBlock prog f b function block →
      StepDefines function b i d → IsSteady function b block i d
  pub phis : (f b d : ℕ) (function : Function) (block : Block) → IsBlock prog f b function block →
      PhiDefines function b d → IsSteadyPhi function b d

abbrev pub StableByRules : Type 0
StableByRules = (prog : Program) → IsNamed prog → IsGraphRight prog → AreRegionsRight prog → AreUsesDefined prog →
    IsStable prog
