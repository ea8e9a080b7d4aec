-- The rules on cost as they are checked: forms that the facts of a place show.
use Rattle.std.specs.Prelude.{◌≡◌, ℕ, suc, ◌<◌, ◌≤◌, List, Option, Some, None, All, Contains, pos}
use Rattle.semantics.specs.Paths.{Path}
use Rattle.semantics.specs.Cells.{Memory}
use Rattle.semantics.specs.Frames.{Registers, Frame, Does, Ends, item_at, block_at, phis_at}
use Rattle.semantics.specs.Effect.{Effect, Plain, Detach, Sync, action_of}
use Rattle.linear.specs.Forms.{plus, minus, put}
use Rattle.linear.specs.Terms.{Combination, constant_form}
use Rattle.linear_shown.specs.Shown.{IsShown, AllHold}
use Rattle.linear.specs.declared.form.Fact.{Fact}
use Rattle.linear.specs.declared.form.RegisterId.{RegisterId}
use Rattle.program.specs.declared.identifier.BlockId.{BlockId}
use Rattle.program.specs.declared.identifier.FunctionId.{FunctionId}
use Rattle.program.specs.declared.function.Program.{Program}
use Rattle.program.specs.declared.instruction.Argument.{Argument}
use Rattle.program.specs.declared.instruction.Instruction.{Instruction}
use Rattle.program.specs.declared.instruction.Instruction.TheVariants as instruction
use Rattle.program.specs.declared.instruction.Terminator.{Terminator}
use Rattle.program.specs.declared.instruction.Terminator.TheVariants as terminator
use Rattle.laws_conditions.specs.rules.Moves.{dest_of, EndsFrame}
use Rattle.laws_conditions.specs.rules.Costs.{numbers, parameters_of, measure_of, bound_of, self_calls_of}
use Rattle.laws_conditions.specs.rules.Costs.{instructions_of, calls_left, instructions_left}
use Rattle.laws_conditions.specs.rules.Costs.{instructions_for, self_calls_for, spent_in, Lacks}
use Rattle.laws_conditions.specs.rules.Edges.{edge_forms, argument_forms}

-- an edge out of a block, with the facts that hold on it: those at the block's end, and the branch's own
pub record Out : Type 0 where
  pub target : ℕ
  pub facts : List Fact

-- what the steps of a block before an index spent
abbrev pub calls_spent_at : Program → ℕ → ℕ → ℕ → ℕ
calls_spent_at prog function block index = spent_in (self_calls_for function) (block_at prog function block) index

abbrev pub instructions_spent_at : Program → ℕ → ℕ → ℕ → ℕ
instructions_spent_at prog function block index =
    spent_in (instructions_for prog function) (block_at prog function block) index

-- the facts show that e is at least g and k more
abbrev pub IsAtLeast : List Fact → Combination → Combination → ℕ → Type 0
IsAtLeast facts e g k = IsShown facts (minus e (plus g (constant_form (pos k))))

-- on an edge, the phis of its target put in
pub record EdgeShown (prog : Program) (function block index : ℕ) (out : Out) : Type 0 where
  pub calls : IsAtLeast out.facts (calls_left prog function block)
      (put (edge_forms prog function block out.target) (calls_left prog function out.target))
      (calls_spent_at prog function block index)
  pub instructions : IsAtLeast out.facts (instructions_left prog function block)
      (put (edge_forms prog function block out.target) (instructions_left prog function out.target))
      (suc (instructions_spent_at prog function block index))

-- at a detach, the sum of both targets
pub record ForkShown (prog : Program) (facts : List Fact) (function block index body continuation : ℕ) : Type 0 where
  pub calls : IsAtLeast facts (calls_left prog function block)
      (plus (calls_left prog function body) (calls_left prog function continuation))
      (calls_spent_at prog function block index)
  pub instructions : IsAtLeast facts (instructions_left prog function block)
      (plus (instructions_left prog function body) (instructions_left prog function continuation))
      (suc (instructions_spent_at prog function block index))

-- at a return or reattach
pub record EndShown (prog : Program) (facts : List Fact) (function block index : ℕ) : Type 0 where
  pub calls : IsAtLeast facts (calls_left prog function block) (constant_form (pos 0))
      (calls_spent_at prog function block index)
  pub instructions : IsAtLeast facts (instructions_left prog function block) (constant_form (pos 0))
      (suc (instructions_spent_at prog function block index))

-- known function block index: the facts of a place. outs function block: the edges of a jump, branch, switch or sync
pub record CostsShown (prog : Program) (known : ℕ → ℕ → ℕ → List Fact) (outs : ℕ → ℕ → List Out) : Type 0 where
  pub steady : (function block index : ℕ) (i : Instruction) (d : ℕ) →
      item_at prog function block index ≡ Some (Does i) → dest_of i ≡ Some d →
      (parameters_of prog function ≤ d) × Lacks (calls_left prog function block) d ×
      Lacks (instructions_left prog function block) d
  pub steady_phis : (function block : ℕ) →
      All (λ phi. parameters_of prog function ≤ phi.register.0) (phis_at prog function block)
  pub over_parameters : (function : ℕ) →
      All (λ t. t.register.0 < parameters_of prog function) (measure_of prog function).terms
  pub earlier : (function block index : ℕ) (d : Option RegisterId) (g : FunctionId) (arguments : List Argument) →
      item_at prog function block index ≡ Some (Does (instruction.Call d g arguments)) → g.0 ≤ function
  pub start_calls : (function block : ℕ) → IsShown (known function block 0) (calls_left prog function block)
  pub start_instructions : (function block : ℕ) →
      IsShown (known function block 0) (instructions_left prog function block)
  pub edges : (function block index : ℕ) (t : Terminator) → item_at prog function block index ≡ Some (Ends t) →
      All (EdgeShown prog function block index) (outs function block)
  pub forks : (function block index : ℕ) (region : RegisterId) (body continuation : BlockId) →
      item_at prog function block index ≡ Some (Ends (terminator.Detach region body continuation)) →
      ForkShown prog (known function block index) function block index body.0 continuation.0
  pub ends : (function block index : ℕ) (t : Terminator) → item_at prog function block index ≡ Some (Ends t) →
      EndsFrame t →
      EndShown prog (known function block index) function block index
  pub measure_low : (function : ℕ) → IsShown (known function 0 0) (measure_of prog function)
  pub measure_high : (function : ℕ) →
      IsShown (known function 0 0) (minus (constant_form (pos (bound_of prog function))) (measure_of prog function))
  pub falls : (function block index : ℕ) (d : Option RegisterId) (g : FunctionId) (arguments : List Argument) →
      item_at prog function block index ≡ Some (Does (instruction.Call d g arguments)) → g.0 ≡ function →
      IsAtLeast (known function block index) (measure_of prog function)
      (put (argument_forms arguments) (measure_of prog function)) 1
  pub budget_calls : (function : ℕ) →
      IsShown (known function 0 0)
      (minus (constant_form (pos (self_calls_of prog function))) (calls_left prog function 0))
  pub budget_instructions : (function : ℕ) →
      IsShown (known function 0 0) (minus (constant_form (pos (instructions_of prog function)))
      (instructions_left prog function 0))

-- the facts are true of the registers of a frame that fits, at its place, on the edge that it takes and where it forks
pub record FactsHold (prog : Program) (fits : Frame → Type 0) (known : ℕ → ℕ → ℕ → List Fact) (outs : ℕ → ℕ →
    List Out) : Type 0 where
  pub here : (f : Frame) → fits f → AllHold (numbers f.registers) (known f.function f.block f.index)
  pub edge : (p : Path) (f : Frame) (m : Memory) (e : Effect) (t : Terminator) → fits f →
      item_at prog f.function f.block f.index ≡ Some (Ends t) →
      action_of prog p f m ≡ Plain e → e.trap ≡ None →
      (o : Out) × Contains (outs f.function f.block) o × (o.target ≡ e.block) × AllHold (numbers f.registers) o.facts
  pub sync : (p : Path) (f : Frame) (m : Memory) (region block : ℕ) (registers : Registers) → fits f →
      action_of prog p f m ≡ Sync region block registers →
      (o : Out) × Contains (outs f.function f.block) o × (o.target ≡ block) × AllHold (numbers f.registers) o.facts
  pub fork : (p : Path) (f : Frame) (m : Memory) (region body continuation : ℕ) → fits f →
      action_of prog p f m ≡ Detach region body continuation →
      AllHold (numbers f.registers) (known f.function body 0) ×
      AllHold (numbers f.registers) (known f.function continuation 0)
