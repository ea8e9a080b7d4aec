-- For proofs alone: what an instruction leaves of its frame, by what stands at its place; the rules on cost as
-- inequalities at frames, and the rank that falls.
use Rattle.std.specs.Prelude.{ℕ, zero, suc, List, length, Option, Some, None, All, ℤ, pos, ◌≡◌, ◌≤◌, ◌<◌, ◌+ℤ◌, ◌≤ℤ◌}
use Rattle.std.specs.Prelude.{◌<ℤ◌, [], ◌∷◌}
use Rattle.semantics.specs.Paths.{Path}
use Rattle.semantics.specs.Cells.{Memory}
use Rattle.semantics.specs.Frames.{Value, Registers, Frame, Does, Ends, item_at, block_at, phis_at}
use Rattle.semantics.specs.Effect.{Effect, Plain, Detach, Reattach, Sync, Call, Return, action_of}
use Rattle.semantics.specs.State.{went, detached, continued, synced, called}
use Rattle.laws_conditions.specs.theorem.SerialConditions.{Rank, Says, Finds, Nothing, KeptSerially}
use Rattle.linear.specs.declared.form.RegisterId.{RegisterId}
use Rattle.program.specs.declared.identifier.FunctionId.{FunctionId}
use Rattle.program.specs.declared.function.Block.{Block}
use Rattle.program.specs.declared.function.Program.{Program}
use Rattle.program.specs.declared.instruction.Argument.{Argument}
use Rattle.program.specs.declared.instruction.Instruction.{Instruction}
use Rattle.program.specs.declared.instruction.Step.{Step}
use Rattle.program.specs.declared.instruction.Terminator.{Terminator}
use Rattle.laws_conditions.specs.rules.Moves.{dest_of, GoesOn, JumpsTo, Enters}
use Rattle.laws_conditions.specs.rules.Costs.{Lacks, bound_of, measure_of, instructions_of, instructions_at}
use Rattle.laws_conditions.specs.rules.Costs.{instructions_left, natural, self_calls_of, calls_spent}
use Rattle.laws_conditions.specs.rules.Costs.{parameters_of, IsEntry, instructions_spent, calls_at, measure_at}
use Rattle.laws_conditions.specs.rules.Costs.{calls_left}
use Rattle.laws_conditions.specs.rules.Depths.{Levels, DepthTable}
use Rattle.program.specs.declared.instruction.Instruction.TheVariants as instruction

-- what stands at the frame's place, and what it leaves of the frame
pub data Moves (prog : Program) (f : Frame) (e : Effect) : Type 0 where
  is_next : (i : Instruction) → item_at prog f.function f.block f.index ≡ Some (Does i) → GoesOn f (dest_of i) e →
      Moves prog f e
  is_along : (t : Terminator) → item_at prog f.function f.block f.index ≡ Some (Ends t) → JumpsTo t e.block →
      Enters prog f e → Moves prog f e

-- ---- the rules on cost as inequalities at frames

-- what is left in f covers what is left in g, the terminator and what the block's steps spent
pub record CoversNext (prog : Program) (f g : Frame) : Type 0 where
  pub calls : (calls_at prog g +ℤ pos (calls_spent prog f)) ≤ℤ calls_at prog f
  pub instructions : (instructions_at prog g +ℤ pos (suc (instructions_spent prog f))) ≤ℤ instructions_at prog f

-- at a detach both the child and the continuation
pub record CoversBoth (prog : Program) (f g h : Frame) : Type 0 where
  pub calls : ((calls_at prog g +ℤ calls_at prog h) +ℤ pos (calls_spent prog f)) ≤ℤ calls_at prog f
  pub instructions : ((instructions_at prog g +ℤ instructions_at prog h) +ℤ pos (suc (instructions_spent prog f))) ≤ℤ
      instructions_at prog f

-- at an end what was spent alone
pub record CoversSpent (prog : Program) (f : Frame) : Type 0 where
  pub calls : pos (calls_spent prog f) ≤ℤ calls_at prog f
  pub instructions : pos (suc (instructions_spent prog f)) ≤ℤ instructions_at prog f

pub record SomeLeft (prog : Program) (f : Frame) : Type 0 where
  pub calls : pos 0 ≤ℤ calls_at prog f
  pub instructions : pos 0 ≤ℤ instructions_at prog f

-- fits f: the facts of its place hold of the frame's registers
pub record CostRules (prog : Program) (fits : Frame → Type 0) : Type 0 where
  -- a step defines no parameter, and no register of what its block declares to be left; a phi defines no parameter
  pub steady : (function block index : ℕ) (i : Instruction) (d : ℕ) →
      item_at prog function block index ≡ Some (Does i) → dest_of i ≡ Some d →
      (parameters_of prog function ≤ d) × Lacks (calls_left prog function block) d ×
      Lacks (instructions_left prog function block) d
  pub steady_phis : (function block : ℕ) →
      All (λ phi. parameters_of prog function ≤ phi.register.0) (phis_at prog function block)
  -- a measure names parameters alone
  pub over_parameters : (function : ℕ) →
      All (λ t. t.register.0 < parameters_of prog function) (measure_of prog function).terms
  -- a function calls itself and those before it
  pub earlier : (function block index : ℕ) (d : Option RegisterId) (g : FunctionId) (arguments : List Argument) →
      item_at prog function block index ≡ Some (Does (instruction.Call d g arguments)) → g.0 ≤ function
  -- at a block's start something is left, and at a detach at both its targets
  pub some_left : (f : Frame) → fits f → f.index ≡ 0 → SomeLeft prog f
  pub some_left_on : (p : Path) (f : Frame) (m : Memory) (region body continuation : ℕ) → fits f →
      action_of prog p f m ≡ Detach region body continuation →
      SomeLeft prog (detached f region body continuation) × SomeLeft prog (continued f continuation)
  -- at each terminator it covers
  pub edge : (p : Path) (f : Frame) (m : Memory) (e : Effect) (t : Terminator) → fits f →
      item_at prog f.function f.block f.index ≡ Some (Ends t) →
      action_of prog p f m ≡ Plain e → e.trap ≡ None → CoversNext prog f (went f e)
  pub sync : (p : Path) (f : Frame) (m : Memory) (region block : ℕ) (registers : Registers) → fits f →
      action_of prog p f m ≡ Sync region block registers →
      CoversNext prog f (synced f region block registers)
  pub detach : (p : Path) (f : Frame) (m : Memory) (region body continuation : ℕ) → fits f →
      action_of prog p f m ≡ Detach region body continuation →
      CoversBoth prog f (detached f region body continuation) (continued f continuation)
  pub reattach : (p : Path) (f : Frame) (m : Memory) (region : ℕ) → fits f → action_of prog p f m ≡ Reattach region →
      CoversSpent prog f
  pub returns : (p : Path) (f : Frame) (m : Memory) (result : Option ℤ) → fits f →
      action_of prog p f m ≡ Return result → CoversSpent prog f
  -- the measure is within its bound, and falls at a self call
  pub measure : (f : Frame) → fits f → IsEntry f → (pos 0 ≤ℤ measure_at prog f) ×
      (measure_at prog f ≤ℤ pos (bound_of prog f.function))
  pub falls : (p : Path) (f : Frame) (m : Memory) (d : Option RegisterId) (callee : ℕ) (values : List Value) → fits f →
      action_of prog p f m ≡ Call d callee values → callee ≡ f.function →
      measure_at prog (called p f callee values) <ℤ measure_at prog f
  -- the budget covers what is left at the entry
  pub budget : (f : Frame) → fits f → IsEntry f →
      (calls_at prog f ≤ℤ pos (self_calls_of prog f.function)) ×
      (instructions_at prog f ≤ℤ pos (instructions_of prog f.function))

abbrev pub steps_after : List Step → ℕ → ℕ
steps_after [] index = 0
steps_after (s ∷ steps) zero = suc (length steps)
steps_after (s ∷ steps) (suc index) = steps_after steps index

abbrev pub steps_left : Option Block → ℕ → ℕ
steps_left None index = 0
steps_left (Some b) index = steps_after b.steps index

abbrev pub rank_of : Program → Frame → Rank
rank_of prog f = record {
  function = f.function;
  measure = natural (measure_at prog f);
  left = natural (instructions_at prog f);
  steps = steps_left (block_at prog f.function f.block) f.index;
}

-- base is what the phases on registers, memory and facts keep: under it nothing traps, and the facts of each place hold
pub record IsCheckedSerially (prog : Program) (base : Says) (post : Finds) (fits : Frame → Type 0) (level depth : ℕ →
    ℕ → ℕ) : Type 0 where
  pub kept : KeptSerially prog Nothing base post
  pub no_trap : (p : Path) (f : Frame) (m : Memory) (e : Effect) → base p f m → action_of prog p f m ≡ Plain e →
      e.trap ≡ None
  pub fit : (p : Path) (f : Frame) (m : Memory) → base p f m → fits f
  pub costs : CostRules prog fits
  pub levels : Levels prog level
  pub depths : DepthTable prog level depth
