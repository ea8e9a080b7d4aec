-- What the rules on cost say of frames: how much of its function's budget a frame may still use, and the inequalities
-- between a frame and those that it goes on with.
use Rattle.std.specs.Prelude.{◌≡◌, ◌≢◌, ℕ, zero, suc, ◌+◌, ◌*◌, List, [], ◌∷◌, Option, Some, None, cond, eqb, slice_get}
use Rattle.std.specs.Prelude.{All, ℤ, pos, negsuc}
use Rattle.std.specs.Prelude.{◌-ℤ◌, ◌≤ℤ◌}
use Rattle.semantics.specs.Written.{or_zero}
use Rattle.semantics.specs.Frames.{Registers, Frame, block_at, word_of}
use Rattle.linear.specs.Forms.{value}
use Rattle.linear.specs.Terms.{Combination, constant_form}
use Rattle.program.specs.Left.{left_calls, left_instructions}
use Rattle.program.specs.Calls.{callee_of}
use Rattle.program.specs.Heads.{parameters_in}
use Rattle.program.specs.declared.function.Block.{Block}
use Rattle.program.specs.declared.function.Function.{Function}
use Rattle.program.specs.declared.function.Program.{Program}
use Rattle.program.specs.declared.instruction.Step.{Step}

-- ---- registers as forms read them

-- 0 where there is no number
abbrev pub numbers : Registers → ℕ → ℤ
numbers r x = or_zero (word_of (r x))

-- ---- what functions and blocks declare

-- the parameters are the registers below this number
abbrev pub parameters_of : Program → ℕ → ℕ
parameters_of prog function = parameters_in (slice_get prog.functions function)

abbrev pub measure_in : Option Function → Combination
measure_in None = constant_form (pos 0)
measure_in (Some f) = f.measure.form

abbrev pub bound_in : Option Function → ℕ
bound_in None = 0
bound_in (Some f) = f.measure.bound

abbrev pub self_calls_in : Option Function → ℕ
self_calls_in None = 0
self_calls_in (Some f) = f.budget.self_calls

abbrev pub instructions_in : Option Function → ℕ
instructions_in None = 0
instructions_in (Some f) = f.budget.instructions

abbrev pub measure_of : Program → ℕ → Combination
measure_of prog function = measure_in (slice_get prog.functions function)

abbrev pub bound_of : Program → ℕ → ℕ
bound_of prog function = bound_in (slice_get prog.functions function)

-- the budget: self calls, and instructions beside them
abbrev pub self_calls_of : Program → ℕ → ℕ
self_calls_of prog function = self_calls_in (slice_get prog.functions function)

abbrev pub instructions_of : Program → ℕ → ℕ
instructions_of prog function = instructions_in (slice_get prog.functions function)

-- what is left of them at a block's start
abbrev pub calls_left : Program → ℕ → ℕ → Combination
calls_left prog function block = left_calls (block_at prog function block)

abbrev pub instructions_left : Program → ℕ → ℕ → Combination
instructions_left prog function block = left_instructions (block_at prog function block)

-- in a frame
abbrev pub calls_at : Program → Frame → ℤ
calls_at prog f = value (numbers f.registers) (calls_left prog f.function f.block)

abbrev pub instructions_at : Program → Frame → ℤ
instructions_at prog f = value (numbers f.registers) (instructions_left prog f.function f.block)

abbrev pub measure_at : Program → Frame → ℤ
measure_at prog f = value (numbers f.registers) (measure_of prog f.function)

-- ---- what the steps of a block cost

-- what a call costs whose measure is below this number
abbrev pub cost_below : Program → ℕ → ℕ → ℕ
cost_below prog function zero = 0
cost_below prog function (suc m) =
    instructions_of prog function + self_calls_of prog function * cost_below prog function m

-- an instruction costs 1, and a call of another function that one's cost too; a self call is counted apart
abbrev pub instructions_for : Program → ℕ → Option ℕ → ℕ
instructions_for prog function None = 1
instructions_for prog function (Some g) = cond (eqb g function) 1 (suc (cost_below prog g (suc (bound_of prog g))))

abbrev pub self_calls_for : ℕ → Option ℕ → ℕ
self_calls_for function None = 0
self_calls_for function (Some g) = cond (eqb g function) 1 0

-- by the steps before an index; at the terminator by all
abbrev pub spent_by : (Option ℕ → ℕ) → List Step → ℕ → ℕ
spent_by cost [] index = 0
spent_by cost (s ∷ steps) zero = 0
spent_by cost (s ∷ steps) (suc index) = cost (callee_of s.instruction) + spent_by cost steps index

abbrev pub spent_in : (Option ℕ → ℕ) → Option Block → ℕ → ℕ
spent_in cost None index = 0
spent_in cost (Some b) index = spent_by cost b.steps index

abbrev pub instructions_spent : Program → Frame → ℕ
instructions_spent prog f = spent_in (instructions_for prog f.function) (block_at prog f.function f.block) f.index

abbrev pub calls_spent : Program → Frame → ℕ
calls_spent prog f = spent_in (self_calls_for f.function) (block_at prog f.function f.block) f.index

-- ---- the rules

abbrev pub Lacks : Combination → ℕ → Type 0
Lacks form d = All (λ t. t.register.0 ≢ d) form.terms

-- the frame stands at its function's first instruction
pub record IsEntry (f : Frame) : Type 0 where
  pub block : f.block ≡ 0
  pub index : f.index ≡ 0

-- ---- what they give

abbrev pub natural : ℤ → ℕ
natural (pos n) = n
natural (negsuc n) = 0

-- what one more self call costs at most
abbrev pub self_cost : Program → Frame → ℕ
self_cost prog f = cost_below prog f.function (natural (measure_at prog f))

abbrev pub had : Program → Frame → ℕ
had prog f = natural (calls_at prog f) * self_cost prog f + natural (instructions_at prog f)

abbrev pub used : Program → Frame → ℕ
used prog f = instructions_spent prog f + calls_spent prog f * self_cost prog f

-- what was left at the block's start, less what its steps have spent
abbrev pub may_use : Program → Frame → ℤ
may_use prog f = pos (had prog f) -ℤ pos (used prog f)

-- what is known of each frame of the serial run
pub record IsCosted (prog : Program) (f : Frame) : Type 0 where
  pub calls : pos 0 ≤ℤ calls_at prog f
  pub instructions : pos 0 ≤ℤ instructions_at prog f
  pub low : pos 0 ≤ℤ measure_at prog f
  pub high : measure_at prog f ≤ℤ pos (bound_of prog f.function)
