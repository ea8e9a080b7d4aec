-- What a call costs, and what a block does.
use Rattle.std.specs.Prelude.{ℕ, zero, suc, ◌+◌, ◌*◌, ◌==◌, if◌then◌else◌, List, Option, Some, None, slice_get, sum_by}
use Rattle.program.specs.Calls.{callee_of}
use Rattle.program.specs.declared.annotation.Budget.{Budget}
use Rattle.program.specs.declared.function.Block.{Block}
use Rattle.program.specs.declared.function.Function.{Function}
use Rattle.program.specs.declared.instruction.Step.{Step}

-- ---- calls

-- S + K * cost, of a budget of K self calls and S instructions
abbrev pub cost_over : Budget → ℕ → ℕ
cost_over budget below = budget.instructions + budget.self_calls * below

-- what a call costs whose measure is below this number: cost(f, m - 1), where cost(f, -1) = 0 and cost(f, m) = S + K *
-- cost(f, m - 1)
abbrev pub cost_below : Budget → ℕ → ℕ
cost_below budget zero = 0
cost_below budget (suc m) = cost_over budget (cost_below budget m)

-- what a call costs at most whose measure is this number
abbrev pub cost : Function → ℕ → ℕ
cost function m = cost_below function.budget (suc m)

-- what any call of the function costs at most
abbrev pub whole_cost : Function → ℕ
whole_cost function = cost function function.measure.bound

-- ---- blocks

abbrev pub whole_cost_of : Option Function → ℕ
whole_cost_of None = 0
whole_cost_of (Some function) = whole_cost function

-- what a call of another function costs beside the instruction; a self call is counted apart
abbrev pub callee_cost : List Function → ℕ → Option ℕ → ℕ
callee_cost functions self None = 0
callee_cost functions self (Some callee) = if callee == self then 0 else whole_cost_of (slice_get functions callee)

-- the instructions of steps, with those of the other functions that they call
abbrev pub instructions_of : List Function → ℕ → List Step → ℕ
instructions_of functions self steps = sum_by (λ s. 1 + callee_cost functions self (callee_of s.instruction)) steps

abbrev pub self_call : ℕ → Option ℕ → ℕ
self_call self None = 0
self_call self (Some callee) = if callee == self then 1 else 0

abbrev pub self_calls_of : ℕ → List Step → ℕ
self_calls_of self steps = sum_by (λ s. self_call self (callee_of s.instruction)) steps

-- what a block does: its self calls, and its instructions with the terminator
abbrev pub calls_done : ℕ → Block → ℕ
calls_done self block = self_calls_of self block.steps

abbrev pub instructions_done : List Function → ℕ → Block → ℕ
instructions_done functions self block = 1 + instructions_of functions self block.steps
