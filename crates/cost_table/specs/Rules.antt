-- The rules on cost. `left K S` says of a block how many self calls and how many other instructions the call may still
-- do from the block's start on.
use Rattle.std.specs.Prelude.{◌≡◌, ◌⊎◌, ℕ, pos, negsuc, ◌-ℤ◌, Bool, false, ◌<◌, ◌≤◌, List, [], ◌++◌, Option, Some, None}
use Rattle.std.specs.Prelude.{Any, slice_get}
use Rattle.linear.specs.Terms.{Combination}
use Rattle.linear.specs.declared.form.Fact.{Fact}
use Rattle.program.specs.Left.{left_calls, left_instructions}
use Rattle.program.specs.declared.function.Block.{Block}
use Rattle.program.specs.declared.function.Function.{Function}
use Rattle.program.specs.declared.function.Program.{Program}
use Rattle.program.specs.declared.instruction.Argument.{Argument}
use Rattle.program.specs.declared.instruction.Ending.{Ending}
use Rattle.program.specs.declared.instruction.Instruction.{Instruction}
use Rattle.program.specs.declared.instruction.Instruction.TheVariants as instruction
use Rattle.program.specs.declared.instruction.Step.{Step}
use Rattle.program.specs.declared.instruction.Terminator.{Terminator}
use Rattle.program.specs.declared.instruction.Terminator.TheVariants as terminator
use Rattle.refusal.specs.declared.broken.Broken.{Broken}
use Rattle.ranges.specs.cfg.declared.structure.Move.{Move}
use Rattle.ranges.specs.ranges_owed.declared.sum.Sum.{Sum}
use Rattle.ranges.specs.declared.table.EdgeFacts.{EdgeFacts}
use Rattle.ranges.specs.Sums.{shows}
use Rattle.ranges.specs.ranges_owed.Inequalities.{parts_of, argument_moves}
use Rattle.ranges.specs.Places.{start_facts, facts_at_step, facts_at_end, edges_known}
use Rattle.cost_table.specs.Cost.{cost, calls_done, instructions_done}

-- ---- sums

-- what is left of a form once so much is done
abbrev pub left_behind : Combination → ℕ → Sum
left_behind left done = record { constant = left.constant -ℤ pos done; parts = parts_of [] (pos 1) left.terms }

-- less a form, with the moves' operands put in
abbrev pub less_form : Sum → List Move → Combination → Sum
less_form s moves f =
    record { constant = s.constant -ℤ f.constant; parts = s.parts ++ parts_of moves (negsuc 0) f.terms }

-- a form with the moves' operands put in
abbrev pub put_in : List Move → Combination → Sum
put_in moves f = record { constant = f.constant; parts = parts_of moves (pos 1) f.terms }

abbrev pub number_less : ℕ → Combination → Sum
number_less n f = record { constant = pos n -ℤ f.constant; parts = parts_of [] (negsuc 0) f.terms }

-- of self calls and instructions one inequality each: where one is not shown, the rule of this number is broken at this
-- line
abbrev pub IsPairBroken : ℕ → ℕ → Bool → Bool → Broken → Type 0
IsPairBroken number line calls instructions broken = (broken.number ≡ number) × (broken.line ≡ line) ×
    ((calls ≡ false) ⊎ (instructions ≡ false))

-- ---- 701: at a block's start what is left is shown to be at least 0

abbrev pub IsOverdrawn : List Fact → Block → Broken → Type 0
IsOverdrawn known block broken = IsPairBroken 701 block.left.line (shows known (left_behind block.left.self_calls 0))
    (shows known (left_behind block.left.instructions 0)) broken

-- ---- 702: what is left of a block covers what it does and what is left where it goes on

-- along an edge, with the phis of its target replaced
abbrev pub IsEdgeUncovered : List Function → Function → ℕ → Block → ℕ → EdgeFacts → Broken → Type 0
IsEdgeUncovered functions function f block line e broken =
    IsPairBroken 702 line (shows e.facts (less_form (left_behind block.left.self_calls (calls_done f block)) e.moves
    (left_calls (slice_get function.blocks e.to.0)))) (shows e.facts (less_form (left_behind block.left.instructions
    (instructions_done functions f block)) e.moves (left_instructions (slice_get function.blocks e.to.0)))) broken

-- at a detach both targets together
abbrev pub IsForkUncovered : List Function → Function → ℕ → Block → ℕ → List Fact → ℕ → ℕ → Broken → Type 0
IsForkUncovered functions function f block line known body continuation broken =
    IsPairBroken 702 line (shows known (less_form (less_form (left_behind block.left.self_calls (calls_done f block)) []
    (left_calls (slice_get function.blocks body))) [] (left_calls (slice_get function.blocks continuation))))
    (shows known (less_form (less_form (left_behind block.left.instructions (instructions_done functions f block)) []
    (left_instructions (slice_get function.blocks body))) []
    (left_instructions (slice_get function.blocks continuation)))) broken

-- at a `ret` or `reattach` what the block does alone
abbrev pub IsEndUncovered : List Function → ℕ → Block → ℕ → List Fact → Broken → Type 0
IsEndUncovered functions f block line known broken =
    IsPairBroken 702 line (shows known (left_behind block.left.self_calls (calls_done f block)))
    (shows known (left_behind block.left.instructions (instructions_done functions f block))) broken

abbrev pub IsUncoveredAt : List Function → Function → ℕ → Block → ℕ → List Fact → List EdgeFacts → Terminator → Broken →
    Type 0
IsUncoveredAt functions function f block line known edges (terminator.Return value) broken =
    IsEndUncovered functions f block line known broken
IsUncoveredAt functions function f block line known edges (terminator.Detach region body continuation) broken =
    IsForkUncovered functions function f block line known body.0 continuation.0 broken
IsUncoveredAt functions function f block line known edges (terminator.Reattach region continuation) broken =
    IsEndUncovered functions f block line known broken
IsUncoveredAt functions function f block line known edges other broken =
    Any (λ e. IsEdgeUncovered functions function f block line e broken) edges

-- with what is known at the terminator and on the edges
abbrev pub IsEndingUncovered : List Function → Function → ℕ → Block → List Fact → List EdgeFacts → Option Ending →
    Broken → Type 0
IsEndingUncovered functions function f block known edges None broken = ⊥
IsEndingUncovered functions function f block known edges (Some ending) broken =
    IsUncoveredAt functions function f block ending.line known edges ending.terminator broken

-- ---- 703: the measure is within its bound, and falls at a self call

abbrev pub IsUnbounded : Function → List Fact → Broken → Type 0
IsUnbounded function known broken =
    IsPairBroken 703 function.measure.line (shows known (left_behind function.measure.form 0))
    (shows known (number_less function.measure.bound function.measure.form)) broken

-- the arguments' measure is at least 0 and less than the call's own
abbrev pub IsNotFalling : Function → ℕ → List Fact → List Argument → Broken → Type 0
IsNotFalling function line known arguments broken =
    IsPairBroken 703 line (shows known (put_in (argument_moves 0 arguments) function.measure.form)) (shows known
    (less_form (left_behind function.measure.form 1) (argument_moves 0 arguments) function.measure.form)) broken

abbrev pub IsCallNotFalling : Function → ℕ → ℕ → List Fact → Instruction → Broken → Type 0
IsCallNotFalling function f line known (instruction.Call d callee arguments) broken = (callee.0 ≡ f) ×
    IsNotFalling function line known arguments broken
IsCallNotFalling function f line known other broken = ⊥

-- at one of a block's steps, with what is known there
abbrev pub AreStepsNotFalling : Function → ℕ → Block → (ℕ → List Fact) → Broken → Type 0
AreStepsNotFalling function f block facts_at broken = (i : ℕ) × (step : Step) × (slice_get block.steps i ≡ Some step) ×
    IsCallNotFalling function f step.line (facts_at i) step.instruction broken

-- ---- 704: the budget covers what is left at the entry

abbrev pub IsOverBudget : Function → List Fact → Block → Broken → Type 0
IsOverBudget function known entry broken =
    IsPairBroken 704 function.budget.line (shows known (number_less function.budget.self_calls entry.left.self_calls))
    (shows known (number_less function.budget.instructions entry.left.instructions)) broken

-- ---- 705: no entry of the table is over a million million

abbrev pub IsTooCostly : Function → Broken → Type 0
IsTooCostly function broken = (broken.number ≡ 705) × (broken.line ≡ function.line) × (m : ℕ) ×
    (m ≤ function.measure.bound) × (1000000000000 < cost function m)

-- ---- all of them

abbrev pub IsEntryBroken : Function → Option Block → Broken → Type 0
IsEntryBroken function None broken = ⊥
IsEntryBroken function (Some entry) broken = IsUnbounded function (start_facts function 0 entry) broken ⊎
    IsOverBudget function (start_facts function 0 entry) entry broken

-- with what is known at the block's start, at its steps, at its terminator and on its edges
abbrev pub IsBlockBrokenBy : List Function → Function → ℕ → Block → List Fact → (ℕ → List Fact) → List Fact →
    List EdgeFacts → Broken → Type 0
IsBlockBrokenBy functions function f block start facts_at known edges broken = IsOverdrawn start block broken ⊎
    (IsEndingUncovered functions function f block known edges block.ending broken ⊎
    AreStepsNotFalling function f block facts_at broken)

abbrev pub IsBlockBroken : List Function → Function → ℕ → ℕ → Block → Broken → Type 0
IsBlockBroken functions function f b block broken =
    IsBlockBrokenBy functions function f block (start_facts function b block) (facts_at_step functions function b block)
    (facts_at_end functions function b block) (edges_known functions function b block block.ending) broken

abbrev pub AreBlocksBroken : List Function → ℕ → Function → Broken → Type 0
AreBlocksBroken functions f function broken = (b : ℕ) × (block : Block) × (slice_get function.blocks b ≡ Some block) ×
    IsBlockBroken functions function f b block broken

abbrev pub IsFunctionBroken : List Function → ℕ → Function → Broken → Type 0
IsFunctionBroken functions f function broken = AreBlocksBroken functions f function broken ⊎
    (IsEntryBroken function (slice_get function.blocks 0) broken ⊎ IsTooCostly function broken)

-- 701 to 705
abbrev pub IsCostBroken : Program → Broken → Type 0
IsCostBroken program broken = (f : ℕ) × (function : Function) × (slice_get program.functions f ≡ Some function) ×
    IsFunctionBroken program.functions f function broken

-- none of these rules is broken
abbrev pub AreCostsRight : Program → Type 0
AreCostsRight program = (broken : Broken) → IsCostBroken program broken → ⊥
