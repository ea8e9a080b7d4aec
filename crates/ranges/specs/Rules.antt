-- How the rules on numbers are broken, place by place.
use Rattle.std.specs.Prelude.{◌≡◌, ◌⊎◌, ℕ, false, List, [], length, take, Option, Some, None, Any, slice_get}
use Rattle.linear.specs.declared.form.Fact.{Fact}
use Rattle.program.specs.declared.annotation.Inequality.{Inequality}
use Rattle.program.specs.declared.instruction.Ending.{Ending}
use Rattle.program.specs.declared.instruction.Step.{Step}
use Rattle.program.specs.declared.function.Block.{Block}
use Rattle.program.specs.declared.function.Function.{Function}
use Rattle.program.specs.declared.function.Program.{Program}
use Rattle.refusal.specs.declared.broken.Broken.{Broken}
use Rattle.ranges_owed.specs.declared.sum.Obligation.{Obligation}
use Rattle.ranges.specs.declared.table.EdgeFacts.{EdgeFacts}
use Rattle.ranges.specs.Sums.{shows, is_met}
use Rattle.ranges_owed.specs.Inequalities.{difference_of}
use Rattle.ranges_owed.specs.Owed.{owed, owed_at_end}
use Rattle.ranges.specs.Edges.{edge_owed}
use Rattle.ranges.specs.Places.{start_facts, with_shows, facts_before, facts_at_end, edges_known}

-- at a line, an obligation that the facts do not meet
abbrev pub AreUnmet : List Fact → ℕ → List Obligation → Broken → Type 0
AreUnmet known line obligations broken = Any (λ o. (broken.number ≡ o.number) × (broken.line ≡ line) ×
    (is_met known o ≡ false)) obligations

-- 508: a `shows` line that the facts before it do not show
abbrev pub IsUnshown : List Fact → List Inequality → ℕ → Inequality → Broken → Type 0
IsUnshown known lines i q broken = (broken.number ≡ 508) × (broken.line ≡ q.line) ×
    (shows (with_shows known (take i lines)) (difference_of [] q) ≡ false)

abbrev pub AreUnshown : List Fact → List Inequality → Broken → Type 0
AreUnshown known lines broken = (i : ℕ) × (q : Inequality) × (slice_get lines i ≡ Some q) ×
    IsUnshown known lines i q broken

-- 501 to 504 and 506 at a step, and 508 before it
abbrev pub IsStepBroken : Program → Function → List Fact → Step → Broken → Type 0
IsStepBroken program function known step broken = AreUnshown known step.shows broken ⊎
    AreUnmet (with_shows known step.shows) step.line (owed program function step.instruction) broken

abbrev pub AreStepsBroken : Program → Function → ℕ → Block → Broken → Type 0
AreStepsBroken program function b block broken = (i : ℕ) × (step : Step) × (slice_get block.steps i ≡ Some step) ×
    IsStepBroken program function (facts_before program.functions (start_facts function b block) block.steps i) step
    broken

-- 505 on one of the edges
abbrev pub AreEdgesBroken : Function → ℕ → List EdgeFacts → Broken → Type 0
AreEdgesBroken function line edges broken = Any (λ e. AreUnmet e.facts line (edge_owed function.blocks e) broken) edges

-- 507 and 505 at a terminator, and 508 before it
abbrev pub IsEndBroken : Program → Function → ℕ → Block → Option Ending → Broken → Type 0
IsEndBroken program function b block None broken = ⊥
IsEndBroken program function b block (Some ending) broken = AreUnshown (facts_before program.functions
    (start_facts function b block) block.steps (length block.steps)) ending.shows broken ⊎
    (AreUnmet (facts_at_end program.functions function b block) ending.line (owed_at_end function ending.terminator)
    broken ⊎ AreEdgesBroken function ending.line (edges_known program.functions function b block (Some ending)) broken)

abbrev pub IsBlockBroken : Program → Function → ℕ → Block → Broken → Type 0
IsBlockBroken program function b block broken = AreStepsBroken program function b block broken ⊎
    IsEndBroken program function b block block.ending broken

abbrev pub IsFunctionBroken : Program → Function → Broken → Type 0
IsFunctionBroken program function broken = (b : ℕ) × (block : Block) × (slice_get function.blocks b ≡ Some block) ×
    IsBlockBroken program function b block broken

-- 501 to 508
abbrev pub IsRangeBroken : Program → Broken → Type 0
IsRangeBroken program broken = Any (λ function. IsFunctionBroken program function broken) program.functions

-- none of these rules is broken
abbrev pub AreRangesRight : Program → Type 0
AreRangesRight program = (broken : Broken) → IsRangeBroken program broken → ⊥
