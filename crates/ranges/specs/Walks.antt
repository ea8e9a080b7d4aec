-- For the functions of this crate and their loops alone: a walk over a block.
use Rattle.std.specs.Prelude.{◌≡◌, ◌⊎◌, ℕ, ◌≤◌, List, [], ◌<◌, length, take, Option, Some, None, Any, slice_get}
use Rattle.std.specs.Prelude.{slice_index_or}
use Rattle.linear.specs.declared.form.Fact.{Fact}
use Rattle.program.specs.declared.instruction.Ending.{Ending}
use Rattle.program.specs.declared.instruction.Step.{Step}
use Rattle.program.specs.declared.function.Block.{Block}
use Rattle.program.specs.declared.function.Function.{Function}
use Rattle.refusal.specs.declared.broken.Broken.{Broken}
use Rattle.ranges.specs.declared.table.EdgeFacts.{EdgeFacts}
use Rattle.ranges_owed.specs.Owed.{owed_at_end}
use Rattle.ranges.specs.Edges.{edges_out, all_edge_facts, edge_owed}
use Rattle.ranges.specs.Places.{with_shows, facts_before}
use Rattle.ranges.specs.Rules.{AreUnmet, AreUnshown}

-- the facts behind the first steps, and how many of them are known at each
pub record IsWalkedTo (functions : List Function) (before : List Fact) (steps : List Step) (n : ℕ) (counts : List ℕ)
    (facts : List Fact) : Type 0 where
  pub size : length counts ≡ n
  pub facts_are : facts ≡ facts_before functions before steps n
  pub within : (i : ℕ) (step : Step) → i < n → slice_get steps i ≡ Some step → slice_index_or counts i 0 ≤ length facts
  pub at_step : (i : ℕ) (step : Step) → i < n → slice_get steps i ≡ Some step
      → take (slice_index_or counts i 0) facts ≡ with_shows (facts_before functions before steps i) step.shows

-- all steps
abbrev pub IsWalked : List Function → List Fact → List Step → List ℕ → List Fact → Type 0
IsWalked functions before steps counts facts = IsWalkedTo functions before steps (length steps) counts facts

abbrev pub edges_behind : Function → ℕ → Block → List Fact → Option Ending → List EdgeFacts
edges_behind function b block known None = []
edges_behind function b block known (Some ending) =
    all_edge_facts function.blocks b known (edges_out block.steps ending.terminator)

abbrev pub IsEndUnmetAt : Function → List Fact → List EdgeFacts → Option Ending → Broken → Type 0
IsEndUnmetAt function before edges None broken = ⊥
IsEndUnmetAt function before edges (Some ending) broken =
    AreUnshown before ending.shows broken
    ⊎ (AreUnmet (with_shows before ending.shows) ending.line (owed_at_end function ending.terminator) broken
    ⊎ Any (λ e. AreUnmet e.facts ending.line (edge_owed function.blocks e) broken) edges)

-- a fault is known on a line before this one
abbrev pub StandsBefore : Option Broken → ℕ → Type 0
StandsBefore None line = ⊥
StandsBefore (Some first) line = first.line < line
