-- The sample program `pair` within its tables.
use Rattle.std.specs.Prelude.{◌≡◌, ℕ, suc, [], ◌∷◌, ℤ}
use Rattle.semantics.specs.Cells.{Memory}
use Rattle.laws_conditions.specs.sample.Pair.{pair}
use Rattle.laws_conditions.specs.rules.Costs.{bound_of, cost_below}
use Rattle.laws_conditions.specs.rules.Serially.{RunsWithinTables}

-- a table in which each call stands on one frame more
abbrev pub two_deep : ℕ → ℕ → ℕ
two_deep function m = 2

-- it meets the rules on cost by its own annotations, with no fact at any place; they say 14 instructions
abbrev pub PairWithinTables : Type 0
PairWithinTables = (n : ℤ) (memory : Memory) → RunsWithinTables pair two_deep (n ∷ []) memory ×
    (cost_below pair 0 (suc (bound_of pair 0)) ≡ 14)
