use Rattle.std.proofs.Common.{◌≡◌, ℕ, List, take}
use Rattle.std.specs.List.{Any}
use Rattle.program.specs.declared.function.Function.{Function}
use Rattle.refusal.specs.declared.broken.Broken.{Broken}
use Rattle.refusal.specs.Earliest.{IsEarliest}
use Rattle.ranges.specs.Tables.{with_known}
use Rattle.cost_table.specs.Doing.{IsWork}
use Rattle.cost_table.specs.Rules.{IsEdgeUncovered}
use Rattle.cost_table.proofs.judge.BlockEnd.edges_fault.Given as goal

abbrev pub invariant-loop-edge : goal.invariant-loop-edge
invariant-loop-edge l =
    (l.facts.0 ≡ l.known)
    × ((functions : List Function) (f : ℕ) → IsWork functions f l.self.block.now l.self.work
    → IsEarliest (λ (b : Broken). Any (λ e. IsEdgeUncovered functions l.self.function.now f l.self.block.now l.self.line (with_known l.known e) b) (take l.edge-index l.edges)) l.named)
