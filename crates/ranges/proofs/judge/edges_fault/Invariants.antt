use Rattle.std.proofs.Common.{◌≡◌, ◌++◌, take}
use Rattle.std.specs.List.{Any}
use Rattle.refusal.specs.Earliest.{IsEarliest}
use Rattle.ranges.specs.Edges.{edge_owed}
use Rattle.ranges.specs.Rules.{AreUnmet}
use Rattle.ranges.proofs.judge.edges_fault.Given as goal

abbrev pub invariant-loop-edge : goal.invariant-loop-edge
invariant-loop-edge l =
    (l.facts.0 ≡ l.known)
    × IsEarliest (λ b. Any (λ e. AreUnmet (l.known ++ e.facts) l.line (edge_owed l.blocks e) b) (take l.edge-index l.edges)) l.named
