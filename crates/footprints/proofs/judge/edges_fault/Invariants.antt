use Rattle.std.proofs.Common.{◌≡◌, take}
use Rattle.std.specs.List.{Any}
use Rattle.refusal.specs.Earliest.{IsEarliest}
use Rattle.ranges.specs.Tables.{with_known}
use Rattle.footprints.specs.Rules.{IsEdgeBroken}
use Rattle.footprints.proofs.judge.edges_fault.Given as goal

abbrev pub invariant-loop-edge : goal.invariant-loop-edge
invariant-loop-edge l =
    (l.facts.0 ≡ l.fn.facts.0)
    × IsEarliest (λ b. Any (λ e. IsEdgeBroken l.blocks l.block l.ending (with_known l.fn.facts.0 e) b) (take l.edge-index l.edges)) l.named
