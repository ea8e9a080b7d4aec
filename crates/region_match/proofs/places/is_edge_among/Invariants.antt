use Rattle.std.proofs.Common.{◌≡◌, take}
use Rattle.std.specs.List.{All}
use Rattle.cfg.specs.declared.structure.Edge.{Edge}
use Rattle.region_match.proofs.places.is_edge_among.Given as goal

abbrev pub invariant-loop-edge : goal.invariant-loop-edge
invariant-loop-edge l = All (λ (e : Edge). (e.to.0 ≡ l.block) × (e.way ≡ l.way) → ⊥) (take l.edge-index l.edges)
