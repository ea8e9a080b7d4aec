use Rattle.std.proofs.Common.{◌≡◌, ℕ, ◌<◌}
use Rattle.std.specs.List.{Any}
use Rattle.cfg.specs.declared.structure.Edge.{Edge}
use Rattle.cfg.specs.Paths.{edges_of}
use Rattle.region_match.proofs.places.is_entered.Given as goal

abbrev pub invariant-loop-body : goal.invariant-loop-body
invariant-loop-body l = (a : ℕ) → a < l.body-index → Any (λ (e : Edge). (e.to.0 ≡ l.block) × (e.way ≡ l.way)) (edges_of l.blocks a) → ⊥
