use Rattle.std.proofs.Common.{◌≡◌, ◌≢◌, ℕ, ◌<◌}
use Rattle.std.specs.List.{Any}
use Rattle.cfg.specs.declared.structure.Edge.{Edge}
use Rattle.cfg.specs.declared.structure.Way.TheVariants.{Detached}
use Rattle.cfg.specs.Paths.{edges_of}
use Rattle.cfg.specs.Rules.{IsPredecessor}
use Rattle.region_match.proofs.places.is_shared.Given as goal

abbrev pub invariant-loop-one : goal.invariant-loop-one
invariant-loop-one l = (a : ℕ) → a < l.one → Any (λ (e : Edge). (e.to.0 ≡ l.block) × (e.way ≡ Detached)) (edges_of l.blocks a) → (other : ℕ) × (other ≢ a) × IsPredecessor l.blocks other l.block → ⊥
