use Rattle.std.proofs.Common.{◌≢◌, ℕ, ◌<◌}
use Rattle.cfg.specs.Rules.{IsPredecessor}
use Rattle.region_match.proofs.places.is_followed_by_another.Given as goal

abbrev pub invariant-loop-other : goal.invariant-loop-other
invariant-loop-other l = (a : ℕ) → a < l.other → a ≢ l.one → IsPredecessor l.blocks a l.block → ⊥
