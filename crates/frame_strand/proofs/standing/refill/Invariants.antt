use Rattle.std.proofs.Common.{◌≡◌, take}
use Rattle.std.specs.Prelude.{vec_capacity}
use Rattle.frame_strand.proofs.standing.refill.Given as goal

abbrev pub invariant-loop-place : goal.invariant-loop-place
invariant-loop-place g l = (l.target.items ≡ take l.place l.source) × (vec_capacity l.target ≡ vec_capacity l.fn.target)
