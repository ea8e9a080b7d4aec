use Rattle.std.specs.Prelude.{◌≡◌, ◌+◌, vec_len, sum_by}
use Rattle.shared_run.proofs.board.gather.Given as goal

abbrev pub invariant-loop-share : goal.invariant-loop-share
invariant-loop-share g l = record { parts : l.all.parts + vec_len l.seats ≡ vec_len l.fn.seats; amount : l.all.amount + sum_by (λ s. s.share) l.seats.items ≡ sum_by (λ s. s.share) l.fn.seats.items }

abbrev pub decreases-loop-share : goal.decreases-loop-share
decreases-loop-share g l = vec_len l.seats
