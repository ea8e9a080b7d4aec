use Rattle.std.specs.Prelude.{◌≡◌, ◌+◌, ◌≤◌, vec_len, vec_capacity}
use Rattle.deque_pool.proofs.workers.disband.Given as goal

abbrev pub invariant-loop-worker : goal.invariant-loop-worker
invariant-loop-worker g l = record {
  seats : vec_len l.room + vec_len l.crew ≡ vec_len l.fn.crew;
  seats_fit : vec_len l.fn.crew ≤ vec_capacity l.room;
  left : vec_len l.left + vec_len l.crew ≡ vec_len l.fn.crew;
  left_fit : vec_len l.fn.crew ≤ vec_capacity l.left;
}

abbrev pub decreases-loop-worker : goal.decreases-loop-worker
decreases-loop-worker g l = vec_len l.crew
