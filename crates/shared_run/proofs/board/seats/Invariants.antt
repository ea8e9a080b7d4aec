use Rattle.std.specs.Prelude.{◌≡◌, ◌+◌}
use Rattle.shared_run.specs.Story.{AreSeats}
use Rattle.shared_run.proofs.board.seats.Given as goal

abbrev pub invariant-loop-worker : goal.invariant-loop-worker
invariant-loop-worker g l = record { parts : l.all.parts + l.worker ≡ l.workers; none : l.all.amount ≡ 0; seats : AreSeats l.worker l.seats.items }
