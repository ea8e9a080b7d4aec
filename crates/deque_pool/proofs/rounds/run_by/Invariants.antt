use Rattle.std.specs.Prelude.{◌≡◌, ◌<◌, vec_len}
use Rattle.shared_run.specs.Launching.{start_of}
use Rattle.deque_pool.proofs.rounds.run_by.Given as goal

abbrev pub invariant-loop : goal.invariant-loop
invariant-loop g l = record {
  begun : l.shared ≡ start_of l.fn.launch;
  seats : vec_len l.seats ≡ g.L.Ledger.parts;
  some : 0 < g.L.Ledger.parts;
}
