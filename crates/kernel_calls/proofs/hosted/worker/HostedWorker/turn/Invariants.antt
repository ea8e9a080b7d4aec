use Rattle.std.specs.Prelude.{[]}
use Rattle.kernel_calls.proofs.hosted.worker.HostedWorker.turn.Given as goal

abbrev pub ghosts-turn_as-L-Ledger : goal.ghosts-turn_as-L-Ledger
ghosts-turn_as-L-Ledger a = record { name = 0; parts = 0 }

abbrev pub ghosts-turn_as-L-Bench : goal.ghosts-turn_as-L-Bench
ghosts-turn_as-L-Bench a = record { code = a.verified.now; arguments = []; memory = []; crew = 0 }
