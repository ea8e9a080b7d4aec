use Rattle.kernel_calls.proofs.hosted.run.HostedRun.finish.Given as goal

abbrev pub ghosts-finish_as-L-Ledger : goal.ghosts-finish_as-L-Ledger
ghosts-finish_as-L-Ledger a = record { name = a.blank.name; parts = a.blank.parts }

abbrev pub ghosts-finish_as-L-Bench : goal.ghosts-finish_as-L-Bench
ghosts-finish_as-L-Bench a = record { code = a.verified.now; arguments = a.board.arguments.items; memory = a.board.machine.memory; crew = a.board.workers }
