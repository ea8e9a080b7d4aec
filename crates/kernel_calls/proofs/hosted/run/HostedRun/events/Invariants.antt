use Rattle.kernel_calls.proofs.hosted.run.HostedRun.events.Given as goal

abbrev pub ghosts-events_as-L-Ledger : goal.ghosts-events_as-L-Ledger
ghosts-events_as-L-Ledger a = record { name = a.blank.name; parts = a.blank.parts }

abbrev pub ghosts-events_as-L-Bench : goal.ghosts-events_as-L-Bench
ghosts-events_as-L-Bench a = record { code = a.verified.now; arguments = a.board.arguments.items; memory = a.board.machine.memory; crew = a.board.workers }
