use Rattle.kernel_calls.proofs.hosted.run.HostedRun.look.Given as goal

abbrev pub ghosts-look_as-L-Ledger : goal.ghosts-look_as-L-Ledger
ghosts-look_as-L-Ledger a = record { name = a.blank.name; parts = a.blank.parts }

abbrev pub ghosts-look_as-L-Bench : goal.ghosts-look_as-L-Bench
ghosts-look_as-L-Bench a = record { code = a.verified.now; arguments = a.board.arguments.items; memory = a.board.machine.memory; crew = a.board.workers }
