use Rattle.kernel_calls.proofs.hosted.run.HostedRun.begin.Given as goal

abbrev pub ghosts-board_as-L-Ledger : goal.ghosts-board_as-L-Ledger
ghosts-board_as-L-Ledger a = record { name = a.blank.name; parts = a.blank.parts }

abbrev pub ghosts-board_as-L-Bench : goal.ghosts-board_as-L-Bench
ghosts-board_as-L-Bench a = record { code = a.launch.verified.now; arguments = a.launch.arguments.now; memory = a.launch.memory; crew = a.launch.workers }
