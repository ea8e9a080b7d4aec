use Rattle.kernel_calls.proofs.hosted.run.HostedRun.meet.Given as goal

abbrev pub ghosts-meet_as-L-Ledger : goal.ghosts-meet_as-L-Ledger
ghosts-meet_as-L-Ledger a = record { name = a.blank.name; parts = a.blank.parts }

abbrev pub ghosts-meet_as-L-Bench : goal.ghosts-meet_as-L-Bench
ghosts-meet_as-L-Bench a = record { code = a.verified.now; arguments = a.self.board.arguments.items; memory = a.self.board.machine.memory; crew = a.self.board.workers }
