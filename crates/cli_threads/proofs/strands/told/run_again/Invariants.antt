use Rattle.cli_threads.proofs.strands.told.run_again.Given as goal

abbrev pub ghosts-run_by-L-Ledger : goal.ghosts-run_by-L-Ledger
ghosts-run_by-L-Ledger a = record { name = a.blank.name; parts = a.blank.parts }

abbrev pub ghosts-run_by-L-Bench : goal.ghosts-run_by-L-Bench
ghosts-run_by-L-Bench a = record { code = a.launch.verified.now; arguments = a.launch.arguments.now; memory = a.launch.memory; crew = a.launch.workers }
