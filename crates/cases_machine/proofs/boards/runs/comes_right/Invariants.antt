use Rattle.cases_machine.proofs.boards.runs.comes_right.Given as goal

abbrev pub ghosts-played-L-Ledger : goal.ghosts-played-L-Ledger
ghosts-played-L-Ledger a = record { name = a.blank.name; parts = a.blank.parts }

abbrev pub ghosts-played-L-Bench : goal.ghosts-played-L-Bench
ghosts-played-L-Bench a = record { code = a.run.now.verified.now; arguments = a.run.now.arguments.now; memory = a.memory; crew = a.run.now.workers }
