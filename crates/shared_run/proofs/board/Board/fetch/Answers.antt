use Rattle.shared_run.proofs.board.Board.fetch.Goals as goal

pub returns-in-Some-Need-clause-fetches : goal.returns-in-Some-Need-clause-fetches
returns-in-Some-Need-clause-fetches g c = c.fetch_cell.ensures.fetches c.args.seat.now
