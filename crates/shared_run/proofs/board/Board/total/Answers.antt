use Rattle.std.proofs.Common.{arith}
use Rattle.shared_run.specs.Story.{Origin, origin}
use Rattle.shared_run.proofs.Bound.{few}
use Rattle.shared_run.proofs.board.Board.total.Goals as goal

pub returns-clause-bound : goal.returns-clause-bound
returns-clause-bound g c =
    let o : Origin = origin g.L.Bench.code g.L.Bench.arguments g.L.Bench.memory g.L.Bench.crew in
    rw (← c.self.view_is) (let f = few o c.self.inside.history.events c.self.inside.machine.stage c.self.invariant.0 in omega (arith, f, c.total.ensures))
