use Rattle.std.proofs.Common.{◌≡◌, take}
use Rattle.cfg.specs.Edges.{moves_from}
use Rattle.cfg.proofs.edges.make_moves.Given as goal

abbrev pub invariant-loop-phi : goal.invariant-loop-phi
invariant-loop-phi l = l.moves.items ≡ moves_from l.from (take l.phi-index l.phis)
