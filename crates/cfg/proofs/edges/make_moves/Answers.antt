use Rattle.cfg.proofs.EdgeLists.{moves_push, moves_skip}
use Rattle.cfg.proofs.edges.make_moves.Goals.{in-Some+in_ok-push, in_default}
use Rattle.cfg.proofs.edges.make_moves.Goals as goal

pub loop-phi-preserved : goal.loop-phi-preserved
loop-phi-preserved c =
    elim c.match-entry_for.branch [
      | in-Some+in_ok-push w ↦ rw (w.moves-is, w.in_ok-push.ensures.items) (moves_push c.args.from c.args.phis.now _ c.phi-item.result _ _ _ c.loop-phi-test.true c.loop-phi.invariant c.phi-item.is c.as_slice.ensures w.in-Some.ensures)
      | in_default w ↦ rw w.moves-is (moves_skip c.args.from c.args.phis.now _ c.phi-item.result _ _ c.loop-phi-test.true c.loop-phi.invariant c.phi-item.is c.as_slice.ensures (w.in_default.ensures))
    ]
