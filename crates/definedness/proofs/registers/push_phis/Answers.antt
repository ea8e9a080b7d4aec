use Rattle.definedness.specs.RegisterActs.{phi_needs}
use Rattle.definedness.proofs.Needs.{item_more}
use Rattle.definedness.proofs.registers.push_phis.Goals as goal

pub loop-phi-preserved : goal.loop-phi-preserved
loop-phi-preserved c = item_more (phi_needs c.args.from) _ _ c.phi-item.result _ _ _ c.loop-phi-test.true c.phi-item.is c.loop-phi.invariant (rw c.as_slice.ensures at c.in_ok-push_phi.ensures)
