use Rattle.definedness.specs.RegisterActs.{phi_gives}
use Rattle.definedness.proofs.Needs.{item_more}
use Rattle.definedness.proofs.registers.push_phi_registers.Goals as goal

pub loop-phi-preserved : goal.loop-phi-preserved
loop-phi-preserved c = item_more phi_gives _ _ c.phi-item.result _ _ _ c.loop-phi-test.true c.phi-item.is c.loop-phi.invariant c.in_ok-push.ensures.items
