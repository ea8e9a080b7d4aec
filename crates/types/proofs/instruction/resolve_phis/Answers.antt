use Rattle.types.specs.Instruction as spec
use Rattle.types.proofs.names.Giving.{all_step}
use Rattle.types.proofs.instruction.resolve_phis.Goals as goal

pub loop-phi-preserved : goal.loop-phi-preserved
loop-phi-preserved c =
    all_step (λ _. spec.phi_of c.args.scope.now) c.args.phis.now c.loop-phi.phi-index c.phi-item.result
    c.joined-resolved.result c.loop-phi.resolved c.resolve_phi.result
    c.loop-phi-test.true c.phi-item.is c.joined-resolved.ensures c.loop-phi.invariant c.resolve_phi.ensures
