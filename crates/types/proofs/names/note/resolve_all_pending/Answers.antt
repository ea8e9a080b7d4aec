use Rattle.types.specs.names.Note as spec
use Rattle.types.proofs.names.Giving.{all_step}
use Rattle.types.proofs.names.note.resolve_all_pending.Goals as goal

pub loop-line-preserved : goal.loop-line-preserved
loop-line-preserved c =
    all_step (λ _. spec.pending_of c.args.items.now c.args.scope.now c.args.block) c.args.lines.now c.loop-line.line-index c.line-item.result
    c.joined-resolved.result c.loop-line.resolved c.resolve_pending.result
    c.loop-line-test.true c.line-item.is c.joined-resolved.ensures c.loop-line.invariant c.resolve_pending.ensures
