use Rattle.types.specs.names.Form as spec
use Rattle.types.proofs.names.Giving.{all_step, gives_told}
use Rattle.types.proofs.names.form.terms.Goals as goal

pub loop-item-preserved : goal.loop-item-preserved
loop-item-preserved c =
    all_step (λ _. spec.term_of c.args.scope.now c.args.place c.args.line) c.args.items.now c.loop-item.item-index c.item-item.result
    c.joined-resolved.result c.loop-item.resolved c.told.result
    c.loop-item-test.true c.item-item.is c.joined-resolved.ensures c.loop-item.invariant (gives_told _ _ _ c.told.ensures c.term.ensures)
