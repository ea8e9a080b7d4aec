use Rattle.types.specs.Instruction as spec
use Rattle.types.proofs.names.Giving.{all_step, gives_told}
use Rattle.types.proofs.instruction.resolve_entries.Goals as goal

pub loop-entry-preserved : goal.loop-entry-preserved
loop-entry-preserved c =
    all_step (λ _. spec.entry_of c.args.scope.now c.args.line c.args.width) c.args.entries.now c.loop-entry.entry-index c.entry-item.result
    c.joined-resolved.result c.loop-entry.resolved c.told.result
    c.loop-entry-test.true c.entry-item.is c.joined-resolved.ensures c.loop-entry.invariant (gives_told _ _ _ c.told.ensures c.resolve_entry.ensures)
