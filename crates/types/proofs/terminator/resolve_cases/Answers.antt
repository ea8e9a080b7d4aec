use Rattle.types.specs.Terminator as spec
use Rattle.types.proofs.names.Giving.{all_step, gives_told}
use Rattle.types.proofs.terminator.resolve_cases.Goals as goal

pub loop-case-preserved : goal.loop-case-preserved
loop-case-preserved c =
    all_step (λ _. spec.case_of c.args.scope.now c.args.line c.args.width) c.args.cases.now c.loop-case.case-index c.case-item.result
    c.joined-resolved.result c.loop-case.resolved c.told.result
    c.loop-case-test.true c.case-item.is c.joined-resolved.ensures c.loop-case.invariant (gives_told _ _ _ c.told.ensures c.resolve_case.ensures)
