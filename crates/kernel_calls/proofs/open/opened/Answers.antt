use Rattle.std.proofs.Common.{◌∙◌, Some, ap}
use Rattle.kernel_calls.specs.Told.{granted_by}
use Rattle.kernel_calls.proofs.Bounded.{bounded_is}
use Rattle.kernel_calls.proofs.open.opened.Goals as goal

pub returns-in-Some-clause-accepted : goal.returns-in-Some-clause-accepted
returns-in-Some-clause-accepted c is_done =
    let said = c.acceptance-verdict.ensures in
    record {
      accepts = record { program = c.in-Ok.kernel; means = c.in-Ok.ensures.accepted; budget = said.budget; depth = said.depth; cells = said.cells };
      held = c.kept.ensures ∙ ap Some c.in-Some.ensures;
    }

pub returns-in-Err-clause-refused : goal.returns-in-Err-clause-refused
returns-in-Err-clause-refused c = c.rejection.ensures.refused c.args.text.now (granted_by c.args.effort) c.in-Err.ensures.refused

pub returns-in-Err-clause-effort : goal.returns-in-Err-clause-effort
returns-in-Err-clause-effort c = λ is.
    bounded_is c.args.effort (c.rejection.ensures.effort c.args.text.now (granted_by c.args.effort) c.in-Err.ensures.refused is)
