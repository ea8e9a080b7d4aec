use Rattle.std.proofs.Common.{Option, ℕ, subst}
use Rattle.std.specs.Prelude.{IsSome}
use Rattle.kernel_calls.proofs.Bounded.{bounded_is}
use Rattle.kernel_calls.proofs.words.reasons.Goals as goal

pub returns-clause-accepted : goal.returns-clause-accepted
returns-clause-accepted c = c.status_of.ensures.accepted c.args.text.now c.effort_of.result c.in_ok-explanation.ensures.verdict

pub returns-clause-refused : goal.returns-clause-refused
returns-clause-refused c = c.status_of.ensures.refused c.args.text.now c.effort_of.result c.in_ok-explanation.ensures.verdict

pub returns-clause-effort : goal.returns-clause-effort
returns-clause-effort c = λ is.
    bounded_is c.args.effort
    (subst (λ (o : Option ℕ). IsSome o) c.effort_of.ensures (c.status_of.ensures.effort c.args.text.now c.effort_of.result c.in_ok-explanation.ensures.verdict is))
