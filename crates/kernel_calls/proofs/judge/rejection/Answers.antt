use Rattle.std.proofs.Common.{subst}
use Rattle.ranges.specs.declared.unverified.Unverified.{Unverified}
use Rattle.refusal.specs.declared.refused.Refused.{Refused}
use Rattle.refusal.specs.Refusals.{IfBroken}
use Rattle.verifier.specs.Accepted.{IsRefused, IsUnverified}
use Rattle.kernel_calls.proofs.Bounded.{bounded_some}
use Rattle.kernel_calls.proofs.judge.rejection.Goals as goal

pub returns-in-Refused-clause-refused : goal.returns-in-Refused-clause-refused
returns-in-Refused-clause-refused c = λ text effort h status.
    subst (λ (r : Refused). IfBroken (IsRefused text) r) (c.refusal.ensures.fault status) (subst (λ (why : Unverified). IsUnverified text effort why) c.in-Refused.is h)

pub returns-in-OutOfEffort-clause-effort : goal.returns-in-OutOfEffort-clause-effort
returns-in-OutOfEffort-clause-effort c = λ text effort h status.
    bounded_some effort _ (subst (λ (why : Unverified). IsUnverified text effort why) c.in-OutOfEffort.is h)
