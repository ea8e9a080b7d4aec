use Rattle.std.proofs.Common.{subst}
use Rattle.explain.specs.Verdict.{IsVerdictOn}
use Rattle.explain.specs.declared.report.Explanation.{Explanation}
use Rattle.kernel_calls.proofs.words.status_of.Goals as goal

pub returns-in-Accepted-clause-accepted : goal.returns-in-Accepted-clause-accepted
returns-in-Accepted-clause-accepted c = λ text effort h is. subst (λ (e : Explanation). IsVerdictOn text effort e) c.in-Accepted.is h

pub returns-in-Refused-clause-refused : goal.returns-in-Refused-clause-refused
returns-in-Refused-clause-refused c = λ text effort h is. (_, _, subst (λ (e : Explanation). IsVerdictOn text effort e) c.in-Refused.is h)

pub returns-in-Undecided-clause-effort : goal.returns-in-Undecided-clause-effort
returns-in-Undecided-clause-effort c = λ text effort h is. subst (λ (e : Explanation). IsVerdictOn text effort e) c.in-Undecided.is h
