use Rattle.std.proofs.Common.{◌≡◌, subst, ℕ}
use Rattle.kernel_calls.specs.Told.{granted_by, out_of_effort, refused}
use Rattle.kernel_calls.proofs.Bounded.{bounded_is}
use Rattle.kernel_calls.proofs.serial.verify_and_run.Goals as goal

pub returns-clause-refused : goal.returns-clause-refused
returns-clause-refused c = λ is_refused.
    c.rejection-verdict.ensures.refused c.args.text.now (granted_by c.args.effort) c.in-Err.ensures.refused
    (subst (λ (n : ℕ). n ≡ refused) c.plain_outcome-in-Err.ensures is_refused)

pub returns-clause-effort : goal.returns-clause-effort
returns-clause-effort c = λ is.
    bounded_is c.args.effort
    (c.rejection-verdict.ensures.effort c.args.text.now (granted_by c.args.effort) c.in-Err.ensures.refused
    (subst (λ (n : ℕ). n ≡ out_of_effort) c.plain_outcome-in-Err.ensures is))
