use Rattle.std.proofs.Common.{◌≡◌, refl, sym, ap, ◌∙◌, arith}
use Rattle.shared_run.specs.Story.{Origin}
use Rattle.shared_run.proofs.Starts.{same_origin}
use Rattle.shared_run.proofs.start.Start.has.Goals as goal

pub returns-then-same_numbers : goal.returns-then-same_numbers
returns-then-same_numbers c =
    let arguments : c.args.arguments.now ≡ c.self.inside.arguments.items = sym (c.same_numbers.ensures.0 c.if-same_numbers.true) ∙ c.as_slice.ensures.value in
    let workers : c.args.workers ≡ c.self.inside.workers = omega (arith, c.if-self-workers.false) in
    rw (← c.self.view_is)
    (λ t. same_origin _ _ _ _ _ _ _ _ refl arguments (sym (c.same.ensures.0 t)) workers, λ e. c.same.ensures.1 (sym (ap (λ (o : Origin). o.memory) e)))
