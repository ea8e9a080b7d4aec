use Rattle.std.proofs.Common.{◌≡◌, sym, subst}
use Rattle.std.proofs.lemmas.Result.{IfOk-weaker}
use Rattle.annotate.specs.Kept.{IsAnnotated, StaysAccepted}
use Rattle.annotate.proofs.trying.with_more.Goals as goal

pub returns-clause-accepted : goal.returns-clause-accepted
returns-clause-accepted c =
    IfOk-weaker c.copied.result (λ out. out.items ≡ c.args.more.now) (λ out. StaysAccepted c.args.text.now out.items)
    (λ out copy. subst (StaysAccepted c.args.text.now) (sym copy) c.requires.accepted) c.copied.ensures

pub returns-clause-annotated : goal.returns-clause-annotated
returns-clause-annotated c =
    IfOk-weaker c.copied.result (λ out. out.items ≡ c.args.more.now) (λ out. IsAnnotated c.args.text.now out.items)
    (λ out copy. subst (IsAnnotated c.args.text.now) (sym copy) c.requires.annotated) c.copied.ensures
