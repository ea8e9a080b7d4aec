use Rattle.std.proofs.Common.{◌≡◌, sym, subst}
use Rattle.std.proofs.lemmas.Result.{IfOk-weaker}
use Rattle.annotate.specs.Kept.{IsAcceptedText, IsAnnotated}
use Rattle.annotate.proofs.pruning.shortened.Goals as goal

pub returns-clause-accepted : goal.returns-clause-accepted
returns-clause-accepted c =
    IfOk-weaker c.copied.result (λ out. out.items ≡ c.args.shorter.now) (λ out. IsAcceptedText out.items)
    (λ out copy. subst IsAcceptedText (sym copy) c.requires.accepted) c.copied.ensures

pub returns-clause-annotated : goal.returns-clause-annotated
returns-clause-annotated c =
    IfOk-weaker c.copied.result (λ out. out.items ≡ c.args.shorter.now) (λ out. IsAnnotated out.items c.args.text.now)
    (λ out copy. subst (λ less. IsAnnotated less c.args.text.now) (sym copy) c.requires.annotated) c.copied.ensures
