use Rattle.std.proofs.Common.{◌≡◌, inl, inr, sym, subst}
use Rattle.std.proofs.lemmas.Result.{IfOk-weaker}
use Rattle.annotate.specs.Kept.{IsAnnotated, StaysAccepted}
use Rattle.annotate.proofs.Among.{among_themselves}
use Rattle.ir_reader.specs.Lines.{lines_of}
use Rattle.annotate.proofs.trying.as_it_was.Goals as goal

pub returns-clause-accepted : goal.returns-clause-accepted
returns-clause-accepted c =
    IfOk-weaker c.copied.result (λ out. out.items ≡ c.args.text.now) (λ out. StaysAccepted c.args.text.now out.items)
    (λ out copy. inr (inl copy)) c.copied.ensures

pub returns-clause-annotated : goal.returns-clause-annotated
returns-clause-annotated c =
    IfOk-weaker c.copied.result (λ out. out.items ≡ c.args.text.now) (λ out. IsAnnotated c.args.text.now out.items)
    (λ out copy. subst (IsAnnotated c.args.text.now) (sym copy) (among_themselves (lines_of c.args.text.now))) c.copied.ensures
