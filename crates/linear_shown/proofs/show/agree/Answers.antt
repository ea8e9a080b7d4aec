use Rattle.std.proofs.Common.{◌∙◌, sym, get_or}
use Rattle.std.proofs.lemmas.Bool.{true≢false}
use Rattle.linear_shown.proofs.Agreement.{agree_everywhere}
use Rattle.linear_shown.proofs.show.agree.Goals.{then-agree_along, else-agree_along}
use Rattle.linear_shown.proofs.show.agree.Goals as goal

pub returns-then-agree_along-2 : goal.returns-then-agree_along-2
returns-then-agree_along-2 c = (
  λ h. elim c.if-agree_along.branch [
    | then-agree_along w ↦ agree_everywhere c.args.e.now c.args.a c.args.f.now c.args.b c.args.g.now (c.agree_along.ensures.0 w.if-agree_along.true) (w.agree_along-then-agree_along.ensures.0 (sym w.value-is ∙ c.if-agree_along-2.true)) (c.agree_along-then-agree_along-2.ensures.0 h)
    | else-agree_along w ↦ absurd (true≢false (sym c.if-agree_along-2.true ∙ w.value-is ∙ w.if-agree_along.false))
  ],
  λ all. c.agree_along-then-agree_along-2.ensures.1 (λ k d l. all (get_or c.args.g.now k d).register.0),
)
