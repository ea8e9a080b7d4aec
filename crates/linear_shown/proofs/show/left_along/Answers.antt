use Rattle.std.proofs.Common.{◌∙◌, sym}
use Rattle.std.proofs.lemmas.Bool.{false≢true}
use Rattle.linear_shown.proofs.Left.{alone_agrees}
use Rattle.linear_shown.proofs.show.left_along.Goals as goal

pub returns-then-not-agrees_at : goal.returns-then-not-agrees_at
returns-then-not-agrees_at c = λ same. false≢true (sym c.if-not-agrees_at.true ∙ c.agrees_at.ensures.1 (alone_agrees c.args.e.now c.args.f.now c.args.a _ c.requires.e c.requires.f same))
