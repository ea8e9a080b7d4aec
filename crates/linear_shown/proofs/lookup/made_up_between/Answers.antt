use Rattle.std.proofs.lemmas.Bool.{false≢true}
use Rattle.linear_shown.proofs.Passing.{none_balance}
use Rattle.linear_shown.proofs.lookup.made_up_between.Goals as goal

pub returns-in-None : goal.returns-in-None
returns-in-None c = (
  λ h. absurd (false≢true h),
  λ made. absurd (none_balance c.args.search.now.facts.now c.args.firsts.now c.args.seconds.now c.requires.firsts c.requires.seconds c.args.search.now.form.now c.args.a c.args.b c.args.search.now.key c.requires.key c.in-None.ensures.none made),
)
