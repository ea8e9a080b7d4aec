use Rattle.linear_shown.proofs.Tested.{shown_passes}
use Rattle.linear_shown.proofs.find.shown_by_one.Goals as goal

pub returns : goal.returns
returns c = λ h. shown_passes c.args.search.now.facts.now c.args.search.now.form.now (c.made_up_alone.ensures h)
