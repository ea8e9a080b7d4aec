use Rattle.std.proofs.lemmas.Bool.Decides.{same_from_decides}
use Rattle.linear_shown.proofs.Tested.{decides_shown}
use Rattle.linear_shown.proofs.find.shown_by_two.Goals as goal

pub returns : goal.returns
returns c = same_from_decides _ _ c.made_up.ensures (decides_shown c.args.search.now.facts.now c.args.search.now.form.now)
