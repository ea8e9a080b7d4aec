use Rattle.std.proofs.Common.{[]}
use Rattle.std.specs.Bool.{IsTrue}
use Rattle.std.specs.Option.{IfSome}
use Rattle.std.proofs.lemmas.Bool.Decides.{same_from_decides}
use Rattle.linear.specs.Forms.{IsRising}
use Rattle.linear_shown.specs.Search.{IsLeft}
use Rattle.linear_shown.specs.Shown.{IsShown}
use Rattle.linear_shown.proofs.Found.{found_shown, shown_found}
use Rattle.linear_shown.proofs.Tested.{decides_shown}
use Rattle.linear_shown.proofs.Sound.{shown_holds}
use Rattle.linear_shown.proofs.show.shown.Goals as goal

rises : (c : goal.After-found) → IsRising c.args.form.now.terms
rises c = rw c.side_of-e.ensures.terms at c.side_of-e.ensures.rising

leads : (c : goal.After-found) → IfSome c.left_over-lead.result (IsLeft c.args.form.now.terms 1 [])
leads c = rw c.side_of-e.ensures.terms at c.left_over-lead.ensures

is_shown : (c : goal.After-found) → IsTrue c.found.result → IsShown c.args.facts.now c.args.form.now
is_shown c h = found_shown c.args.facts.now c.args.form.now c.left_over-lead.result (rises c) (c.found.ensures.0 h)

is_found : (c : goal.After-found) → IsShown c.args.facts.now c.args.form.now → IsTrue c.found.result
is_found c s = c.found.ensures.1 (shown_found c.args.facts.now c.args.form.now c.left_over-lead.result (leads c) (rises c) s)

pub returns-clause-exact : goal.returns-clause-exact
returns-clause-exact c = (is_shown c, is_found c)

pub returns-clause-test : goal.returns-clause-test
returns-clause-test c = same_from_decides _ _ (is_shown c, is_found c) (decides_shown c.args.facts.now c.args.form.now)

pub returns-clause-sound : goal.returns-clause-sound
returns-clause-sound c = λ h v all. shown_holds c.args.facts.now c.args.form.now (is_shown c h) v all
