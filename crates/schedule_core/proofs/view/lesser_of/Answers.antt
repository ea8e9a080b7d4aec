use Rattle.schedule_core.proofs.Firsts.{lesser_new}
use Rattle.schedule_core.proofs.view.lesser_of.Goals as goal

pub returns-in-Some : goal.returns-in-Some
returns-in-Some c = rw c.in-Some.is c.lesser.ensures

pub returns-in-None : goal.returns-in-None
returns-in-None c = rw c.in-None.is (lesser_new c.args.path.now)
