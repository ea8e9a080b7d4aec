use Rattle.schedule_core.proofs.Views.{spot_given, spot_lives}
use Rattle.schedule_core.proofs.machine.Machine.spot.Goals as goal

pub returns-clause-lives : goal.returns-clause-lives
returns-clause-lives c m s = spot_lives c.args.self.now.stage m s c.args.path.now c.spot.result c.spot.ensures.found c.spot.ensures.absent

pub returns-clause-given : goal.returns-clause-given
returns-clause-given c = spot_given c.args.self.now.stage c.args.self.now.kept c.args.path.now c.spot.result c.spot.ensures.found
