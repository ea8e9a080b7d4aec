use Rattle.std.specs.Option.{option_copied}
use Rattle.schedule_core.proofs.Firsts.{advances_not, advances_ready}
use Rattle.schedule_core.proofs.machine.Machine.first_of.Goals as goal

pub returns-in-Some : goal.returns-in-Some
returns-in-Some c = advances_ready c.args.self.now.stage.run.cactus c.args.slot (option_copied c.args.first) c.in-Some.path.now c.lesser_of.result.now c.in-Some.ensures.shown c.lesser_of.ensures

pub returns-in-None : goal.returns-in-None
returns-in-None c = advances_not c.args.self.now.stage.run.cactus c.args.slot (option_copied c.args.first) c.in-None.ensures.absent
