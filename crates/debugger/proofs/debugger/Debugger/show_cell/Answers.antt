use Rattle.debugger.specs.Sessions.{state_at}
use Rattle.debugger.proofs.Walking.{cell_there}
use Rattle.debugger.proofs.debugger.Debugger.show_cell.Goals as goal

pub returns : goal.returns
returns c s d =
    cell_there s c.args.self.now.position c.args.name.now c.args.index c.args.self.now.machine.stage d.at c.get_global.result (c.get_global.ensures (state_at s c.args.self.now.position) d.at.state)
