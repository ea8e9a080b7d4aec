use Rattle.debugger.proofs.debugger.Debugger.machine.Goals as goal

pub returns : goal.returns
returns c s d = d.at.state
