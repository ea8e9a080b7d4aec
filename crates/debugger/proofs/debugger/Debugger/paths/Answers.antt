use Rattle.std.proofs.lemmas.Result.{IfOk-weaker}
use Rattle.semantics.specs.Events.{Machine}
use Rattle.schedule_core.specs.FrameViews.{AreLiving}
use Rattle.schedule_core.specs.Stages.{IsState}
use Rattle.debugger.specs.Sessions.{Debugs, Session, state_at}
use Rattle.debugger.proofs.debugger.Debugger.paths.Goals as goal

pub returns : goal.returns
returns c =
    let a = c.args in
    IfOk-weaker c.paths.result (λ paths. (m : Machine) → IsState a.self.now.machine.stage m → AreLiving m paths.items)
    (λ paths. (s : Session) → Debugs s a.self.now → AreLiving (state_at s a.self.now.position) paths.items)
    (λ paths shown s d. shown (state_at s a.self.now.position) d.at.state)
    c.paths.ensures
