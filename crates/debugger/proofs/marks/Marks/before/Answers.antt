use Rattle.std.proofs.Common.{arith}
use Rattle.debugger.specs.Sessions.{AreMarks, IsMark, Session}
use Rattle.debugger.proofs.Walking.{mark_at}
use Rattle.debugger.proofs.marks.Marks.before.Goals as goal
use Rattle.debugger.proofs.marks.Marks.before.Goals.{then-mark-position, else-mark-position}

pub loop-mark-preserved : goal.loop-mark-preserved
loop-mark-preserved c =
    let at : (s : Session) → AreMarks s c.args.self.now → IsMark s c.mark-item.result = λ s are. mark_at s c.args.self.now c.deref-mark-items.result.now c.deref-mark-items.ensures.value c.loop-mark.mark-index c.mark-item.result c.loop-mark-test.true c.mark-item.is are in
    elim c.if-mark-position.branch [
      | then-mark-position w ↦ record { before = (let test = w.if-mark-position in rw w.last-is (omega arith)); state = λ s are. rw (w.last-is, w.machine-is) (at s are) }
      | else-mark-position w ↦ record { before = rw w.last-is c.loop-mark.invariant.before; state = λ s are. rw (w.last-is, w.machine-is) (c.loop-mark.invariant.state s are) }
    ]
