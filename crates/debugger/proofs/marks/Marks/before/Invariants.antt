use Rattle.std.proofs.Common.{◌≤◌}
use Rattle.debugger.specs.Sessions.{AreMarks, IsAt, Session}
use Rattle.debugger.proofs.marks.Marks.before.Given as goal

abbrev pub invariant-loop-mark : goal.invariant-loop-mark
invariant-loop-mark l =
    record {
      before : l.last ≤ l.position;
      state : (s : Session) → AreMarks s l.self → IsAt s l.last l.machine.stage;
    }
