use Rattle.std.proofs.Common.{◌≡◌}
use Rattle.debugger.specs.Sessions.{AreMarks, IsAt, Session}
use Rattle.debugger.proofs.going.walk.Given as goal

abbrev pub invariant-loop-position : goal.invariant-loop-position
invariant-loop-position l =
    record {
      marks : (s : Session) → s.events ≡ l.events → IsAt s l.from l.fn.machine.stage → AreMarks s l.fn.marks → AreMarks s l.marks;
      at : (s : Session) → s.events ≡ l.events → IsAt s l.from l.fn.machine.stage → IsAt s l.position l.machine.stage;
    }
