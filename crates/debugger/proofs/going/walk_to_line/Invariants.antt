use Rattle.std.proofs.Common.{◌≡◌, ◌≤◌, ◌<◌, ℕ}
use Rattle.schedule_core.specs.Lines.{StandsAt}
use Rattle.debugger.specs.Sessions.{AreMarks, IsAt, Session, state_at}
use Rattle.debugger.proofs.going.walk_to_line.Given as goal

abbrev pub invariant-loop-position : goal.invariant-loop-position
invariant-loop-position l =
    record {
      marks : (s : Session) → s.events ≡ l.events → IsAt s l.from l.fn.machine.stage → AreMarks s l.fn.marks → AreMarks s l.marks;
      at : (s : Session) → s.events ≡ l.events → IsAt s l.from l.fn.machine.stage → IsAt s l.position l.machine.stage;
      past : (s : Session) → s.events ≡ l.events → IsAt s l.from l.fn.machine.stage → (n : ℕ) → l.from < n → n ≤ l.position → ¬ StandsAt s.program (state_at s n) l.line;
    }
