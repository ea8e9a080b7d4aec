use Rattle.std.proofs.Common.{◌≡◌, ◌≤◌, ◌<◌, ◌+◌, ℕ, length, sym, ap, subst, arith}
use Rattle.debugger.specs.Sessions.{IsAt, Session, state_at}
use Rattle.schedule_core.specs.Lines.{StandsAt}
use Rattle.debugger.proofs.Walking.{at_next, past_more, stands_there, stop_here, stop_end}
use Rattle.schedule_core.proofs.Lists.{not_here}
use Rattle.debugger.proofs.going.walk_to_line.Goals as goal

pub loop-position-init : goal.loop-position-init
loop-position-init c = record { marks = λ s e at are. are; at = λ s e at. at; past = λ s e at n later within. absurd (omega arith) }

pub loop-position-preserved : goal.loop-position-preserved
loop-position-preserved c =
    let next : (s : Session) → s.events ≡ c.args.events.now → IsAt s c.args.from c.args.machine.now.stage → IsAt s (c.loop-position.position + 1) c.apply.new.self.stage = λ s e at.
    at_next s c.args.events.now e c.loop-position.position c.loop-position.machine.stage c.apply.new.self.stage c.index-events-position.result (omega arith) c.index-events-position.is c.in_ok-_enabled.ensures.keeps (c.loop-position.invariant.at s e at) in
    record {
      marks = λ s e at are. c.keep.ensures s (c.loop-position.invariant.marks s e at are) (next s e at);
      at = next;
      past = λ s e at.
          past_more s c.args.line c.args.from c.loop-position.position
          (not_here _ _ c.if-stands_at.false (stands_there s (c.loop-position.position + 1) c.args.line c.apply.new.self.stage c.stands_at.result (next s e at) c.stands_at.ensures))
          (c.loop-position.invariant.past s e at);
    }

pub returns-then-stands_at-clause-at : goal.returns-then-stands_at-clause-at
returns-then-stands_at-clause-at c s e at =
    at_next s c.args.events.now e c.loop-position.position c.loop-position.machine.stage c.apply.new.self.stage c.index-events-position.result (omega arith) c.index-events-position.is c.in_ok-_enabled.ensures.keeps (c.loop-position.invariant.at s e at)

pub returns-then-stands_at-clause-marks : goal.returns-then-stands_at-clause-marks
returns-then-stands_at-clause-marks c s e at are = c.keep.ensures s (c.loop-position.invariant.marks s e at are) (returns-then-stands_at-clause-at c s e at)

pub returns-then-stands_at-clause-stop : goal.returns-then-stands_at-clause-stop
returns-then-stands_at-clause-stop c s e at =
    stop_here s c.args.line c.args.from c.loop-position.position (omega arith)
    ((stands_there s (c.loop-position.position + 1) c.args.line c.apply.new.self.stage c.stands_at.result (returns-then-stands_at-clause-at c s e at) c.stands_at.ensures).0 c.if-stands_at.true)
    (c.loop-position.invariant.past s e at)

pub returns-clause-at : goal.returns-clause-at
returns-clause-at c s e at =
    let all : c.loop-position.position ≡ length c.args.events.now = omega arith in
    subst (λ n. IsAt s n c.loop-position.machine.stage) all (c.loop-position.invariant.at s e at)

pub returns-clause-stop : goal.returns-clause-stop
returns-clause-stop c s e at =
    let all : c.loop-position.position ≡ length c.args.events.now = omega arith in
    let le : c.args.from ≤ length c.args.events.now = omega arith in
    stop_end s c.args.line c.args.from (length c.args.events.now) le (ap (λ l. length l) (sym e))
    (subst (λ n. (k : ℕ) → c.args.from < k → k ≤ n → ¬ StandsAt s.program (state_at s k) c.args.line) all (c.loop-position.invariant.past s e at))
