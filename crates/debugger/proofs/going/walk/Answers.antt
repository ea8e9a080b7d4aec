use Rattle.std.proofs.Common.{◌≡◌, ◌+◌, subst, arith}
use Rattle.debugger.specs.Sessions.{IsAt, Session}
use Rattle.debugger.proofs.Walking.{at_next}
use Rattle.debugger.proofs.going.walk.Goals as goal

pub loop-position-init : goal.loop-position-init
loop-position-init c = record { marks = λ s e at are. are; at = λ s e at. at }

pub loop-position-preserved : goal.loop-position-preserved
loop-position-preserved c =
    let next : (s : Session) → s.events ≡ c.args.events.now → IsAt s c.args.from c.args.machine.now.stage → IsAt s (c.loop-position.position + 1) c.apply.new.self.stage = λ s e at.
    at_next s c.args.events.now e c.loop-position.position c.loop-position.machine.stage c.apply.new.self.stage c.index-events-position.result (omega arith) c.index-events-position.is c.in_ok-_enabled.ensures.keeps (c.loop-position.invariant.at s e at) in
    record {
      marks = λ s e at are. c.keep.ensures s (c.loop-position.invariant.marks s e at are) (next s e at);
      at = next;
    }

pub returns-clause-at : goal.returns-clause-at
returns-clause-at c s e le at =
    let all : c.loop-position.position ≡ c.args.to = omega arith in
    subst (λ n. IsAt s n c.loop-position.machine.stage) all (c.loop-position.invariant.at s e at)
