use Rattle.schedule_text.proofs.Parts.{step_words, no_steps, stepping}
use Rattle.schedule_text.proofs.line.read_steps.Goals as goal

pub returns-in_err-worker-2-clause-none : goal.returns-in_err-worker-2-clause-none
returns-in_err-worker-2-clause-none c = rw c.from_residual-in_err-worker-2.ensures (λ worker n is. let w = step_words _ _ _ _ worker n c.in_ok-words.ensures.some c.in_ok-worker.ensures.cut is in c.in_err-worker-2.ensures.none worker w.0 w.1)

pub returns-in_err-count-clause-none : goal.returns-in_err-count-clause-none
returns-in_err-count-clause-none c = rw c.from_residual-in_err-count.ensures (λ worker n is. let w = step_words _ _ _ _ worker n c.in_ok-words.ensures.some c.in_ok-worker.ensures.cut is in c.in_err-count.ensures.none n w.2)

pub returns-then-count-eq0-clause-none : goal.returns-then-count-eq0-clause-none
returns-then-count-eq0-clause-none c = λ worker n is. let w = step_words _ _ _ _ worker n c.in_ok-words.ensures.some c.in_ok-worker.ensures.cut is in
    no_steps c.in_ok-worker.count.now n c.in_ok-count.ensures.number.0 c.in_ok-count.count w.2 w.3 c.in_ok-count.ensures.number.1 c.in_ok-count.ensures.number.2 c.if-count-eq0.true

pub returns-clause-some : goal.returns-clause-some
returns-clause-some c = (
  c.in_ok-count.ensures.number.0,
  stepping _ _ _ _ _ _ c.in_ok-words.ensures.some c.in_ok-worker.ensures.cut c.in_ok-worker-2.ensures.number.0 c.in_ok-worker-2.ensures.number.1 c.in_ok-count.ensures.number.1 c.in_ok-count.ensures.number.2 c.if-count-eq0.false,
  c.in_ok-count.ensures.number.2,
)
