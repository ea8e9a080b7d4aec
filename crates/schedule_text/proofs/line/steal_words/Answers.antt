use Rattle.schedule_text.proofs.Parts.{steal_words, joined}
use Rattle.schedule_text.proofs.line.steal_words.Goals as goal

pub returns-in_err-worker-2-clause-none : goal.returns-in_err-worker-2-clause-none
returns-in_err-worker-2-clause-none c = rw c.from_residual-in_err-worker-2.ensures (λ worker task is. let w = steal_words _ _ _ _ worker task c.in_ok-words.ensures.some c.in_ok-worker.ensures.cut is in c.in_err-worker-2.ensures.none worker w.0 w.1)

pub returns-in_err-children-clause-none : goal.returns-in_err-children-clause-none
returns-in_err-children-clause-none c = rw c.from_residual-in_err-children.ensures (λ worker task is. let w = steal_words _ _ _ _ worker task c.in_ok-words.ensures.some c.in_ok-worker.ensures.cut is in c.in_err-children.ensures.none w.2.0 w.2.1)

pub returns-clause-some : goal.returns-clause-some
returns-clause-some c = record {
  first = c.in_ok-worker.worker.now;
  is_spelled = joined c.args.line.now c.in_ok-words.words.now c.in_ok-worker.worker.now c.in_ok-worker.task.now c.in_ok-children.children.now c.in_ok-words.ensures.some c.in_ok-worker.ensures.cut.is_split c.in_ok-children.ensures.some;
  is_worker = c.in_ok-worker-2.ensures.number.0;
  within = c.in_ok-worker-2.ensures.number.1;
}
