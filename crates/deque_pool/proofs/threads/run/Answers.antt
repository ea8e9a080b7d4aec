use Rattle.std.proofs.Common.{refl}
use Rattle.deque_pool.proofs.Answered.{admitted_alone, answered_for}
use Rattle.deque_pool.proofs.threads.run.Goals as goal

pub returns-then-is_for_one-clause-answer : goal.returns-then-is_for_one-clause-answer
returns-then-is_for_one-clause-answer g c = answered_for c.args.launch.verified.now c.args.launch.arguments.now c.args.launch.memory c.args.launch.workers c.run_alone.result c.run_alone.ensures.answer

pub returns-then-is_for_one-clause-admitted : goal.returns-then-is_for_one-clause-admitted
returns-then-is_for_one-clause-admitted g c =
    admitted_alone c.args.launch.verified.now c.args.launch.arguments.now c.args.launch.memory c.args.launch.workers (c.if-is_for_one.ensures.number refl) c.run_alone.result c.run_alone.ensures.met c.run_alone.ensures.refused
