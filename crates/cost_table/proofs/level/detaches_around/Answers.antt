use Rattle.std.proofs.Common.{ℕ, suc, ◌-◌, length, arith}
use Rattle.cost_table.proofs.Levels.{outermost}
use Rattle.cost_table.proofs.level.detaches_around.Goals as goal

pub returns-in-Unreached : goal.returns-in-Unreached
returns-in-Unreached c =
    let n : ℕ = length c.args.tasks.now - c.loop-step._step in
    let out = c.loop-step.invariant.outer n (omega arith) in
    let none = outermost c.args.tasks.now n c.loop-step.task c.in-Unreached.is in
    record { level = omega (arith, out, none); within = omega arith }

pub loop-step-preserved : goal.loop-step-preserved
loop-step-preserved c = record {
  within = omega arith;
  outer = λ n h.
      let out = rw c.in-Child.is at (c.loop-step.invariant.outer (suc n) (omega (arith, h))) in
      rw c.task_at-task-in-Child.ensures (omega (arith, out));
}

pub returns-clause-level : goal.returns-clause-level
returns-clause-level c = let out = c.loop-step.invariant.outer 0 (omega arith) in omega (arith, out)
