use Rattle.std.proofs.Common.{◌-◌}
use Rattle.store.specs.verifier.Budgets.{budget_of}
use Rattle.lone_run.specs.UnderWay.{IsRunOf}
use Rattle.kernel_calls.proofs.until.run_watched.Given as goal

abbrev pub invariant-loop-run : goal.invariant-loop-run
invariant-loop-run l = IsRunOf l.kernel l.arguments l.fn.memory l.run

abbrev pub decreases-loop-run : goal.decreases-loop-run
decreases-loop-run l = budget_of l.kernel - l.run.done
