use Rattle.cost_table.proofs.Judging.{pair_named}
use Rattle.cost_table.proofs.judge.budget_fault.Goals as goal

pub returns : goal.returns
returns c = pair_named 704 _ _ _ _ _ _ c.in_ok-calls.ensures c.in_ok-instructions.ensures c.fault_unless.ensures
