use Rattle.std.proofs.Common.{arith}
use Rattle.cost_table.proofs.Judging.{pair_named}
use Rattle.cost_table.proofs.judge.start_fault.Goals as goal

pub returns : goal.returns
returns c = pair_named 701 _ _ _ _ _ _ (c.in_ok-calls.ensures 0 (omega arith)) (c.in_ok-instructions.ensures 0 (omega arith)) c.fault_unless.ensures
