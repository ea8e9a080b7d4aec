use Rattle.std.proofs.Common.{arith}
use Rattle.cost_table.proofs.Judging.{pair_named}
use Rattle.cost_table.proofs.judge.measure_fault.Goals as goal

pub returns : goal.returns
returns c = pair_named 703 _ _ _ _ _ _ (c.in_ok-low.ensures 0 (omega arith)) c.in_ok-high.ensures c.fault_unless.ensures
