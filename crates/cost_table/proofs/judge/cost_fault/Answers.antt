use Rattle.std.proofs.Common.{arith}
use Rattle.cost_table.proofs.Costly.{cheaper}
use Rattle.cost_table.proofs.judge.cost_fault.Goals as goal

pub returns-else-whole_cost-gt-GREATEST_COST : goal.returns-else-whole_cost-gt-GREATEST_COST
returns-else-whole_cost-gt-GREATEST_COST c =
    let function = c.args.function.now in
    (tt, λ b p. let whole = cheaper function.budget p.2 function.measure.bound p.3 in omega (arith, whole, p.4))
