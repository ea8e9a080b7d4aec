use Rattle.std.proofs.Common.{◌≡◌, ◌∙◌, ◌+◌, ◌*◌, ◌≤◌, suc, ap, sym, arith}
use Rattle.cost_table.specs.Tables.{as_u128}
use Rattle.cost_table.proofs.Climbing.{with_few_calls, costs_nothing}
use Rattle.cost_table.proofs.entry.cost_of.Goals as goal

pub returns-then-calls-le1 : goal.returns-then-calls-le1
returns-then-calls-le1 c =
    let b = c.args.budget.now in
    let m = c.args.measure in
    let few : b.self_calls ≤ 1 = omega (arith, c.from-calls.ensures, c.if-calls-le1.true) in
    let same : c.saturating_mul.result ≡ as_u128 (b.instructions * (1 + b.self_calls * m)) = rw (c.from-instructions.ensures, c.from-calls.ensures, c.from.ensures) at c.saturating_mul.ensures in
    same ∙ ap as_u128 (sym (with_few_calls b m few))

pub returns-then-instructions-eq0 : goal.returns-then-instructions-eq0
returns-then-instructions-eq0 c =
    let b = c.args.budget.now in
    let none : b.instructions ≡ 0 = omega (arith, c.from-instructions.ensures, c.if-instructions-eq0.true) in
    ap as_u128 (sym (costs_nothing b (suc c.args.measure) none))
