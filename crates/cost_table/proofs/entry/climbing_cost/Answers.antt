use Rattle.std.proofs.Common.{◌≡◌, ◌∙◌, ◌≤◌, ◌-◌, ◌^◌, suc, sym, arith}
use Rattle.cost_table.specs.Cost.{cost_below}
use Rattle.cost_table.proofs.Climbing.{stays_greatest}
use Rattle.cost_table.proofs.entry.climbing_cost.Goals as goal

pub returns-then-cost : goal.returns-then-cost
returns-then-cost c = λ b calls instructions.
    let so_far = c.loop-step.invariant b calls instructions in
    let past : 2 ^ 128 - 1 ≤ cost_below b (suc c.loop-step._step) = grind (arith, so_far, c.if-cost.true) in
    c.if-cost.true ∙ sym (stays_greatest b (suc c.loop-step._step) (suc c.args.measure) (2 ^ 128 - 1) (omega (arith, c.loop-step-test.true)) past)
