use Rattle.std.proofs.Common.{◌⊎◌}
use Rattle.std.specs.Prelude.{slice_get}
use Rattle.refusal.proofs.Elements.{earliest_both}
use Rattle.refusal.specs.declared.broken.Broken.{Broken}
use Rattle.cost_table.specs.Rules.{AreBlocksBroken, IsEntryBroken, IsTooCostly}
use Rattle.cost_table.proofs.check.JudgedFunction.function_fault.Goals as goal

pub returns : goal.returns
returns c =
    let function = c.args.self.now.function.now in
    earliest_both (AreBlocksBroken c.args.self.now.functions.now c.args.self.now.index function) (λ (b : Broken). IsEntryBroken function (slice_get function.blocks 0) b ⊎ IsTooCostly function b) _ _ _
    c.in_ok-in_blocks.ensures
    (earliest_both (IsEntryBroken function (slice_get function.blocks 0)) (IsTooCostly function) _ _ _ c.in_ok-at_entry.ensures c.cost_fault-whole.ensures c.lower.ensures)
    c.lower-2.ensures
