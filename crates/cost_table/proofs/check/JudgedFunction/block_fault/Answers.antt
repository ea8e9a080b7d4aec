use Rattle.refusal.proofs.Elements.{earliest_both}
use Rattle.refusal.specs.declared.broken.Broken.{Broken}
use Rattle.std.proofs.Common.{◌⊎◌}
use Rattle.ranges.specs.Tables.{facts_in_table, edges_in_table}
use Rattle.cost_table.specs.Rules.{IsOverdrawn, IsEndingUncovered, AreStepsNotFalling}
use Rattle.cost_table.proofs.check.JudgedFunction.block_fault.Goals as goal

pub returns : goal.returns
returns c =
    let functions = c.args.self.now.functions.now in
    let function = c.args.self.now.function.now in
    let f = c.args.self.now.index in
    let block = c.args.block.now in
    let table = c.args.table.now in
    earliest_both (IsOverdrawn c.args.start.now block) (λ (b : Broken). IsEndingUncovered functions function f block table.facts (edges_in_table table) block.ending b ⊎ AreStepsNotFalling function f block (facts_in_table table) b) _ _ _
    c.in_ok-at_start.ensures
    (earliest_both (IsEndingUncovered functions function f block table.facts (edges_in_table table) block.ending) (AreStepsNotFalling function f block (facts_in_table table)) _ _ _ c.in_ok-at_end.ensures c.in_ok-at_steps.ensures c.lower.ensures)
    c.lower-2.ensures
