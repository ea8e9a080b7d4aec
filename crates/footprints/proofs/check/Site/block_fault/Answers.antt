use Rattle.std.proofs.Common.{List, subst}
use Rattle.linear.specs.declared.form.Fact.{Fact}
use Rattle.refusal.specs.Earliest.{IsEarliest}
use Rattle.refusal.proofs.Elements.{earliest_both}
use Rattle.ranges.specs.declared.table.EdgeFacts.{EdgeFacts}
use Rattle.ranges.specs.Tables.{all_with_known}
use Rattle.ranges.specs.Tables.{facts_in_table, edges_in_table}
use Rattle.footprints.specs.Rules.{AreStepsBroken, IsEndBroken}
use Rattle.footprints.proofs.check.Site.block_fault.Goals as goal

pub returns : goal.returns
returns c =
    let function = c.args.self.now.function.now in
    let block = c.args.self.now.block.now in
    let table = c.args.table.now in
    earliest_both (AreStepsBroken c.args.self.now.functions.now function c.args.self.now.task block (facts_in_table table)) (IsEndBroken function c.args.self.now.task block table.facts (edges_in_table table) block.ending) _ _ _
    c.in_ok-at_steps.ensures
    (subst (λ (es : List EdgeFacts). IsEarliest (IsEndBroken function c.args.self.now.task block table.facts (all_with_known table.facts es) block.ending) c.in_ok-at_end.at_end) c.as_slice-edges.ensures
    (subst (λ (fs : List Fact). IsEarliest (IsEndBroken function c.args.self.now.task block fs (all_with_known fs c.as_slice-edges.result.now) block.ending) c.in_ok-at_end.at_end) c.as_slice-facts.ensures c.in_ok-at_end.ensures))
    c.lower.ensures
