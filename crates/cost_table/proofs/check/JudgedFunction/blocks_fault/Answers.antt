use Rattle.std.proofs.Common.{◌<◌, ℕ, List, length, ap, subst, arith}
use Rattle.linear.specs.declared.form.Fact.{Fact}
use Rattle.program.specs.declared.function.Block.{Block}
use Rattle.refusal.specs.Earliest.{IsEarliest}
use Rattle.refusal.proofs.Places.{Within, below_next, below_all, read_in}
use Rattle.ranges.specs.Tables.{facts_in_table, edges_in_table}
use Rattle.cost_table.specs.Rules.{IsBlockBrokenBy, IsBlockBroken}
use Rattle.cost_table.proofs.ByTables.{block_by_table}
use Rattle.cost_table.proofs.check.JudgedFunction.blocks_fault.Goals as goal

pub loop-place-preserved : goal.loop-place-preserved
loop-place-preserved c =
    let functions = c.args.self.now.functions.now in
    let function = c.args.self.now.function.now in
    let f = c.args.self.now.index in
    let i = c.loop-place.place in
    let block = c.index-blocks-place.result in
    let table = c.index-tables-place.result in
    let within : i < length c.as_slice-tables.result.now = omega (arith, c.loop-place-test.true, c.requires.blocks, ap length c.as_slice-tables.ensures, ap length c.as_slice-blocks.ensures) in
    below_next (λ (b : ℕ) (x : Block). IsBlockBroken functions function f b x) c.as_slice-blocks.result.now i block _ _ _ c.loop-place-test.true c.index-blocks-place.is c.loop-place.invariant
    (block_by_table functions function f i block table c.in_ok-broken.broken
    (c.requires.each i block table (read_in c.as_slice-blocks.result.now function.blocks i block c.as_slice-blocks.ensures c.loop-place-test.true c.index-blocks-place.is) (read_in c.as_slice-tables.result.now c.args.facts.now.blocks i table c.as_slice-tables.ensures within c.index-tables-place.is))
    (subst (λ (fs : List Fact). IsEarliest (IsBlockBrokenBy functions function f block fs (facts_in_table table) table.facts (edges_in_table table)) c.in_ok-broken.broken) c.in_ok-start.ensures
    (subst (λ (fs : List Fact). IsEarliest (IsBlockBrokenBy functions function f block fs (facts_in_table table) table.facts (edges_in_table table)) c.in_ok-broken.broken) c.deref.ensures.value c.in_ok-broken.ensures)))
    c.lower-named.ensures

pub returns : goal.returns
returns c =
    subst (λ (blocks : List Block). IsEarliest (Within (λ (b : ℕ) (x : Block). IsBlockBroken c.args.self.now.functions.now c.args.self.now.function.now c.args.self.now.index b x) blocks) c.loop-place.named) c.as_slice-blocks.ensures
    (below_all (λ (b : ℕ) (x : Block). IsBlockBroken c.args.self.now.functions.now c.args.self.now.function.now c.args.self.now.index b x) c.as_slice-blocks.result.now _ _ c.loop-place-test.false c.loop-place.invariant)
