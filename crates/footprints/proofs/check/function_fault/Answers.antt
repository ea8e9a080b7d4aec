use Rattle.std.proofs.Common.{◌<◌, ℕ, List, length, ap, subst, arith}
use Rattle.program.specs.declared.function.Block.{Block}
use Rattle.ranges.specs.region_match.declared.task.Task.{Task}
use Rattle.refusal.specs.Earliest.{IsEarliest}
use Rattle.ranges.specs.region_match.Tasks.{task_at}
use Rattle.refusal.proofs.Places.{Within, below_next, below_all, read_in}
use Rattle.ranges.specs.Tables.{facts_in_table, edges_in_table}
use Rattle.footprints.specs.Rules.{IsBlockBrokenBy, IsBlockBroken}
use Rattle.footprints.proofs.ByTables.{block_by_table}
use Rattle.footprints.proofs.check.function_fault.Goals as goal

pub loop-index-preserved : goal.loop-index-preserved
loop-index-preserved c =
    let functions = c.args.functions.now in
    let function = c.args.function.now in
    let tasks = c.args.tasks.now in
    let i = c.loop-index.index in
    let block = c.index-blocks-index.result in
    let table = c.index-tables-index.result in
    let within : i < length c.as_slice-tables.result.now = omega (arith, c.loop-index-test.true, c.requires.blocks, ap length c.as_slice-tables.ensures, ap length c.as_slice-blocks.ensures) in
    below_next (λ (b : ℕ) (x : Block). IsBlockBroken functions function (task_at tasks b) b x) c.as_slice-blocks.result.now i block _ _ _ c.loop-index-test.true c.index-blocks-index.is c.loop-index.invariant
    (block_by_table functions function (task_at tasks i) i block table c.in_ok-broken.broken
    (c.requires.each i block table (read_in c.as_slice-blocks.result.now function.blocks i block c.as_slice-blocks.ensures c.loop-index-test.true c.index-blocks-index.is) (read_in c.as_slice-tables.result.now c.args.facts.now.blocks i table c.as_slice-tables.ensures within c.index-tables-index.is))
    (subst (λ (task : Task). IsEarliest (IsBlockBrokenBy functions function task block (facts_in_table table) table.facts (edges_in_table table)) c.in_ok-broken.broken) c.task_at-task.ensures c.in_ok-broken.ensures))
    c.lower-named.ensures

pub returns : goal.returns
returns c =
    subst (λ (blocks : List Block). IsEarliest (Within (λ (b : ℕ) (x : Block). IsBlockBroken c.args.functions.now c.args.function.now (task_at c.args.tasks.now b) b x) blocks) c.loop-index.named) c.as_slice-blocks.ensures
    (below_all (λ (b : ℕ) (x : Block). IsBlockBroken c.args.functions.now c.args.function.now (task_at c.args.tasks.now b) b x) c.as_slice-blocks.result.now _ _ c.loop-index-test.false c.loop-index.invariant)
