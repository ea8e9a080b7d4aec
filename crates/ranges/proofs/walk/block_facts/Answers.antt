use Rattle.std.proofs.Common.{◌∙◌}
use Rattle.ranges.proofs.Blocks.{walked_is, edges_all, block_table, block_named}
use Rattle.ranges.proofs.walk.block_facts.Goals as goal

pub returns-clause-table : goal.returns-clause-table
returns-clause-table c =
    rw (c.from_vec.ensures, c.into_vec.ensures, c.from_vec-2.ensures, c.from_vec-3.ensures)
    (block_table c.args.program.now.functions c.args.function.now c.args.index c.args.block.now _ _ _ _ _ (c.from_vec-facts.ensures ∙ c.in_ok-start.ensures) (rw c.as_slice-steps.ensures at c.in_ok-counts.ensures.walked) c.in_ok-edges.ensures.known c.in_ok-edges.ensures.edges)

pub returns-clause-named : goal.returns-clause-named
returns-clause-named c =
    let functions = c.args.program.now.functions in
    let function = c.args.function.now in
    let block = c.args.block.now in
    let walked = rw c.as_slice-steps.ensures at c.in_ok-counts.ensures.walked in
    block_named c.args.program.now function c.args.index block _ _ _ _ _ _ (c.from_vec-facts.ensures ∙ c.in_ok-start.ensures)
    (walked_is functions function c.args.index block _ _ _ _ _ (c.from_vec-facts.ensures ∙ c.in_ok-start.ensures) walked c.in_ok-edges.ensures.known c.in_ok-edges.ensures.edges)
    (edges_all functions function c.args.index block _ _ _ _ _ (c.from_vec-facts.ensures ∙ c.in_ok-start.ensures) walked c.in_ok-edges.ensures.known c.in_ok-edges.ensures.edges)
    (rw c.as_slice-steps.ensures at c.in_ok-counts.ensures.named)
    c.in_ok-edges.ensures.named
    c.lower.ensures
