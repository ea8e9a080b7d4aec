use Rattle.std.proofs.Common.{◌≡◌, ◌<◌, length, ap, ◌∙◌, arith}
use Rattle.cfg.proofs.EdgeLists.{length-edges_from}
use Rattle.cfg.proofs.Functions.{blocks_next, blocks_all}
use Rattle.cfg.proofs.judge.function_fault.Goals as goal

pub loop-index-preserved : goal.loop-index-preserved
loop-index-preserved c = blocks_next _ _ _ c.index-bodies-index.result _ _ _ c.loop-index-test.true c.index-bodies-index.is c.loop-index.invariant c.in_ok-broken.ensures c.lower-named.ensures

pub block_fault-requires-clause-within : goal.block_fault-requires-clause-within
block_fault-requires-clause-within c =
    let size : length c.args.blocks.now ≡ length c.args.function.now.blocks = ap length c.requires ∙ length-edges_from c.args.function.now.blocks 0 c.args.function.now.blocks in
    let same : length c.as_slice-bodies.result.now ≡ length c.args.function.now.blocks = ap length c.as_slice-bodies.ensures in
    rw (c.deref.ensures.value, c.in_ok-on_paths.ensures.size) (omega (arith, c.loop-index-test.true, size, same))

pub block_fault-requires-clause-exact : goal.block_fault-requires-clause-exact
block_fault-requires-clause-exact c =
    let size : length c.args.blocks.now ≡ length c.args.function.now.blocks = ap length c.requires ∙ length-edges_from c.args.function.now.blocks 0 c.args.function.now.blocks in
    let same : length c.as_slice-bodies.result.now ≡ length c.args.function.now.blocks = ap length c.as_slice-bodies.ensures in
    let within : c.loop-index.index < length c.args.blocks.now = omega (arith, c.loop-index-test.true, size, same) in
    rw c.deref.ensures.value (c.in_ok-on_paths.ensures.exact c.loop-index.index within)

pub returns : goal.returns
returns c = blocks_all c.args.function.now _ _ _ _ c.as_slice-bodies.ensures c.requires c.loop-index-test.false c.loop-index.invariant
