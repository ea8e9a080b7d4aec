use Rattle.std.proofs.Common.{◌≡◌, length, arith}
use Rattle.region_match.specs.Matched.{IsBlockBroken}
use Rattle.region_match.proofs.FunctionFacts.{blocks_size, function_named}
use Rattle.refusal.proofs.Places.{below_next}
use Rattle.region_match.proofs.check.function_fault.Goals as goal

pub block_fault-broken-requires-clause-size : goal.block_fault-broken-requires-clause-size
block_fault-broken-requires-clause-size c = blocks_size c.args.function.now _ _ c.requires.blocks c.as_slice-bodies.ensures

pub block_fault-broken-requires-clause-within : goal.block_fault-broken-requires-clause-within
block_fault-broken-requires-clause-within c =
    let size : length c.args.blocks.now ≡ length c.as_slice-bodies.result.now = blocks_size c.args.function.now _ _ c.requires.blocks c.as_slice-bodies.ensures in
    omega (arith, c.loop-index-test.true, size)

pub loop-index-preserved : goal.loop-index-preserved
loop-index-preserved c = below_next (IsBlockBroken c.as_slice-bodies.result.now c.args.blocks.now) c.as_slice-bodies.result.now _ c.index-bodies-index.result _ _ _ c.loop-index-test.true c.index-bodies-index.is c.loop-index.invariant c.block_fault-broken.ensures c.lower-named.ensures

pub unsynced_fault-requires-clause-size : goal.unsynced_fault-requires-clause-size
unsynced_fault-requires-clause-size c = blocks_size c.args.function.now _ _ c.requires.blocks c.as_slice-bodies.ensures

pub returns : goal.returns
returns c = function_named c.args.function.now c.as_slice-bodies.result.now c.args.blocks.now _ _ _ _ c.as_slice-bodies.ensures c.requires.blocks c.loop-index-test.false c.in_ok-unsynced.ensures c.loop-index.invariant c.lower.ensures
