use Rattle.region_match.proofs.OpenEnds.{open_next, open_all}
use Rattle.region_match.proofs.unsynced.unsynced_fault.Goals as goal

pub loop-detach-preserved : goal.loop-detach-preserved
loop-detach-preserved c = open_next c.args.bodies.now c.args.blocks.now _ _ _ _ c.loop-detach.invariant c.in_ok-broken.ensures c.lower-named.ensures

pub returns : goal.returns
returns c = open_all c.args.bodies.now c.args.blocks.now _ _ c.loop-detach-test.false c.loop-detach.invariant
