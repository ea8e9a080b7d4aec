use Rattle.std.proofs.Common.{◌∙◌}
use Rattle.frame_strand.proofs.Refilled.{all_taken, taken_more}
use Rattle.frame_strand.proofs.standing.refill.Goals as goal

pub loop-place-init : goal.loop-place-init
loop-place-init g c = (c.copy_from_slice.ensures.items, c.copy_from_slice.ensures.capacity ∙ c.truncate.ensures.capacity)

pub loop-place-preserved : goal.loop-place-preserved
loop-place-preserved g c = (
  taken_more c.args.source.now c.loop-place.place c.index-source-place.result c.loop-place.target.items _ c.loop-place-test.true c.index-source-place.is c.loop-place.invariant.0 c.push_reserved.ensures.items,
  c.push_reserved.ensures.capacity ∙ c.loop-place.invariant.1,
)

pub returns-clause-items : goal.returns-clause-items
returns-clause-items g c = all_taken c.args.source.now c.loop-place.place c.loop-place.target.items c.loop-place.invariant.0 c.loop-place-test.false

pub returns-clause-capacity : goal.returns-clause-capacity
returns-clause-capacity g c = c.loop-place.invariant.1
