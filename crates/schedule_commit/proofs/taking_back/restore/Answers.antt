use Rattle.std.proofs.Common.{◌<◌, length, arith}
use Rattle.std.proofs.lemmas.Option.{slice_get-get_or}
use Rattle.schedule_commit.proofs.Puts.{kept_cell}
use Rattle.schedule_commit.proofs.Restored.{restored_all, restored_more, restored_none}
use Rattle.schedule_commit.proofs.taking_back.restore.Goals as goal

pub put_number-requires : goal.put_number-requires
put_number-requires c = kept_cell c.args.row.now c.loop-index.row c.loop-index.invariant.long _ (c.requires.within c.loop-index.index _ (slice_get-get_or c.args.writes.now c.loop-index.index _ c.loop-index-test.true))

pub loop-index-init : goal.loop-index-init
loop-index-init c = restored_none c.args.writes.now c.args.numbers.now c.args.row.now

pub loop-index-preserved : goal.loop-index-preserved
loop-index-preserved c =
    let n = c.loop-index.index in
    let low = c.loop-index-test.true in
    let many = c.requires.many in
    let there : n < length c.args.numbers.now = omega (arith, low, many) in
    restored_more c.args.writes.now c.args.numbers.now c.args.row.now c.loop-index.row c.put_number.new.row n _ _ c.loop-index.invariant
    (slice_get-get_or c.args.writes.now n _ low) (slice_get-get_or c.args.numbers.now n _ there) c.requires.differ c.put_number.ensures.long c.put_number.ensures.here c.put_number.ensures.others

pub returns : goal.returns
returns c = restored_all c.args.writes.now c.args.numbers.now c.args.row.now c.loop-index.row c.loop-index.index (omega arith) c.loop-index.invariant
