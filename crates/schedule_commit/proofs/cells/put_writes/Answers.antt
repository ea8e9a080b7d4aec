use Rattle.std.proofs.Common.{take, sym, subst}
use Rattle.std.proofs.lemmas.Option.{slice_get-get_or}
use Rattle.schedule_commit.specs.Putting.{IsPutInto}
use Rattle.schedule_commit.proofs.Puts.{fresh_next, kept_cell, puts_more, take_more}
use Rattle.schedule_commit.proofs.cells.put_writes.Goals as goal

pub put-requires : goal.put-requires
put-requires c = kept_cell c.args.row.now c.loop-written.row c.loop-written.invariant.long _ (c.requires.within c.loop-written.written-index _ (slice_get-get_or c.args.writes.now c.loop-written.written-index _ c.loop-written-test.true))

pub loop-written-preserved : goal.loop-written-preserved
loop-written-preserved c =
    let ws = c.args.writes.now in
    let n = c.loop-written.written-index in
    let at = slice_get-get_or ws n _ c.loop-written-test.true in
    subst (λ xs. IsPutInto xs c.args.row.now c.put.new.row) (sym (take_more ws n _ at))
    (puts_more (take n ws) _ c.args.row.now c.loop-written.row c.put.new.row c.loop-written.invariant (fresh_next ws n _ c.requires.differ at) c.put.ensures.long c.put.ensures.here c.put.ensures.others)
