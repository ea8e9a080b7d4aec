use Rattle.std.proofs.Common.{arith}
use Rattle.strand.proofs.Waiting.{ready_there}
use Rattle.strand.proofs.strand.Strand.has_ready.Goals as goal

pub item_at-requires-clause-there : goal.item_at-requires-clause-there
item_at-requires-clause-there c =
    let lent = c.as_slice-saved-items in
    let test = c.loop-saved-test.true in
    ready_there c.args.program.now c.args.places.now c.args.self.now c.requires.way lent.result.now c.loop-saved.saved-index _ lent.ensures.value (search arith)
