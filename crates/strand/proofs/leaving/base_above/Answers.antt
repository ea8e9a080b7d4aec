use Rattle.std.proofs.Common.{arith}
use Rattle.strand.proofs.Frames.{base_last, base_read}
use Rattle.strand.proofs.leaving.base_above.Goals as goal

pub returns-then-number-len : goal.returns-then-number-len
returns-then-number-len c =
    let less = c.if-number-len.true in
    let long = c.len.ensures in
    base_read c.args.windows.now c.args.number c.index.result.now (search arith) c.index.ensures

pub returns-else-number-len : goal.returns-else-number-len
returns-else-number-len c =
    let few = c.if-number-len.false in
    let lt = c.requires in
    let long = c.len.ensures in
    base_last c.args.windows.now c.args.number (search arith)
