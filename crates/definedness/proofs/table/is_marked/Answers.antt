use Rattle.std.proofs.Common.{false}
use Rattle.definedness.proofs.Tables.{row_seen}
use Rattle.definedness.proofs.table.is_marked.Goals as goal

pub returns-in-Some-get : goal.returns-in-Some-get
returns-in-Some-get c =
    let row = c.in-Some.ensures.lookup in
    row_seen c.args.rows.now c.args.number c.args.block c.in-Some.row.now c.in-Some-get.mark.now row.3.0 row.1 (rw c.as_slice.ensures at (c.in-Some-get.ensures.lookup.3.1 false))
