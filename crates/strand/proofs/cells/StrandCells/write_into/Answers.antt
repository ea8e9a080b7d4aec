use Rattle.std.proofs.Common.{◌-◌, ℤ, List, subst}
use Rattle.strand.specs.Putting.{IsCopiedTo}
use Rattle.strand.proofs.Rows.{put_all}
use Rattle.strand.proofs.cells.StrandCells.write_into.Goals as goal

pub returns : goal.returns
returns c =
    let x = c.args.self.now in
    put_all x c.args.end c.args.row.now c.write_into.new.row c.copy_to.new.row c.requires.begins c.write_into.ensures
    (subst (λ (numbers : List ℤ). IsCopiedTo numbers (c.args.end - x.start) x.start c.write_into.new.row c.copy_to.new.row) c.as_slice.ensures.value c.copy_to.ensures)
