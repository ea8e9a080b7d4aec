use Rattle.strand.specs.Putting.{IsCopiedTo}
use Rattle.strand.proofs.cells.copy_to.Given as goal

abbrev pub invariant-loop-number : goal.invariant-loop-number
invariant-loop-number l = IsCopiedTo l.numbers l.number l.place l.initial.row l.row
