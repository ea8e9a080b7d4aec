use Rattle.std.proofs.Common.{◌≤◌, length}
use Rattle.strand.proofs.Settling.{AreOutAt, OnlyBoxes}
use Rattle.strand.proofs.strand.Strand.settle.Given as goal

abbrev pub invariant-loop-number : goal.invariant-loop-number
invariant-loop-number l =
    OnlyBoxes l.fn.self l.self × (l.number ≤ length l.fn.self.span.windows.below.items) × AreOutAt l.program l.places l.number l.self
