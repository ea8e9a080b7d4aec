use Rattle.std.proofs.Common.{take}
use Rattle.types.specs.names.Marks.{SetsMarks}
use Rattle.types.proofs.names.reach.set_marks.Given as goal

abbrev pub invariant-loop-place : goal.invariant-loop-place
invariant-loop-place l = SetsMarks (take l.place-index l.places) l.fn.marks.items l.marks.items
