use Rattle.region_match.proofs.Clashes.{AllClashMarks}
use Rattle.region_match.proofs.clash.clashes.Given as goal

abbrev pub invariant-loop-from : goal.invariant-loop-from
invariant-loop-from l = AllClashMarks l.blocks l.from l.tasks l.marks.items
