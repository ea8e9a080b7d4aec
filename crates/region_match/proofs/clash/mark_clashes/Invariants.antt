use Rattle.std.proofs.Common.{take}
use Rattle.region_match.proofs.Clashes.{ClashMarks}
use Rattle.region_match.proofs.clash.mark_clashes.Given as goal

abbrev pub invariant-loop-edge : goal.invariant-loop-edge
invariant-loop-edge l = ClashMarks l.from (take l.edge-index l.edges) l.tasks l.fn.marks.items l.marks.items
