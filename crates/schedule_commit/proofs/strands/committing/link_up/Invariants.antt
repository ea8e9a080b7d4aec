use Rattle.std.proofs.Common.{drop}
use Rattle.schedule_commit.specs.strands.Committing.{last_of, linked_up}
use Rattle.schedule_commit.proofs.strands.Callees.{IsLinkedFrom}
use Rattle.schedule_commit.proofs.strands.committing.link_up.Given as goal

abbrev pub invariant-loop-child : goal.invariant-loop-child
invariant-loop-child l = IsLinkedFrom (linked_up l.fn.frames l.slot l.slots) l.frames (last_of l.slot l.slots) l.top (drop l.child-index l.slots)
