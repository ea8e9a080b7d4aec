use Rattle.std.proofs.Common.{◌≡◌}
use Rattle.schedule_commit.proofs.strands.Linked.{AreReady}
use Rattle.schedule_commit.proofs.strands.linking.links_of.Given as goal

abbrev pub invariant-loop-number : goal.invariant-loop-number
invariant-loop-number l = AreReady l.worker l.strand l.number l.links.items × (l.cactus ≡ l.fn.cactus)
