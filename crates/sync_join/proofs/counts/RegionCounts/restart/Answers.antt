use Rattle.std.proofs.Common.{refl, sym}
use Rattle.sync_join.proofs.Counted.{restarted}
use Rattle.sync_join.proofs.counts.RegionCounts.restart.Goals as goal

pub invariant_of-self-2 : goal.invariant_of-self-2
invariant_of-self-2 c = sym (restarted c.clear.new.self.items c.resize.new.self.items c.args.regions _ _ refl c.clear.ensures.items c.in_ok-resize.ensures.items).0

pub returns-clause-none : goal.returns-clause-none
returns-clause-none c = (restarted c.clear.new.self.items c.resize.new.self.items c.args.regions _ _ refl c.clear.ensures.items c.in_ok-resize.ensures.items).1
