use Rattle.strand.proofs.Waiting.{sync_region, sync_there}
use Rattle.strand.proofs.strand.Strand.waits_now.Goals as goal

pub item_at-requires-clause-there : goal.item_at-requires-clause-there
item_at-requires-clause-there c = sync_there c.args.program.now c.args.places.now c.args.self.now c.requires.way c.if-self-eq0.false c.if-self.true

pub region_of-requires : goal.region_of-requires
region_of-requires c = sync_region c.args.program.now c.args.places.now c.args.self.now c.requires.way c.if-self-eq0.false c.if-self.true _ c.item_at.ensures
