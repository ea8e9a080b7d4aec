use Rattle.strand.proofs.Waiting.{next_there}
use Rattle.strand.proofs.strand.Strand.next_item.Goals as goal

pub item_at-requires-clause-there : goal.item_at-requires-clause-there
item_at-requires-clause-there c = next_there c.args.program.now c.args.places.now c.args.self.now c.requires.way
