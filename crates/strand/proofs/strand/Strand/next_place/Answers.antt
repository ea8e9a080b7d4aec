use Rattle.strand.proofs.Settling.{top_code}
use Rattle.strand.proofs.strand.Strand.next_place.Goals as goal

pub place_at-requires : goal.place_at-requires
place_at-requires c = top_code c.args.program.now c.args.places.now c.args.self.now c.requires.way c.args.tables.now.places c.requires.tables.places_are
