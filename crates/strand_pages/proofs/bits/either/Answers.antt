use Rattle.strand_pages.proofs.Scanning.{either_set}
use Rattle.strand_pages.proofs.bits.either.Goals as goal

pub returns : goal.returns
returns c = either_set c.args.left c.args.right
