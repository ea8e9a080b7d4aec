use Rattle.laws_strands.proofs.Happening.{reached_never_traps}
use Rattle.laws_strands.proofs.reached_never_traps.Goals as goal

pub returns : goal.returns
returns c = reached_never_traps
