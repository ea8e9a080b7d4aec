use Rattle.std.proofs.Common.{sym}
use Rattle.shared_run.proofs.Starts.{same_origin}
use Rattle.shared_run.proofs.shared.Shared.new.Goals as goal

pub returns-clause-start : goal.returns-clause-start
returns-clause-start g c = sym (same_origin _ _ _ _ _ _ _ _ c.requires.code c.requires.arguments c.requires.memory c.requires.crew)
