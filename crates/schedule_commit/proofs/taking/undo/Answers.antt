use Rattle.std.proofs.Common.{arith}
use Rattle.schedule_commit.proofs.taking.undo.Goals as goal

pub take_back-requires : goal.take_back-requires
take_back-requires c = c.requires.put (λ none. (let more = c.if-done-gt0.true in let is = c.done.ensures in omega (arith, more, is, none)))
