use Rattle.std.proofs.Common.{take}
use Rattle.cfg.proofs.Matching.{Matching}
use Rattle.cfg.proofs.judge.is_matched.Given as goal

abbrev pub invariant-loop-entry : goal.invariant-loop-entry
invariant-loop-entry l = Matching l.leading (take l.entry-index l.entries) l.left.items
