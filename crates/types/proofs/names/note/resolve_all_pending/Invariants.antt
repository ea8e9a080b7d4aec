use Rattle.std.proofs.Common.{take}
use Rattle.types.specs.names.Told.{Gives}
use Rattle.types.specs.names.Note as spec
use Rattle.types.proofs.names.note.resolve_all_pending.Given as goal

abbrev pub invariant-loop-line : goal.invariant-loop-line
invariant-loop-line l = Gives l.resolved (spec.all_pending_of l.items l.scope l.block (take l.line-index l.lines))
