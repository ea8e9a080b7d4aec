use Rattle.std.proofs.Common.{◌≡◌, drop}
use Rattle.types.specs.names.Mention as spec
use Rattle.types.proofs.names.mention.add_pending.Given as goal

abbrev pub invariant-loop-line : goal.invariant-loop-line
invariant-loop-line l = spec.with_pending l.items l.found (drop l.line-index l.lines) ≡ spec.with_pending l.items l.initial.found l.lines
