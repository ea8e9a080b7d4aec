use Rattle.std.proofs.Common.{◌≡◌, drop}
use Rattle.types.specs.names.Mention as spec
use Rattle.types.proofs.names.mention.add_arguments.Given as goal

abbrev pub invariant-loop-argument : goal.invariant-loop-argument
invariant-loop-argument l = spec.with_arguments l.items l.found (drop l.argument-index l.arguments) ≡ spec.with_arguments l.items l.initial.found l.arguments
