use Rattle.std.proofs.Common.{◌≡◌, drop}
use Rattle.types.specs.names.Layout as spec
use Rattle.types.proofs.names.layout.Layout.add_parameters.Given as goal

abbrev pub invariant-loop-parameter : goal.invariant-loop-parameter
invariant-loop-parameter l = spec.with_parameters l.self (drop l.parameter-index l.parameters) ≡ spec.with_parameters l.initial.self l.parameters
