use Rattle.std.proofs.Common.{◌≡◌, map, take}
use Rattle.types.specs.Call.{parameter_of}
use Rattle.types.proofs.function.parameters_of.Given as goal

abbrev pub invariant-loop-parameter : goal.invariant-loop-parameter
invariant-loop-parameter l = l.found ≡ map parameter_of (take l.parameter-index l.parameters)
