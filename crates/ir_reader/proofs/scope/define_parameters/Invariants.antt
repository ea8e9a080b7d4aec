use Rattle.std.proofs.Common.{◌≡◌, ◌++◌, take, drop}
use Rattle.std.specs.Prelude.{map}
use Rattle.ir_reader.specs.Names.{is_repeated}
use Rattle.ir_reader.specs.Defined.{parameter_name}
use Rattle.ir_reader.proofs.scope.define_parameters.Given as goal

abbrev pub invariant-loop-parameter : goal.invariant-loop-parameter
invariant-loop-parameter l = record {
  names : l.names ≡ l.initial.names ++ map parameter_name (take l.parameter-index l.parameters);
  repeats : is_repeated l.initial.names (map parameter_name l.parameters) ≡ is_repeated l.names (map parameter_name (drop l.parameter-index l.parameters));
}
