use Rattle.std.proofs.Common.{◌≡◌, ◌++◌, take}
use Rattle.std.specs.Prelude.{string_bytes, flat_map}
use Rattle.ir_spelling.specs.Spelling.{behind_comma, parameter_text}
use Rattle.ir_spelling.proofs.spelling.push_more_parameters.Given as goal

abbrev pub invariant-loop-parameter : goal.invariant-loop-parameter
invariant-loop-parameter l = string_bytes l.out ≡ string_bytes l.initial.out ++ flat_map (behind_comma parameter_text) (take l.parameter-index l.parameters)
