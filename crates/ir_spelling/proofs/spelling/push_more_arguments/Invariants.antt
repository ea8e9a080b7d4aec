use Rattle.std.proofs.Common.{◌≡◌, ◌++◌, take}
use Rattle.std.specs.Prelude.{string_bytes, flat_map}
use Rattle.ir_spelling.specs.Spelling.{behind_comma, argument_text}
use Rattle.ir_spelling.proofs.spelling.push_more_arguments.Given as goal

abbrev pub invariant-loop-argument : goal.invariant-loop-argument
invariant-loop-argument l = string_bytes l.out ≡ string_bytes l.initial.out ++ flat_map (behind_comma argument_text) (take l.argument-index l.arguments)
