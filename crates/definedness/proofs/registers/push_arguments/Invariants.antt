use Rattle.std.proofs.Common.{◌≡◌, ◌++◌, take}
use Rattle.std.specs.List.{flat_map}
use Rattle.definedness.specs.RegisterActs.{argument_needs}
use Rattle.definedness.proofs.registers.push_arguments.Given as goal

abbrev pub invariant-loop-argument : goal.invariant-loop-argument
invariant-loop-argument l = l.acts.items ≡ l.fn.acts.items ++ flat_map (argument_needs l.allocas l.line) (take l.argument-index l.arguments)
