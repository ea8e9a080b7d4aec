use Rattle.std.proofs.Common.{◌≡◌, ◌++◌, take}
use Rattle.std.specs.List.{flat_map}
use Rattle.definedness.specs.AllocaActs.{argument_read}
use Rattle.definedness.proofs.allocas.push_argument_reads.Given as goal

abbrev pub invariant-loop-argument : goal.invariant-loop-argument
invariant-loop-argument l = l.acts.items ≡ l.fn.acts.items ++ flat_map (argument_read l.line) (take l.argument-index l.arguments)
