use Rattle.std.proofs.Common.{◌≡◌, ◌++◌}
use Rattle.definedness.specs.RegisterActs.{gives_below}
use Rattle.definedness.proofs.registers.push_parameters.Given as goal

abbrev pub invariant-loop-number : goal.invariant-loop-number
invariant-loop-number l = l.acts.items ≡ l.fn.acts.items ++ gives_below l.number
