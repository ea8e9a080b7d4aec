use Rattle.std.proofs.Common.{◌≡◌, ◌++◌, take}
use Rattle.std.specs.List.{flat_map}
use Rattle.definedness.specs.RegisterActs.{inequality_needs}
use Rattle.definedness.proofs.registers.push_inequalities.Given as goal

abbrev pub invariant-loop-line : goal.invariant-loop-line
invariant-loop-line l = l.acts.items ≡ l.fn.acts.items ++ flat_map inequality_needs (take l.line-index l.lines)
