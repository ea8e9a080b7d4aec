use Rattle.std.proofs.Common.{◌≡◌, ◌++◌, take}
use Rattle.std.specs.List.{flat_map}
use Rattle.definedness.specs.RegisterActs.{pending_needs}
use Rattle.definedness.proofs.registers.push_pending.Given as goal

abbrev pub invariant-loop-line : goal.invariant-loop-line
invariant-loop-line l = l.acts.items ≡ l.fn.acts.items ++ flat_map (pending_needs l.allocas) (take l.line-index l.lines)
