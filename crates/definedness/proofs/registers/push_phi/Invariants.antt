use Rattle.std.proofs.Common.{◌≡◌, ◌++◌, take}
use Rattle.std.specs.List.{flat_map}
use Rattle.definedness.specs.RegisterActs.{entry_needs}
use Rattle.definedness.proofs.registers.push_phi.Given as goal

abbrev pub invariant-loop-entry : goal.invariant-loop-entry
invariant-loop-entry l = l.acts.items ≡ l.fn.acts.items ++ flat_map (entry_needs l.from l.line) (take l.entry-index l.entries)
