use Rattle.std.proofs.Common.{◌≡◌, ◌++◌, take}
use Rattle.std.specs.List.{flat_map}
use Rattle.definedness.specs.RegisterActs.{value_needs}
use Rattle.definedness.proofs.registers.push_values.Given as goal

abbrev pub invariant-loop-block : goal.invariant-loop-block
invariant-loop-block l = l.acts.items ≡ l.fn.acts.items ++ flat_map (value_needs l.from) (take l.block-index l.blocks)
