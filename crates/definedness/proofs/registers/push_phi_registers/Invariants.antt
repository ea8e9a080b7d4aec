use Rattle.std.proofs.Common.{◌≡◌, ◌++◌, take}
use Rattle.std.specs.List.{flat_map}
use Rattle.definedness.specs.RegisterActs.{phi_gives}
use Rattle.definedness.proofs.registers.push_phi_registers.Given as goal

abbrev pub invariant-loop-phi : goal.invariant-loop-phi
invariant-loop-phi l = l.acts.items ≡ l.fn.acts.items ++ flat_map phi_gives (take l.phi-index l.phis)
