use Rattle.std.proofs.Common.{◌≡◌, ◌++◌, take}
use Rattle.std.specs.List.{flat_map}
use Rattle.definedness.specs.RegisterActs.{phi_needs}
use Rattle.definedness.proofs.registers.push_phis.Given as goal

abbrev pub invariant-loop-phi : goal.invariant-loop-phi
invariant-loop-phi l = l.acts.items ≡ l.fn.acts.items ++ flat_map (phi_needs l.from) (take l.phi-index l.phis)
