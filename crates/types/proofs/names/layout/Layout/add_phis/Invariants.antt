use Rattle.std.proofs.Common.{◌≡◌, drop}
use Rattle.types.specs.names.Layout as spec
use Rattle.types.proofs.names.layout.Layout.add_phis.Given as goal

abbrev pub invariant-loop-phi : goal.invariant-loop-phi
invariant-loop-phi l = spec.with_phis l.self (drop l.phi-index l.phis) ≡ spec.with_phis l.initial.self l.phis
