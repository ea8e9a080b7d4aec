use Rattle.std.proofs.Common.{◌≡◌, map, take}
use Rattle.types.specs.Meaning as spec
use Rattle.types.proofs.check.globals_of.Given as goal

abbrev pub invariant-loop-global : goal.invariant-loop-global
invariant-loop-global l = l.arrays ≡ map spec.global_of (take l.global-index l.globals)
