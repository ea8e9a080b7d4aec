use Rattle.std.proofs.Common.{◌≡◌, take, map}
use Rattle.store.specs.Named.{zeros}
use Rattle.store.proofs.memory.Memory.of_program.Given as goal

abbrev pub invariant-loop-global : goal.invariant-loop-global
invariant-loop-global l = l.globals.items ≡ map zeros (take l.global-index l.global-items)
