use Rattle.std.proofs.Common.{◌≡◌, take}
use Rattle.definedness.specs.Definedness.{registers_from}
use Rattle.definedness.proofs.check.all_registers.Given as goal

abbrev pub invariant-loop-index : goal.invariant-loop-index
invariant-loop-index l = l.table.items ≡ registers_from l.function 0 (take l.index l.blocks)
