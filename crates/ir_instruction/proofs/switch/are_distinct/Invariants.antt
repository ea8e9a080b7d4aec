use Rattle.std.proofs.Common.{◌≡◌, length}
use Rattle.ir_instruction.specs.Cases.{are_distinct}
use Rattle.ir_instruction.proofs.switch.are_distinct.Given as goal

abbrev pub invariant-loop-rest : goal.invariant-loop-rest
invariant-loop-rest l = are_distinct l.rest ≡ are_distinct l.cases

abbrev pub decreases-loop-rest : goal.decreases-loop-rest
decreases-loop-rest l = length l.rest
