use Rattle.std.proofs.Common.{◌≡◌, take, map}
use Rattle.ir_instruction.specs.Cases.{case_from}
use Rattle.ir_instruction.proofs.switch.cases_from.Given as goal

abbrev pub invariant-loop-case : goal.invariant-loop-case
invariant-loop-case l = l.cases.items ≡ map case_from (take l.case-index l.spelled)
