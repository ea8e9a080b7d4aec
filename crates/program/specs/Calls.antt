-- What a call goes to, and how many parameters a function has.
use Rattle.std.specs.Prelude.{ℕ, Option, Some, None}
use Rattle.program.specs.declared.instruction.Instruction.{Instruction}
use Rattle.program.specs.declared.instruction.Instruction.TheVariants as instruction

abbrev pub callee_of : Instruction → Option ℕ
callee_of (instruction.Call d callee arguments) = Some callee.0
callee_of other = None
