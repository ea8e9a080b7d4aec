-- What functions that read items answer.
use Rattle.std.specs.Prelude.{◌≡◌, ℕ, List, Option, Result, Err, Ok}
use Rattle.refusal.specs.declared.refused.Refused.{Refused}
use Rattle.refusal.specs.Refusals.{IfBroken}
use Rattle.ir_reader.specs.declared.item.line.Line.{Line}
use Rattle.ir_reader.specs.item.Lines.{IsLineFault}
use Rattle.syntax.specs.declared.instruction.Instruction.{Instruction}
use Rattle.ir_instruction.specs.declared.fault.LineFault.{LineFault}
use Rattle.ir_reader.specs.declared.item.item.Item.{Item}
use Rattle.ir_reader.specs.declared.item.item.Item.TheVariants as item

-- if a fault, then that of the line
abbrev pub IsFaultOfLine : ℕ → List ℕ → Refused → Type 0
IsFaultOfLine at line fault = IfBroken (λ broken. (broken.line ≡ at) × IsLineFault at line broken.number) fault

-- if a fault, then the one that the reading of tokens meets
abbrev pub IsMeaningFault : ℕ → Result (Option Line) ℕ → Refused → Type 0
IsMeaningFault at meaning fault = IfBroken (λ broken. (broken.line ≡ at) × (meaning ≡ Err broken.number)) fault

-- what was read of an instruction, as the item of its line
abbrev pub as_item : Result Instruction LineFault → Result Item LineFault
as_item (Ok instruction) = Ok (item.Instruction instruction)
as_item (Err fault) = Err fault
