-- What a phi takes where the run comes from a block.
use Rattle.std.specs.Prelude.{◌==◌, ℕ, if◌then◌else◌, List, [], ◌∷◌, Option, Some, None}
use Rattle.program.specs.declared.instruction.Operand.{Operand}
use Rattle.program.specs.declared.instruction.PhiEntry.{PhiEntry}

-- the value of the first entry that names this predecessor (LLVM Language Reference, "phi")
abbrev pub entry_for : ℕ → List PhiEntry → Option Operand
entry_for from [] = None
entry_for from (e ∷ entries) = if e.predecessor.0 == from then Some e.value else entry_for from entries
