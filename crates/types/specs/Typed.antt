-- The answer of the phase.
use Rattle.std.specs.Prelude.{Result, Ok, Err}
use Rattle.program.specs.declared.function.Program.{Program}
use Rattle.syntax.specs.declared.module.Module.{Module}
use Rattle.refusal.specs.declared.refused.Refused.{Refused}
use Rattle.refusal.specs.Refusals.{IfBroken}
use Rattle.types.specs.Meaning.{Means}

-- what is answered holds the program that the module means; if a fault, then its own
abbrev pub Judges : {X : Type 0} → (X → Program) → Module → Result X Refused → Type 0
Judges program_of whole (Ok x) = Means whole (Ok (program_of x))
Judges program_of whole (Err refused) = IfBroken (λ broken. Means whole (Err broken)) refused
