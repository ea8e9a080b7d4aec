-- What functions that read lines answer.
use Rattle.std.specs.Prelude.{◌≡◌, Option, Some, None, Result, Ok, Err}
use Rattle.ir_instruction.specs.declared.fault.LineFault.{LineFault}
use Rattle.ir_instruction.specs.declared.fault.LineFault.TheVariants as faults

-- nothing was to be read, or memory was refused
abbrev pub Fails : {Y : Type 0} → LineFault → Option Y → Type 0
Fails faults.Memory found = Unit {0}
Fails faults.Unexpected found = found ≡ None

-- what a function returned is what is to be read, unless memory was refused
abbrev pub Gives : {X Y : Type 0} → (X → Y) → Result X LineFault → Option Y → Type 0
Gives view (Ok x) found = found ≡ Some (view x)
Gives view (Err e) found = Fails e found

-- what a function found is what is to be read; it takes no memory
abbrev pub Finds : {X Y : Type 0} → (X → Y) → Option X → Option Y → Type 0
Finds view (Some x) found = found ≡ Some (view x)
Finds view None found = found ≡ None
