-- Uses of registers and labels.
use Rattle.std.specs.Prelude.{ℕ, ℤ, pos, negsuc, int_le, Bool, true, ◌&&◌, List, Option, Some, None, Result, Ok, Err}
use Rattle.linear.specs.declared.form.RegisterId.{RegisterId}
use Rattle.program.specs.declared.identifier.BlockId.{BlockId}
use Rattle.program.specs.declared.instruction.Operand.{Operand}
use Rattle.program.specs.declared.instruction.Operand.TheVariants as operand
use Rattle.syntax.specs.declared.instruction.Operand.{Operand as OperandText}
use Rattle.syntax.specs.declared.instruction.Operand.TheVariants as text
use Rattle.syntax.specs.declared.operator.Width.{Width}
use Rattle.syntax.specs.declared.operator.Width.TheVariants.{Bits64, Bits32}
use Rattle.refusal.specs.declared.broken.Broken.{Broken as TypeFault}
use Rattle.types.specs.declared.names.scope.Holding.{Holding}
use Rattle.types.specs.declared.names.scope.Named.{Named}
use Rattle.types.specs.declared.names.scope.Named.TheVariants as named
use Rattle.types.specs.declared.names.scope.Register.{Register}
use Rattle.types.specs.names.Fault.{and_then, breaks, made_of, unless_of}
use Rattle.types.specs.names.Scope.{Scope, is_number_of, is_truth, is_region}
use Rattle.types.specs.names.Table.{look_up}

-- the register: 201 where nothing has the name, 202 where a label has it
abbrev pub as_register : ℕ → Option Named → Result Register TypeFault
as_register line None = Err (breaks 201 line)
as_register line (Some (named.Label block)) = Err (breaks 202 line)
as_register line (Some (named.Register register)) = Ok register

-- the block: 201 where nothing has the name, 202 where a register has it
abbrev pub as_label : ℕ → Option Named → Result BlockId TypeFault
as_label line None = Err (breaks 201 line)
as_label line (Some (named.Label block)) = Ok block
as_label line (Some (named.Register register)) = Err (breaks 202 line)

abbrev pub register_of : Scope → ℕ → List ℕ → Result Register TypeFault
register_of scope line name = as_register line (look_up scope name)

abbrev pub label_of : Scope → ℕ → List ℕ → Result BlockId TypeFault
label_of scope line name = as_label line (look_up scope name)

-- the register, where what it holds passes the test: 202 else
abbrev pub passing : (Holding → Bool) → ℕ → Register → Result RegisterId TypeFault
passing test line register = made_of (λ _. register.id) (unless_of (test register.holding) (breaks 202 line))

abbrev pub register_passing : (Holding → Bool) → Scope → ℕ → List ℕ → Result RegisterId TypeFault
register_passing test scope line name = and_then (register_of scope line name) (passing test line)

-- `%c` of a branch holds an `i1`
abbrev pub condition_of : Scope → ℕ → List ℕ → Result RegisterId TypeFault
condition_of scope line name = register_passing is_truth scope line name

abbrev pub region_of : Scope → ℕ → List ℕ → Result RegisterId TypeFault
region_of scope line name = register_passing is_region scope line name

-- the number is one of the width, read as signed
abbrev pub fits_width : Width → ℤ → Bool
fits_width Bits64 number = true
fits_width Bits32 number = int_le (negsuc 2147483647) number && int_le number (pos 2147483647)

-- `T V`: a number of the width (202), or a register that holds one (201, 202)
abbrev pub operand_of : Scope → ℕ → Width → OperandText → Result Operand TypeFault
operand_of scope line width (text.Number number) =
    made_of (λ _. operand.Number number) (unless_of (fits_width width number) (breaks 202 line))
operand_of scope line width (text.Register name) =
    made_of operand.Register (register_passing (is_number_of width) scope line name)
