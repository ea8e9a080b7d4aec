-- Instructions and phis.
use Rattle.std.specs.Prelude.{ℕ, nat_eq, List, Option, Some, None, is_some, Result, Ok, Err}
use Rattle.linear.specs.declared.form.RegisterId.{RegisterId}
use Rattle.program.specs.declared.identifier.AllocaId.{AllocaId}
use Rattle.program.specs.declared.identifier.ObjectName.TheVariants as object
use Rattle.program.specs.declared.instruction.Instruction.{Instruction}
use Rattle.program.specs.declared.instruction.Instruction.TheVariants as instruction
use Rattle.program.specs.declared.instruction.Phi.{Phi}
use Rattle.program.specs.declared.instruction.PhiEntry.{PhiEntry}
use Rattle.program.specs.declared.instruction.Step.{Step}
use Rattle.syntax.specs.declared.instruction.Address.{Address as AddressText}
use Rattle.syntax.specs.declared.instruction.Argument.{Argument as ArgumentText}
use Rattle.syntax.specs.declared.instruction.Instruction.{Instruction as InstructionText}
use Rattle.syntax.specs.declared.instruction.Instruction.TheVariants as text
use Rattle.syntax.specs.declared.instruction.Operand.{Operand as OperandText}
use Rattle.syntax.specs.declared.instruction.Phi.{Phi as PhiText}
use Rattle.syntax.specs.declared.instruction.PhiEntry.{PhiEntry as PhiEntryText}
use Rattle.syntax.specs.declared.instruction.Step.{Step as StepText}
use Rattle.syntax.specs.declared.module.Function.{Function as FunctionText}
use Rattle.syntax.specs.declared.operator.BinaryOperator.{BinaryOperator}
use Rattle.syntax.specs.declared.operator.Conversion.{Conversion}
use Rattle.syntax.specs.declared.operator.Predicate.{Predicate}
use Rattle.syntax.specs.declared.operator.Width.{Width}
use Rattle.syntax.specs.declared.operator.Width.TheVariants.{Bits64}
use Rattle.refusal.specs.declared.broken.Broken.{Broken as TypeFault}
use Rattle.program.specs.Widths.{source_width}
use Rattle.types.specs.declared.names.form.AnnotationPlace.TheVariants.{Body}
use Rattle.types.specs.declared.instruction.Spot.{Spot}
use Rattle.types.specs.declared.names.scope.Holding.{Holding}
use Rattle.types.specs.declared.names.scope.Holding.TheVariants as holding
use Rattle.types.specs.names.Address.{Items, address_of, object_of}
use Rattle.types.specs.Call.{Named, call_of}
use Rattle.types.specs.names.Fault.{all_of, and_then, both_of, breaks, made_of, unless_of}
use Rattle.types.specs.names.Form.{inequalities_of}
use Rattle.types.specs.names.Operand.{label_of, operand_of, register_of}
use Rattle.types.specs.names.Scope.{Scope}

abbrev pub defined_of : Scope → ℕ → List ℕ → Result RegisterId TypeFault
defined_of scope line name = made_of (λ register. register.id) (register_of scope line name)

-- `[ V, %l ]`
abbrev pub entry_of : Scope → ℕ → Width → PhiEntryText → Result PhiEntry TypeFault
entry_of scope line width entry = made_of (λ p. record { value = p.0; predecessor = p.1 })
    (both_of (operand_of scope line width entry.value) (label_of scope line entry.predecessor))

abbrev pub entries_of : Scope → ℕ → Width → List PhiEntryText → Result (List PhiEntry) TypeFault
entries_of scope line width entries = all_of (λ _. entry_of scope line width) entries

abbrev pub phi_of : Scope → PhiText → Result Phi TypeFault
phi_of scope phi = made_of (λ p. record { line = phi.line; register = p.0; width = phi.width; entries = p.1 })
    (both_of (defined_of scope phi.line phi.register) (entries_of scope phi.line phi.width phi.entries))

abbrev pub phis_of : Scope → List PhiText → Result (List Phi) TypeFault
phis_of scope phis = all_of (λ _. phi_of scope) phis

abbrev pub binary_of : Scope → ℕ → List ℕ → BinaryOperator → Width → OperandText → OperandText →
    Result Instruction TypeFault
binary_of scope line register operator width left right =
    made_of (λ p. instruction.Binary p.0 operator width p.1.0 p.1.1) (both_of (defined_of scope line register)
    (both_of (operand_of scope line width left) (operand_of scope line width right)))

abbrev pub compare_of : Scope → ℕ → List ℕ → Predicate → Width → OperandText → OperandText →
    Result Instruction TypeFault
compare_of scope line register predicate width left right =
    made_of (λ p. instruction.Compare p.0 predicate width p.1.0 p.1.1) (both_of (defined_of scope line register)
    (both_of (operand_of scope line width left) (operand_of scope line width right)))

abbrev pub convert_of : Scope → ℕ → List ℕ → Conversion → OperandText → Result Instruction TypeFault
convert_of scope line register conversion value = made_of (λ p. instruction.Convert p.0 conversion p.1)
    (both_of (defined_of scope line register) (operand_of scope line (source_width conversion) value))

abbrev pub as_alloca : ℕ → Holding → Result AllocaId TypeFault
as_alloca line (holding.Object (object.Alloca id) cells) = Ok id
as_alloca line other = Err (breaks 202 line)

abbrev pub alloca_id_of : Scope → ℕ → List ℕ → Result AllocaId TypeFault
alloca_id_of scope line name = and_then (register_of scope line name) (λ register. as_alloca line register.holding)

-- an `alloca` stands in the entry block, else 204
abbrev pub alloca_of : Scope → ℕ → ℕ → List ℕ → Result Instruction TypeFault
alloca_of scope block line register = and_then (both_of (defined_of scope line register) (alloca_id_of scope line
    register)) (λ p. made_of (λ _. instruction.Alloca p.0 p.1) (unless_of (nat_eq block 0) (breaks 204 line)))

abbrev pub element_pointer_of : Items → Scope → ℕ → List ℕ → AddressText → OperandText → Result Instruction TypeFault
element_pointer_of items scope line register base index =
    made_of (λ p. instruction.ElementPointer p.0 p.1.0.name p.1.1) (both_of (defined_of scope line register)
    (both_of (object_of items scope line base) (operand_of scope line Bits64 index)))

abbrev pub load_of : Items → Scope → ℕ → ℕ → List ℕ → AddressText → Result Instruction TypeFault
load_of items scope block line register address = made_of (λ p. instruction.Load p.0 p.1)
    (both_of (defined_of scope line register) (address_of items scope block line address))

abbrev pub store_of : Items → Scope → ℕ → ℕ → OperandText → AddressText → Result Instruction TypeFault
store_of items scope block line value address = made_of (λ p. instruction.Store p.0 p.1)
    (both_of (operand_of scope line Bits64 value) (address_of items scope block line address))

-- an array store clears just as many cells as its pointer's extent, else 204
abbrev pub store_zeros_of : Items → Scope → ℕ → ℕ → AddressText → Result Instruction TypeFault
store_zeros_of items scope line cells address = and_then (object_of items scope line address) (λ found.
    made_of (λ _. instruction.StoreZeros cells found.name) (unless_of (nat_eq found.cells cells) (breaks 204 line)))

abbrev pub atomic_add_of : Items → Scope → ℕ → ℕ → AddressText → OperandText → Result Instruction TypeFault
atomic_add_of items scope block line address value = made_of (λ p. instruction.AtomicAdd p.0 p.1)
    (both_of (address_of items scope block line address) (operand_of scope line Bits64 value))

abbrev pub call_register_of : Scope → ℕ → Option (List ℕ) → Result (Option RegisterId) TypeFault
call_register_of scope line None = Ok None
call_register_of scope line (Some name) = made_of Some (defined_of scope line name)

abbrev pub call_step_of : Items → List FunctionText → Named → Scope → ℕ → ℕ → Option (List ℕ) → List ℕ →
    List ArgumentText → Result Instruction TypeFault
call_step_of items functions named scope caller line register callee arguments =
    made_of (λ p. instruction.Call p.0 p.1.callee p.1.arguments) (both_of (call_register_of scope line register)
    (call_of items functions named scope caller line (is_some register) callee arguments))

abbrev pub region_start_of : Scope → ℕ → List ℕ → Result Instruction TypeFault
region_start_of scope line register = made_of instruction.StartRegion (defined_of scope line register)

abbrev pub instruction_of : Items → List FunctionText → Named → Scope → Spot → InstructionText →
    Result Instruction TypeFault
instruction_of items functions named scope spot (text.Binary register operator width left right) =
    binary_of scope spot.line register operator width left right
instruction_of items functions named scope spot (text.Compare register predicate width left right) =
    compare_of scope spot.line register predicate width left right
instruction_of items functions named scope spot (text.Convert register conversion value) =
    convert_of scope spot.line register conversion value
instruction_of items functions named scope spot (text.Alloca register size) =
    alloca_of scope spot.block spot.line register
instruction_of items functions named scope spot (text.ElementPointer register base index) =
    element_pointer_of items scope spot.line register base index
instruction_of items functions named scope spot (text.Load register address) =
    load_of items scope spot.block spot.line register address
instruction_of items functions named scope spot (text.Store value address) =
    store_of items scope spot.block spot.line value address
instruction_of items functions named scope spot (text.StoreZeros cells address) =
    store_zeros_of items scope spot.line cells address
instruction_of items functions named scope spot (text.AtomicAdd address value) =
    atomic_add_of items scope spot.block spot.line address value
instruction_of items functions named scope spot (text.Call register callee arguments) =
    call_step_of items functions named scope spot.function spot.line register callee arguments
instruction_of items functions named scope spot (text.StartRegion register) = region_start_of scope spot.line register

abbrev pub step_of : Items → List FunctionText → Named → Scope → ℕ → ℕ → StepText → Result Step TypeFault
step_of items functions named scope function block step =
    let spot : Spot = record { function = function; block = block; line = step.line } in
    made_of (λ p. record { line = step.line; shows = p.0; instruction = p.1 })
    (both_of (inequalities_of scope Body step.shows) (instruction_of items functions named scope spot step.instruction))

abbrev pub steps_of : Items → List FunctionText → Named → Scope → ℕ → ℕ → List StepText → Result (List Step) TypeFault
steps_of items functions named scope function block steps =
    all_of (λ _. step_of items functions named scope function block) steps
