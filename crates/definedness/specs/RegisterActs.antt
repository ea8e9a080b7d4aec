-- What the blocks of a function do with registers, in the order in which they run: a block's phis come first, its
-- annotations speak of its start, a `shows` line uses its registers where it stands, and a phi's value is used at the
-- end of its predecessor.
use Rattle.std.specs.Prelude.{ℕ, zero, suc, ◌==◌, if◌then◌else◌, List, [], ◌∷◌, ◌++◌, Option, Some, None, length}
use Rattle.std.specs.Prelude.{slice_get}
use Rattle.std.specs.List.{flat_map}
use Rattle.linear.specs.declared.form.RegisterId.{RegisterId}
use Rattle.linear.specs.declared.form.Term.{Term}
use Rattle.linear.specs.Terms.{Combination}
use Rattle.program.specs.declared.annotation.Inequality.{Inequality}
use Rattle.program.specs.declared.annotation.Left.{Left}
use Rattle.program.specs.declared.annotation.Pending.{Pending}
use Rattle.program.specs.declared.annotation.Zone.{Zone}
use Rattle.program.specs.declared.function.Alloca.{Alloca as AllocaOf}
use Rattle.program.specs.declared.function.Block.{Block}
use Rattle.program.specs.declared.function.Function.{Function}
use Rattle.program.specs.declared.identifier.ObjectName.{ObjectName}
use Rattle.program.specs.declared.identifier.ObjectName.TheVariants as object
use Rattle.program.specs.declared.instruction.Address.{Address}
use Rattle.program.specs.declared.instruction.Address.TheVariants.{First, Element}
use Rattle.program.specs.declared.instruction.Argument.{Argument}
use Rattle.program.specs.declared.instruction.Argument.TheVariants as argument
use Rattle.program.specs.declared.instruction.Ending.{Ending}
use Rattle.program.specs.declared.instruction.Instruction.{Instruction}
use Rattle.program.specs.declared.instruction.Instruction.TheVariants.{Binary, Compare, Convert, Alloca, ElementPointer}
use Rattle.program.specs.declared.instruction.Instruction.TheVariants.{Load, Store, StoreZeros}
use Rattle.program.specs.declared.instruction.Instruction.TheVariants.{AtomicAdd, Call, StartRegion}
use Rattle.program.specs.declared.instruction.Operand.{Operand}
use Rattle.program.specs.declared.instruction.Operand.TheVariants.{Number, Register}
use Rattle.program.specs.declared.instruction.Phi.{Phi}
use Rattle.program.specs.declared.instruction.PhiEntry.{PhiEntry}
use Rattle.program.specs.declared.instruction.Step.{Step}
use Rattle.program.specs.declared.instruction.Terminator.{Terminator}
use Rattle.program.specs.declared.instruction.Terminator.TheVariants.{Jump, Branch, Switch, Return, Detach, Reattach}
use Rattle.program.specs.declared.instruction.Terminator.TheVariants.{Sync}
use Rattle.definedness.specs.declared.act.Act.{Act}
use Rattle.definedness.specs.declared.act.Act.TheVariants.{Needs, Gives}

abbrev pub register_needs : ℕ → RegisterId → List Act
register_needs line register = Needs register.0 line ∷ []

abbrev pub operand_needs : ℕ → Operand → List Act
operand_needs line (Number n) = []
operand_needs line (Register register) = register_needs line register

abbrev pub form_needs : ℕ → Combination → List Act
form_needs line form = flat_map (λ (t : Term). register_needs line t.register) form.terms

abbrev pub inequality_needs : Inequality → List Act
inequality_needs i = form_needs i.line i.low ++ form_needs i.line i.high

abbrev pub alloca_needs : ℕ → Option AllocaOf → List Act
alloca_needs line None = []
alloca_needs line (Some alloca) = register_needs line alloca.register

-- an object is named by its register
abbrev pub object_needs : List AllocaOf → ℕ → ObjectName → List Act
object_needs allocas line (object.Global g) = []
object_needs allocas line (object.Alloca a) = alloca_needs line (slice_get allocas a.0)
object_needs allocas line (object.Parameter register) = register_needs line register

abbrev pub zone_needs : List AllocaOf → Zone → List Act
zone_needs allocas z = object_needs allocas z.line z.object ++ (form_needs z.line z.low ++ form_needs z.line z.high)

abbrev pub pending_needs : List AllocaOf → Pending → List Act
pending_needs allocas p = register_needs p.zone.line p.region ++ zone_needs allocas p.zone

abbrev pub left_needs : Left → List Act
left_needs left = form_needs left.line left.self_calls ++ form_needs left.line left.instructions

abbrev pub address_needs : List AllocaOf → ℕ → Address → List Act
address_needs allocas line (First name) = object_needs allocas line name
address_needs allocas line (Element register) = register_needs line register

abbrev pub argument_needs : List AllocaOf → ℕ → Argument → List Act
argument_needs allocas line (argument.Number value) = operand_needs line value
argument_needs allocas line (argument.Object name) = object_needs allocas line name

abbrev pub instruction_needs : List AllocaOf → ℕ → Instruction → List Act
instruction_needs allocas line (Binary register operator width left right) = operand_needs line left ++
    operand_needs line right
instruction_needs allocas line (Compare register predicate width left right) = operand_needs line left ++
    operand_needs line right
instruction_needs allocas line (Convert register conversion value) = operand_needs line value
instruction_needs allocas line (ElementPointer register name index) = object_needs allocas line name ++
    operand_needs line index
instruction_needs allocas line (Load register address) = address_needs allocas line address
instruction_needs allocas line (Store value address) = operand_needs line value ++ address_needs allocas line address
instruction_needs allocas line (StoreZeros cells name) = object_needs allocas line name
instruction_needs allocas line (AtomicAdd address value) = address_needs allocas line address ++
    operand_needs line value
instruction_needs allocas line (Call register callee arguments) = flat_map (argument_needs allocas line) arguments
instruction_needs allocas line other = []

abbrev pub definition_of : Instruction → Option RegisterId
definition_of (Binary register operator width left right) = Some register
definition_of (Compare register predicate width left right) = Some register
definition_of (Convert register conversion value) = Some register
definition_of (Alloca register alloca) = Some register
definition_of (ElementPointer register name index) = Some register
definition_of (Load register address) = Some register
definition_of (Call register callee arguments) = register
definition_of (StartRegion register) = Some register
definition_of other = None

abbrev pub definition_gives : Option RegisterId → List Act
definition_gives None = []
definition_gives (Some register) = Gives register.0 ∷ []

abbrev pub step_acts : List AllocaOf → Step → List Act
step_acts allocas s = flat_map inequality_needs s.shows ++ (instruction_needs allocas s.line s.instruction ++
    definition_gives (definition_of s.instruction))

abbrev pub result_needs : ℕ → Option Operand → List Act
result_needs line None = []
result_needs line (Some value) = operand_needs line value

abbrev pub terminator_needs : ℕ → Terminator → List Act
terminator_needs line (Jump target) = []
terminator_needs line (Branch condition when_true when_false) = register_needs line condition
terminator_needs line (Switch width value default cases) = operand_needs line value
terminator_needs line (Return value) = result_needs line value
terminator_needs line (Detach region body continuation) = register_needs line region
terminator_needs line (Reattach region continuation) = register_needs line region
terminator_needs line (Sync region target) = register_needs line region

abbrev pub ending_needs : Option Ending → List Act
ending_needs None = []
ending_needs (Some e) = flat_map inequality_needs e.shows ++ terminator_needs e.line e.terminator

-- the values that a phi takes where the run comes from this block
abbrev pub entry_needs : ℕ → ℕ → PhiEntry → List Act
entry_needs from line e = if e.predecessor.0 == from then operand_needs line e.value else []

abbrev pub phi_needs : ℕ → Phi → List Act
phi_needs from phi = flat_map (entry_needs from phi.line) phi.entries

-- what the phis of a block take where the run comes from another
abbrev pub value_needs : ℕ → Block → List Act
value_needs from block = flat_map (phi_needs from) block.phis

abbrev pub phi_gives : Phi → List Act
phi_gives phi = Gives phi.register.0 ∷ []

abbrev pub note_needs : List AllocaOf → Block → List Act
note_needs allocas block = flat_map inequality_needs block.keeps ++ (flat_map (pending_needs allocas) block.pending ++
    (left_needs block.left ++ flat_map (zone_needs allocas) block.foot))

-- the registers below this number are defined
abbrev pub gives_below : ℕ → List Act
gives_below zero = []
gives_below (suc n) = gives_below n ++ Gives n ∷ []

-- the parameters are defined when the entry begins
abbrev pub start_gives : ℕ → ℕ → List Act
start_gives zero parameters = gives_below parameters
start_gives (suc b) parameters = []

abbrev pub body_acts : List AllocaOf → Block → List Act
body_acts allocas block = flat_map phi_gives block.phis ++
    (note_needs allocas block ++ (flat_map (step_acts allocas) block.steps ++ ending_needs block.ending))

-- what the block of this number does
abbrev pub register_acts : Function → ℕ → Block → List Act
register_acts function b block = start_gives b (length function.parameters) ++ (body_acts function.allocas block ++
    flat_map (value_needs b) function.blocks)
