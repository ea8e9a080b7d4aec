-- Which registers an instruction or terminator reads, and what they hold.
use Rattle.std.specs.Prelude.{◌≡◌, ◌⊎◌, ℕ, Some, None, Bool, true, cond, slice_get, ℤ}
use Rattle.semantics.specs.Frames.{Value, Frame, Item, Does, Ends, phis_at, truth_of, word_at}
use Rattle.semantics.specs.Effect.{case_for}
use Rattle.program.specs.Phis.{entry_for}
use Rattle.program.specs.declared.function.Function.{Function}
use Rattle.program.specs.declared.function.Program.{Program}
use Rattle.program.specs.declared.function.RegisterKind.{RegisterKind}
use Rattle.program.specs.declared.identifier.ObjectName.{ObjectName}
use Rattle.program.specs.declared.identifier.ObjectName.TheVariants.{Global, Alloca, Parameter}
use Rattle.program.specs.declared.instruction.Address.{Address}
use Rattle.program.specs.declared.instruction.Address.TheVariants.{First, Element}
use Rattle.program.specs.declared.instruction.Argument.{Argument}
use Rattle.program.specs.declared.instruction.Argument.TheVariants as argument
use Rattle.program.specs.declared.instruction.Instruction.{Instruction}
use Rattle.program.specs.declared.instruction.Instruction.TheVariants as instruction
use Rattle.program.specs.declared.instruction.Operand.{Operand}
use Rattle.program.specs.declared.instruction.Operand.TheVariants.{Number, Register}
use Rattle.program.specs.declared.instruction.Phi.{Phi}
use Rattle.program.specs.declared.instruction.Terminator.{Terminator}
use Rattle.program.specs.declared.instruction.Terminator.TheVariants as terminator
use Rattle.laws_schedule.specs.kinds.Holding.{is_of_kind}

abbrev pub OperandReads : Operand → ℕ → Type 0
OperandReads (Number z) r = ⊥
OperandReads (Register x) r = x.0 ≡ r

abbrev pub ObjectReads : ObjectName → ℕ → Type 0
ObjectReads (Global g) r = ⊥
ObjectReads (Alloca a) r = ⊥
ObjectReads (Parameter x) r = x.0 ≡ r

abbrev pub AddressReads : Address → ℕ → Type 0
AddressReads (First name) r = ObjectReads name r
AddressReads (Element x) r = x.0 ≡ r

abbrev pub ArgumentReads : Argument → ℕ → Type 0
ArgumentReads (argument.Number x) r = OperandReads x r
ArgumentReads (argument.Object name) r = ObjectReads name r

abbrev pub InstructionReads : Instruction → ℕ → Type 0
InstructionReads (instruction.Binary d op w a b) r = OperandReads a r ⊎ OperandReads b r
InstructionReads (instruction.Compare d by w a b) r = OperandReads a r ⊎ OperandReads b r
InstructionReads (instruction.Convert d by a) r = OperandReads a r
InstructionReads (instruction.Alloca d a) r = ⊥
InstructionReads (instruction.ElementPointer d name i) r = ObjectReads name r ⊎ OperandReads i r
InstructionReads (instruction.Load d at) r = AddressReads at r
InstructionReads (instruction.Store a at) r = AddressReads at r ⊎ OperandReads a r
InstructionReads (instruction.StoreZeros n name) r = ObjectReads name r
InstructionReads (instruction.AtomicAdd at a) r = AddressReads at r ⊎ OperandReads a r
InstructionReads (instruction.Call d callee arguments) r = (k : ℕ) × (one : Argument) ×
    (slice_get arguments k ≡ Some one) × ArgumentReads one r
InstructionReads (instruction.StartRegion d) r = ⊥

-- the phis of the block to which an edge leads read what they take from the frame's block
abbrev pub EdgeReads : Program → Frame → ℕ → ℕ → Type 0
EdgeReads prog f target r = (i : ℕ) × (phi : Phi) × (from : Operand) ×
    (slice_get (phis_at prog f.function target) i ≡ Some phi) ×
    (entry_for f.block phi.entries ≡ Some from) × OperandReads from r

-- with the phis of the edge that is taken
abbrev pub TerminatorReads : Program → Frame → Terminator → ℕ → Type 0
TerminatorReads prog f (terminator.Jump target) r = EdgeReads prog f target.0 r
TerminatorReads prog f (terminator.Branch test x y) r = (test.0 ≡ r) ⊎ ((b : Bool) ×
    (truth_of (f.registers test.0) ≡ Some b) ×
    EdgeReads prog f (cond b x.0 y.0) r)
TerminatorReads prog f (terminator.Switch w a default cases) r = OperandReads a r ⊎
    ((z : ℤ) × (word_at f.registers a ≡ Some z) ×
    EdgeReads prog f (case_for z default.0 cases) r)
TerminatorReads prog f (terminator.Return None) r = ⊥
TerminatorReads prog f (terminator.Return (Some a)) r = OperandReads a r
TerminatorReads prog f (terminator.Detach region body continuation) r = region.0 ≡ r
TerminatorReads prog f (terminator.Reattach region continuation) r = ⊥
TerminatorReads prog f (terminator.Sync region target) r = (region.0 ≡ r) ⊎ EdgeReads prog f target.0 r

abbrev pub ItemReads : Program → Frame → Item → ℕ → Type 0
ItemReads prog f (Does i) r = InstructionReads i r
ItemReads prog f (Ends t) r = TerminatorReads prog f t r

-- the register is one of the function's, and holds a value of its kind
pub record HoldsKind (function : Function) (f : Frame) (r : ℕ) : Type 0 where
  pub kind : RegisterKind
  pub is : slice_get function.registers r ≡ Some kind
  pub value : Value
  pub held : f.registers r ≡ Some value
  pub of_kind : is_of_kind kind value ≡ true
