-- What one instruction does.
use Rattle.std.specs.Prelude.{ℕ, suc, List, [], ◌∷◌, Bool, false, cond, ◌&&◌, eqb, nat_lt, Option, Some, None, ℤ, pos}
use Rattle.std.specs.Prelude.{int_lt, int_le, unsigned_abs}
use Rattle.std.specs.Ordering.{int_eq}
use Rattle.semantics.specs.Paths.{Path, same_path}
use Rattle.semantics.specs.Cells.{Object, Local, Cell, same_object, same_cell, Memory}
use Rattle.semantics.specs.Arithmetic.{Trap, Undefined, BadIndex, Unmatched, Answer, Gives, Traps, binary, compares}
use Rattle.semantics.specs.Arithmetic.{converts}
use Rattle.semantics.specs.Frames.{Value, Word, Truth, Pointer, Region, Registers, Role, Child, Body, Frame, and_then}
use Rattle.semantics.specs.Frames.{Item, Does, Ends, item_at, phis_at}
use Rattle.semantics.specs.Frames.{cells_of, truth_of, region_of, set_register, word_at, object_at, first_cell, cell_at}
use Rattle.program.specs.linear.declared.form.RegisterId.{RegisterId}
use Rattle.program.specs.Phis.{entry_for}
use Rattle.program.specs.declared.function.Program.{Program}
use Rattle.program.specs.declared.instruction.Instruction.{Instruction}
use Rattle.program.specs.declared.instruction.Instruction.TheVariants as instruction
use Rattle.program.specs.declared.instruction.Terminator.{Terminator}
use Rattle.program.specs.declared.instruction.Terminator.TheVariants as terminator
use Rattle.program.specs.declared.instruction.Phi.{Phi}
use Rattle.program.specs.declared.instruction.Case.{Case}
use Rattle.program.specs.declared.instruction.Argument.{Argument}
use Rattle.program.specs.declared.instruction.Argument.TheVariants as argument

-- The frame's registers and place afterwards, and the cells that are read, written and added to. A trap leaves
-- registers and place as they were; what it read or would have added to still counts.
pub record Effect : Type 0 where
  pub registers : Registers
  pub block : ℕ
  pub index : ℕ
  pub reads : Cell → Bool
  pub writes : Cell → Option (Option ℤ)  -- Some None: undefined from here on
  pub adds : Cell → Option ℤ
  pub trap : Option Trap

-- An effect on the frame itself, or one on the tree of frames, with the registers that it names looked up.
pub data Action : Type 0 where
  Plain : (effect : Effect) → Action
  Detach : (region body continuation : ℕ) → Action
  Reattach : (region : ℕ) → Action
  -- on to the block, with the registers of the edge, to wait there
  Sync : (region block : ℕ) (registers : Registers) → Action
  Call : (register : Option RegisterId) (callee : ℕ) (values : List Value) → Action
  Return : (result : Option ℤ) → Action

-- ---- effects on the frame itself

abbrev pub no_cells : Cell → Bool
no_cells c = false

abbrev pub no_writes : Cell → Option (Option ℤ)
no_writes c = None

abbrev pub no_adds : Cell → Option ℤ
no_adds c = None

-- at this place with these registers, and no cell is touched
abbrev pub stands : Registers → ℕ → ℕ → Option Trap → Effect
stands registers block index trap = record {
  registers = registers;
  block = block;
  index = index;
  reads = no_cells;
  writes = no_writes;
  adds = no_adds;
  trap = trap;
}

abbrev pub stops : Trap → Frame → Effect
stops t f = stands f.registers f.block f.index (Some t)

abbrev pub goes_on : Frame → Effect
goes_on f = stands f.registers f.block (suc f.index) None

abbrev pub sets : Frame → RegisterId → Value → Effect
sets f d v = record (goes_on f) { registers = set_register f.registers d v }

abbrev pub answers : Frame → RegisterId → Answer → Effect
answers f d (Gives z) = sets f d (Word z)
answers f d (Traps t) = stops t f

-- with a value that is there, or undefined
abbrev pub given : {A : Type 0} → Frame → Option A → (A → Effect) → Effect
given f None next = stops Undefined f
given f (Some a) next = next a

-- LLVM Language Reference, "getelementptr", of cells in an object
abbrev pub points : Frame → RegisterId → ℕ → Object → ℤ → Effect
points f d cells o i = cond (int_le (pos 0) i && int_lt i (pos cells))
    (sets f d (Pointer (record { object = o; index = unsigned_abs i }))) (stops BadIndex f)

-- LLVM Language Reference, "load"
abbrev pub loads : Frame → RegisterId → Cell → Option ℤ → Effect
loads f d c None = record (stops Undefined f) { reads = same_cell c }
loads f d c (Some z) = record (sets f d (Word z)) { reads = same_cell c }

-- LLVM Language Reference, "store"
abbrev pub stores : Frame → Cell → ℤ → Effect
stores f c z = record (goes_on f) { writes = λ x. cond (same_cell c x) (Some (Some z)) None }

abbrev pub stores_zeros : Frame → ℕ → Object → Effect
stores_zeros f cells o = record (goes_on
    f) { writes = λ x. cond (same_object o x.object && nat_lt x.index cells) (Some (Some (pos 0))) None }

-- LLVM Language Reference, "atomicrmw"
abbrev pub adds_to : Frame → Cell → ℤ → Option ℤ → Effect
adds_to f c z None = record (stops Undefined f) { adds = λ x. cond (same_cell c x) (Some z) None }
adds_to f c z (Some old) = record (goes_on f) { adds = λ x. cond (same_cell c x) (Some z) None }

-- ---- along an edge (LLVM Language Reference, "phi")

abbrev pub phi_value : Registers → ℕ → Phi → Option ℤ
phi_value before from phi = and_then (entry_for from phi.entries) (word_at before)

-- all at once: each value is one from before
abbrev pub with_phis : Registers → ℕ → List Phi → Registers → Option Registers
with_phis before from [] r = Some r
with_phis before from (phi ∷ phis) r =
    and_then (phi_value before from phi) (λ z. with_phis before from phis (set_register r phi.register (Word z)))

-- the registers of the frame at the start of a block that it goes to
abbrev pub registers_along : Program → Frame → ℕ → Option Registers
registers_along prog f target = with_phis f.registers f.block (phis_at prog f.function target) f.registers

abbrev pub enters : Frame → ℕ → Registers → Effect
enters f target r = record (goes_on f) { registers = r; block = target; index = 0 }

abbrev pub jumps : Program → Frame → ℕ → Effect
jumps prog f target = given f (registers_along prog f target) (enters f target)

abbrev pub case_for : ℤ → ℕ → List Case → ℕ
case_for z default [] = default
case_for z default (c ∷ cases) = cond (int_eq z c.number) c.target.0 (case_for z default cases)

-- ---- effects on the tree of frames (Tapir, PPoPP 2017, sections 2 and 3)

abbrev pub traps : Trap → Frame → Action
traps t f = Plain (stops t f)

abbrev pub if_own : Path → Frame → Action → Option Path → Action
if_own p f a None = traps Undefined f
if_own p f a (Some owner) = cond (same_path owner p) a (traps Unmatched f)

-- the region must have been started by this very frame
abbrev pub within : Path → Frame → RegisterId → Action → Action
within p f region a = if_own p f a (region_of (f.registers region.0))

abbrev pub syncs : Frame → ℕ → ℕ → Option Registers → Action
syncs f region target None = traps Undefined f
syncs f region target (Some r) = Sync region target r

-- a reattach names the region and the continuation of its task's detach
abbrev pub reattaches : Frame → ℕ → ℕ → Role → Action
reattaches f region continuation Body = traps Unmatched f
reattaches f region continuation (Child r c) = cond (eqb r region && eqb c continuation) (Reattach region)
    (traps Unmatched f)

abbrev pub argument_value : Frame → Argument → Option Value
argument_value f (argument.Number a) = and_then (word_at f.registers a) (λ z. Some (Word z))
argument_value f (argument.Object name) = and_then (object_at f name) (λ o. Some (Pointer (first_cell o)))

abbrev pub argument_values : Frame → List Argument → Option (List Value)
argument_values f [] = Some []
argument_values f (a ∷ more) =
    and_then (argument_value f a) (λ v. and_then (argument_values f more) (λ vs. Some (v ∷ vs)))

abbrev pub calls : Frame → Option RegisterId → ℕ → Option (List Value) → Action
calls f d callee None = traps Undefined f
calls f d callee (Some values) = Call d callee values

-- a function's frame returns, not a child's
abbrev pub returns : Frame → Role → Option ℤ → Action
returns f (Child r c) result = traps Unmatched f
returns f Body result = Return result

abbrev pub returns_value : Frame → Option ℤ → Action
returns_value f None = traps Undefined f
returns_value f (Some z) = returns f f.role (Some z)

-- ---- by cases

abbrev pub instruction_action : Program → Path → Frame → Memory → Instruction → Action
instruction_action prog p f m (instruction.Binary d op w a b) =
    Plain (given f (word_at f.registers a) (λ x. given f (word_at f.registers b) (λ y. answers f d (binary op w x y))))
instruction_action prog p f m (instruction.Compare d by w a b) = Plain (given f (word_at f.registers a)
    (λ x. given f (word_at f.registers b) (λ y. sets f d (Truth (compares by w x y)))))
instruction_action prog p f m (instruction.Convert d by a) =
    Plain (given f (word_at f.registers a) (λ x. sets f d (Word (converts by x))))
instruction_action prog p f m (instruction.Alloca d a) = Plain (sets f d (Pointer (first_cell (Local f.home a.0))))
instruction_action prog p f m (instruction.ElementPointer d name i) = Plain (given f (object_at f name)
    (λ o. given f (word_at f.registers i) (points f d (cells_of prog f.function name) o)))
instruction_action prog p f m (instruction.Load d address) =
    Plain (given f (cell_at f address) (λ c. loads f d c (m c)))
instruction_action prog p f m (instruction.Store a address) =
    Plain (given f (cell_at f address) (λ c. given f (word_at f.registers a) (stores f c)))
instruction_action prog p f m (instruction.StoreZeros cells name) =
    Plain (given f (object_at f name) (stores_zeros f cells))
instruction_action prog p f m (instruction.AtomicAdd address a) =
    Plain (given f (cell_at f address) (λ c. given f (word_at f.registers a) (λ z. adds_to f c z (m c))))
instruction_action prog p f m (instruction.Call d callee arguments) = calls f d callee.0 (argument_values f arguments)
instruction_action prog p f m (instruction.StartRegion d) = Plain (sets f d (Region p))

abbrev pub terminator_action : Program → Path → Frame → Terminator → Action
terminator_action prog p f (terminator.Jump target) = Plain (jumps prog f target.0)
terminator_action prog p f (terminator.Branch test when_true when_false) =
    Plain (given f (truth_of (f.registers test.0)) (λ b. jumps prog f (cond b when_true.0 when_false.0)))
terminator_action prog p f (terminator.Switch w a default cases) =
    Plain (given f (word_at f.registers a) (λ z. jumps prog f (case_for z default.0 cases)))
terminator_action prog p f (terminator.Return None) = returns f f.role None
terminator_action prog p f (terminator.Return (Some a)) = returns_value f (word_at f.registers a)
terminator_action prog p f (terminator.Detach region body continuation) =
    within p f region (Detach region.0 body.0 continuation.0)
terminator_action prog p f (terminator.Reattach region continuation) = reattaches f region.0 continuation.0 f.role
terminator_action prog p f (terminator.Sync region target) =
    within p f region (syncs f region.0 target.0 (registers_along prog f target.0))

abbrev pub item_action : Program → Path → Frame → Memory → Option Item → Action
item_action prog p f m None = traps Unmatched f
item_action prog p f m (Some (Does i)) = instruction_action prog p f m i
item_action prog p f m (Some (Ends t)) = terminator_action prog p f t

-- what the frame at path p does next, with this memory
abbrev pub action_of : Program → Path → Frame → Memory → Action
action_of prog p f m = item_action prog p f m (item_at prog f.function f.block f.index)
