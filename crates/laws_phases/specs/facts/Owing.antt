-- What the phases on names, types, the graph, regions and definedness owe the law on facts.
use Rattle.std.specs.Prelude.{◌≡◌, ◌≢◌, ℕ, ◌<◌, ◌≤◌, List, [], ◌∷◌, length, Option, Some, None, true, false, ◌⊎◌}
use Rattle.std.specs.Prelude.{is_some, All, slice_get, ℤ}
use Rattle.semantics.specs.Arithmetic.{fits}
use Rattle.semantics.specs.Frames.{Registers, Frame, Does, Ends, item_at, phis_at, word_at}
use Rattle.linear.specs.declared.form.RegisterId.{RegisterId}
use Rattle.syntax.specs.declared.operator.Width.{Width}
use Rattle.syntax.specs.declared.operator.Width.TheVariants.{Bits32}
use Rattle.syntax.specs.declared.operator.Conversion.{Conversion}
use Rattle.syntax.specs.declared.operator.Conversion.TheVariants.{Truncate, SignExtend, ZeroExtend}
use Rattle.program.specs.declared.identifier.BlockId.{BlockId}
use Rattle.program.specs.declared.identifier.FunctionId.{FunctionId}
use Rattle.program.specs.declared.function.Function.{Function}
use Rattle.program.specs.declared.function.Program.{Program}
use Rattle.program.specs.declared.instruction.Argument.{Argument}
use Rattle.program.specs.declared.instruction.Argument.TheVariants as argument
use Rattle.program.specs.declared.instruction.Instruction.{Instruction}
use Rattle.program.specs.declared.instruction.Instruction.TheVariants as instruction
use Rattle.program.specs.declared.instruction.Operand.{Operand}
use Rattle.program.specs.declared.instruction.Operand.TheVariants.{Number, Register}
use Rattle.program.specs.declared.instruction.Phi.{Phi}
use Rattle.program.specs.declared.instruction.Step.{Step}
use Rattle.program.specs.declared.instruction.Terminator.{Terminator}
use Rattle.program.specs.declared.instruction.Terminator.TheVariants as terminator
use Rattle.ranges.specs.Edges.{edges_out}
use Rattle.laws_conditions.specs.rules.Moves.{dest_of}
use Rattle.laws_conditions.specs.rules.Costs.{parameters_of, Lacks}
use Rattle.laws_conditions.specs.rules.Registers.{returns_number}
use Rattle.laws_phases.specs.facts.Known.{known_at_place}
use Rattle.laws_phases.specs.defined.Names.{NamesOnly}

-- ---- names, types, the graph and regions

-- a parameter, or the result of a function that gives a number
abbrev pub IsGiven : Program → ℕ → Function → ℕ → Type 0
IsGiven prog g function r = (r < length function.parameters) ⊎ ((r ≡ length function.registers) ×
    (returns_number prog g ≡ true))

pub record IsTyped (prog : Program) : Type 0 where
  -- the parameters are the first registers
  pub parameters : (g : ℕ) (function : Function) → slice_get prog.functions g ≡ Some function →
      length function.parameters ≤ length function.registers
  -- `requires` name parameters, and `ensures` the result too
  pub requirements : (g : ℕ) (function : Function) → slice_get prog.functions g ≡ Some function →
      All (NamesOnly (λ r. r < length function.parameters)) function.requirements
  pub guarantees : (g : ℕ) (function : Function) → slice_get prog.functions g ≡ Some function →
      All (NamesOnly (IsGiven prog g function)) function.guarantees
  -- a call passes as many arguments as there are parameters, and defines a register exactly where the function gives a
  -- number
  pub arguments : (function block index : ℕ) (d : Option RegisterId) (g : FunctionId) (arguments : List Argument) →
      item_at prog function block index ≡ Some (Does (instruction.Call d g arguments)) →
      length arguments ≡ parameters_of prog g.0
  pub results : (function block index : ℕ) (d : Option RegisterId) (g : FunctionId) (arguments : List Argument) →
      item_at prog function block index ≡ Some (Does (instruction.Call d g arguments)) →
      returns_number prog g.0 ≡ is_some d
  pub returns : (function block index : ℕ) → item_at prog function block index ≡ Some (Ends (terminator.Return None)) →
      returns_number prog function ≡ false
  -- no edge leads to an entry block
  pub entry : (function block index : ℕ) (t : Terminator) (steps : List Step) →
      item_at prog function block index ≡ Some (Ends t) →
      All (λ e. e.to.0 ≢ 0) (edges_out steps t)
  -- where a detach leads to, no phi stands
  pub forks : (function block index : ℕ) (region : RegisterId) (body continuation : BlockId) →
      item_at prog function block index ≡ Some (Ends (terminator.Detach region body continuation)) →
      (phis_at prog function body.0 ≡ []) × (phis_at prog function continuation.0 ≡ [])

-- ---- definedness: each register is defined once, and before what names it

abbrev pub IsOther : ℕ → Operand → Type 0
IsOther d (Number z) = Unit {0}
IsOther d (Register r) = r.0 ≢ d

abbrev pub IsOtherArgument : ℕ → Argument → Type 0
IsOtherArgument d (argument.Number x) = IsOther d x
IsOtherArgument d (argument.Object name) = Unit {0}

-- no number that the instruction reads is in the register
abbrev pub Avoids : ℕ → Instruction → Type 0
Avoids d (instruction.Binary e operator width x y) = IsOther d x × IsOther d y
Avoids d (instruction.Compare e predicate width x y) = IsOther d x × IsOther d y
Avoids d (instruction.Convert e conversion x) = IsOther d x
Avoids d (instruction.ElementPointer e object index) = IsOther d index
Avoids d (instruction.Store x address) = IsOther d x
Avoids d (instruction.AtomicAdd address x) = IsOther d x
Avoids d (instruction.Call e callee arguments) = All (IsOtherArgument d) arguments
Avoids d other = Unit {0}

-- an instruction that stands before it in its block defines another register, and reads others
pub record IsUntouched (d : ℕ) (i : Instruction) : Type 0 where
  pub defines : dest_of i ≢ Some d
  pub reads : Avoids d i

-- the register that the instruction of a place defines is no parameter, and nothing known there names it
pub record LeavesKnown (prog : Program) (function block index : ℕ) (i : Instruction) (d : ℕ) : Type 0 where
  pub parameter : parameters_of prog function ≤ d
  pub known : All (λ fact. Lacks fact.form d) (known_at_place prog function block index)
  pub operands : Avoids d i
  pub earlier : (k : ℕ) (j : Instruction) → k < index → item_at prog function block k ≡ Some (Does j) → IsUntouched d j

-- no two define one register
abbrev pub AreApart : List Phi → Type 0
AreApart [] = Unit {0}
AreApart (phi ∷ phis) = All (λ other. other.register.0 ≢ phi.register.0) phis × AreApart phis

pub record AreFactsStable (prog : Program) : Type 0 where
  pub steps : (function block index : ℕ) (i : Instruction) (d : ℕ) → item_at prog function block index ≡ Some (Does i) →
      dest_of i ≡ Some d →
      LeavesKnown prog function block index i d
  pub phis : (function block : ℕ) →
      All (λ phi. parameters_of prog function ≤ phi.register.0) (phis_at prog function block)
  pub apart : (function block : ℕ) → AreApart (phis_at prog function block)

-- ---- numbers of their widths

-- A number of i64 may come from memory, where a cell holds any number; so what is made known rests on the widths of
-- these alone.
abbrev pub FitsAt : Registers → Width → Operand → Type 0
FitsAt r w x = (z : ℤ) → word_at r x ≡ Some z → fits w z ≡ true

-- a number that the text gives
abbrev pub FitsText : Width → Operand → Type 0
FitsText w (Number z) = fits w z ≡ true
FitsText w (Register r) = Unit {0}

abbrev pub FitsConversion : Registers → Conversion → Operand → Type 0
FitsConversion r Truncate x = Unit {0}
FitsConversion r SignExtend x = FitsAt r Bits32 x
FitsConversion r ZeroExtend x = FitsAt r Bits32 x

-- the numbers that the instruction reads are of the widths that it reads them at: those of the text, and those of i32
-- that it extends
abbrev pub FitsWidths : Registers → Instruction → Type 0
FitsWidths r (instruction.Binary d operator width x y) = FitsText width y
FitsWidths r (instruction.Convert d conversion x) = FitsConversion r conversion x
FitsWidths r other = Unit {0}

abbrev pub HasWidths : Program → Frame → Type 0
HasWidths prog f = (i : Instruction) → item_at prog f.function f.block f.index ≡ Some (Does i) →
    FitsWidths f.registers i
