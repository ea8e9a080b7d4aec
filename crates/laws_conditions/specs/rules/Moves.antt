-- What an instruction that does not trap leaves of its frame.
use Rattle.std.specs.Prelude.{◌≡◌, ◌≢◌, ℕ, suc, List, Option, Some, None, true, is_some, ◌⊎◌, Contains}
use Rattle.semantics.specs.Frames.{Value, Frame, Does, Ends, item_at}
use Rattle.semantics.specs.Effect.{Effect, registers_along, argument_values}
use Rattle.linear.specs.declared.form.RegisterId.{RegisterId}
use Rattle.program.specs.declared.identifier.BlockId.{BlockId}
use Rattle.program.specs.declared.identifier.FunctionId.{FunctionId}
use Rattle.program.specs.declared.function.Program.{Program}
use Rattle.program.specs.declared.instruction.Argument.{Argument}
use Rattle.program.specs.declared.instruction.Case.{Case}
use Rattle.program.specs.declared.instruction.Instruction.{Instruction}
use Rattle.program.specs.declared.instruction.Instruction.TheVariants as instruction
use Rattle.program.specs.declared.instruction.Terminator.{Terminator}
use Rattle.program.specs.declared.instruction.Terminator.TheVariants as terminator

abbrev pub number_of : Option RegisterId → Option ℕ
number_of None = None
number_of (Some d) = Some d.0

-- the register that an instruction defines
abbrev pub dest_of : Instruction → Option ℕ
dest_of (instruction.Binary d op w a b) = Some d.0
dest_of (instruction.Compare d by w a b) = Some d.0
dest_of (instruction.Convert d by a) = Some d.0
dest_of (instruction.Alloca d a) = Some d.0
dest_of (instruction.ElementPointer d name i) = Some d.0
dest_of (instruction.Load d address) = Some d.0
dest_of (instruction.Call d callee arguments) = number_of d
dest_of (instruction.StartRegion d) = Some d.0
dest_of other = None

-- on to the next instruction of the block: the register that is defined has a value, and all others stay
pub record GoesOn (f : Frame) (dest : Option ℕ) (e : Effect) : Type 0 where
  pub block : e.block ≡ f.block
  pub index : e.index ≡ suc f.index
  pub given : (d : ℕ) → dest ≡ Some d → is_some (e.registers d) ≡ true
  pub others : (x : ℕ) → dest ≢ Some x → e.registers x ≡ f.registers x

-- along an edge, to the start of its target with the phis' values
pub record Enters (prog : Program) (f : Frame) (e : Effect) : Type 0 where
  pub index : e.index ≡ 0
  pub along : registers_along prog f e.block ≡ Some e.registers

-- the targets of a jump, branch or switch
abbrev pub JumpsTo : Terminator → ℕ → Type 0
JumpsTo (terminator.Jump target) b = target.0 ≡ b
JumpsTo (terminator.Branch test x y) b = (x.0 ≡ b) ⊎ (y.0 ≡ b)
JumpsTo (terminator.Switch w a default cases) b = (default.0 ≡ b) ⊎ ((c : Case) × Contains cases c × (c.target.0 ≡ b))
JumpsTo other b = ⊥

-- and of a sync of a region
abbrev pub SyncsTo : Terminator → ℕ → ℕ → Type 0
SyncsTo (terminator.Sync region target) r b = (region.0 ≡ r) × (target.0 ≡ b)
SyncsTo other r b = ⊥

-- the call at the frame's place
pub record Calls (prog : Program) (f : Frame) (d : Option RegisterId) (callee : ℕ) (values : List Value) : Type 0 where
  pub function : FunctionId
  pub arguments : List Argument
  pub is : item_at prog f.function f.block f.index ≡ Some (Does (instruction.Call d function arguments))
  pub number : function.0 ≡ callee
  pub values_are : argument_values f arguments ≡ Some values

-- the detach at the frame's place
pub record Forks (prog : Program) (f : Frame) (r b k : ℕ) : Type 0 where
  pub region : RegisterId
  pub body : BlockId
  pub continuation : BlockId
  pub is : item_at prog f.function f.block f.index ≡ Some (Ends (terminator.Detach region body continuation))
  pub region_is : region.0 ≡ r
  pub body_is : body.0 ≡ b
  pub continuation_is : continuation.0 ≡ k

-- a terminator with which a frame ends
abbrev pub EndsFrame : Terminator → Type 0
EndsFrame (terminator.Return value) = Unit {0}
EndsFrame (terminator.Reattach region continuation) = Unit {0}
EndsFrame other = ⊥
