-- What a run rests on, and what a step comes to.
use Rattle.std.specs.Prelude.{◌≡◌, ⊤, ℕ, Bool, true, false, Option, None, ◌+◌, ◌<◌, ◌≤◌, List, length, map, Some}
use Rattle.std.specs.Prelude.{IsSome, slice_get, ℤ}
use Rattle.semantics.specs.Paths.{Path}
use Rattle.semantics.specs.Below.{Under}
use Rattle.semantics.specs.Cells.{Cell, Object, Shared, Local}
use Rattle.semantics.specs.Frames.{Frame, Pointer, Does, Ends, item_at}
use Rattle.semantics.specs.State.{change_of}
use Rattle.semantics.specs.Tree.{Tree}
use Rattle.semantics.specs.Events.{Machine, Event, Step, Steal, event}
use Rattle.semantics.specs.Replay.{replay}
use Rattle.linear.specs.declared.form.RegisterId.{RegisterId}
use Rattle.program.specs.declared.identifier.BlockId.{BlockId}
use Rattle.program.specs.declared.identifier.FunctionId.{FunctionId}
use Rattle.program.specs.declared.function.Function.{Function}
use Rattle.program.specs.declared.function.Program.{Program}
use Rattle.program.specs.declared.instruction.Argument.{Argument}
use Rattle.program.specs.declared.instruction.Instruction.TheVariants as instruction
use Rattle.program.specs.declared.instruction.Terminator.TheVariants as terminator
use Rattle.frame_engine.specs.declared.activation.Places.{Places}
use Rattle.frame_engine.specs.Activation.{ProgramFits}
use Rattle.frame_engine.specs.Arguments.{ArgumentsAreWhole}
use Rattle.frame_engine.specs.Shows.{Safe}
use Rattle.frame_engine.specs.Starts.{alloca_starts, global_starts}
use Rattle.schedule_workers.specs.declared.run.Run.{Run}
use Rattle.schedule_workers.specs.Layouts.{living}
use Rattle.schedule_workers.specs.RunShown.{IsShown}

-- a global, or an alloca of the frame at p or of one above it
abbrev pub IsAbove : Path → Object → Type 0
IsAbove p (Shared g) = ⊤
IsAbove p (Local owner a) = Under owner p

-- what the frame at p points to does not go before it
pub record PointsUp (p : Path) (f : Frame) : Type 0 where
  pub home : Under f.home p
  pub registers : (x : ℕ) (c : Cell) → f.registers x ≡ Some (Pointer c) → IsAbove p c.object

-- a worker's frame can do its next step, wherever objects lie
pub record CanStep (prog : Program) (m : Machine) (p : Path) (f : Frame) : Type 0 where
  pub safe : (at : Object → ℤ) → Safe prog (record { at = at; cells = living prog m.core }) p f m.core.memory
  pub goes : IsSome (change_of prog m.core p)
  -- a call passes whole objects
  pub whole : (d : Option RegisterId) (callee : FunctionId) (arguments : List Argument) →
      item_at prog f.function f.block f.index ≡ Some (Does (instruction.Call d callee arguments)) →
      ArgumentsAreWhole f arguments
  -- its numbers are numbers of 64 bits
  pub index : f.index + 1 < 18446744073709551616
  pub made : f.made + 1 < 18446744073709551616
  pub depth : length p + 2 < 18446744073709551616

pub record CanGo (prog : Program) (m : Machine) : Type 0 where
  pub steps : (worker : ℕ) (p : Path) (f : Frame) → m.hands worker ≡ Some p → m.core.frames p ≡ Some f →
      CanStep prog m p f
  pub tree : Tree m.core
  pub points : (p : Path) (f : Frame) → m.core.frames p ≡ Some f → PointsUp p f
  pub counted : m.core.done + 2 < 9223372036854775808

-- wherever a schedule leads
abbrev pub RunsSafely : Program → ℕ → Machine → Type 0
RunsSafely prog workers m = (events : List Event) → CanGo prog (replay prog workers events m)

-- some machine is shown, from which each schedule is safe
pub record Stands (prog : Program) (places : Places) (k : Run) : Type 0 where
  pub machine : Machine
  pub shown : IsShown prog places machine k
  pub safe : RunsSafely prog (length k.hands.items) machine

abbrev pub StandsSafely : Program → Places → Run → Type 0
StandsSafely prog places k = ∥ Stands prog places k ∥₁

-- What the program's text gives: what is named is there, a region's register is one of the function's, a call passes no
-- more than its callee has registers, and objects stand one after the other.
pub record TextFits (prog : Program) (places : Places) (moves : ℕ) : Type 0 where
  pub fits : ProgramFits prog places moves
  pub globals : places.globals ≡ global_starts prog.globals
  pub allocas : places.allocas ≡ map (λ (f : Function). alloca_starts f.allocas) prog.functions
  pub entries : (k : ℕ) (f : Function) → slice_get prog.functions k ≡ Some f → 0 < length f.blocks
  pub calls : (k b i : ℕ) (d : Option RegisterId) (callee : FunctionId) (arguments : List Argument) →
      item_at prog k b i ≡ Some (Does (instruction.Call d callee arguments)) →
      (f : Function) × (slice_get prog.functions callee.0 ≡ Some f) × (length arguments ≤ length f.registers)
  pub syncs : (k b i : ℕ) (r : RegisterId) (target : BlockId) (f : Function) → slice_get prog.functions k ≡ Some f →
      item_at prog k b i ≡ Some (Ends (terminator.Sync r target)) → r.0 < length f.registers
  pub detaches : (k b i : ℕ) (r : RegisterId) (child continuation : BlockId) (f : Function) →
      slice_get prog.functions k ≡ Some f →
      item_at prog k b i ≡ Some (Ends (terminator.Detach r child continuation)) → r.0 < length f.registers

-- ---- steps

-- the worker's step is the definitions' event
abbrev pub DoesStep : Program → Places → Run → Run → ℕ → Type 0
DoesStep prog places old new worker =
    (m : Machine) → IsShown prog places m old → RunsSafely prog (length old.hands.items) m →
    (next : Machine) × (event prog (length old.hands.items) (Step worker) m ≡ Some next) × IsShown prog places next new

-- what was shown is shown
abbrev pub KeepsShown : Program → Places → Run → Run → Type 0
KeepsShown prog places old new =
    (m : Machine) → IsShown prog places m old → RunsSafely prog (length old.hands.items) m → IsShown prog places m new

-- an event is done just where it is enabled, and then the machine after it is shown
abbrev pub Becomes : Program → Places → ℕ → Event → Machine → Run → Bool → Type 0
Becomes prog places workers e m new true = (next : Machine) × (event prog workers e m ≡ Some next) ×
    IsShown prog places next new
Becomes prog places workers e m new false = (event prog workers e m ≡ None) × IsShown prog places m new

abbrev pub DoesSteal : Program → Places → Run → Run → ℕ → Path → Bool → Type 0
DoesSteal prog places old new worker path done =
    (m : Machine) → IsShown prog places m old →
    Becomes prog places (length old.hands.items) (Steal worker path) m new done
