-- The law of pointer names, over the frames of every run.
use Rattle.std.specs.Prelude.{◌≡◌, ℕ, ◌<◌, List, Some, Ok, ℤ}
use Rattle.semantics.specs.Paths.{Path}
use Rattle.semantics.specs.Cells.{Object, Memory}
use Rattle.semantics.specs.Frames.{Frame, object_at}
use Rattle.semantics.specs.State.{State, start_state}
use Rattle.semantics.specs.CoreSteps.{core_step}
use Rattle.program.specs.declared.function.Function.{Function}
use Rattle.program.specs.declared.function.Program.{Program}
use Rattle.program.specs.declared.identifier.ObjectName.{ObjectName}
use Rattle.program.specs.declared.identifier.ObjectName.TheVariants.{Global, Alloca, Parameter}
use Rattle.types.specs.Apart.{NamesGlobal, parameters_at, CallsApart}
use Rattle.types.specs.Definitions.{KeepsParameters}
use Rattle.ir_reader.specs.Reading.{Answers}
use Rattle.types.specs.Meaning.{Means}
use Rattle.verifier.specs.Accepted.{IsProgramOf}
use Rattle.syntax.specs.declared.module.Module.{Module}

-- what a function may name: a global that it or one that it calls names, an alloca, a parameter of its own
abbrev pub IsName : List Function → ℕ → ObjectName → Type 0
IsName functions f (Global global) = NamesGlobal functions f global
IsName functions f (Alloca alloca) = Unit {0}
IsName functions f (Parameter register) = register.0 < parameters_at functions f

-- a state that a run of the program reaches by steps of its frames, in any order
pub data IsReached (prog : Program) (arguments : List ℤ) (memory : Memory) : State → Type 0 where
  at_start : IsReached prog arguments memory (start_state prog arguments memory)
  by_step : (p : Path) (s next : State) → IsReached prog arguments memory s → core_step prog p s ≡ Some next →
      IsReached prog arguments memory next

-- two names of a frame that stand for one object are one name
abbrev pub NamesAreApart : List Function → Frame → Type 0
NamesAreApart functions f = (a b : ObjectName) (o : Object) → IsName functions f.function a →
    IsName functions f.function b → object_at f a ≡ Some o →
    object_at f b ≡ Some o → a ≡ b

-- so it is with each frame of each state that a run of the program reaches
abbrev pub KeepsNamesApart : Program → Type 0
KeepsNamesApart prog =
    (arguments : List ℤ) (memory : Memory) (s : State) → IsReached prog arguments memory s →
    (p : Path) (f : Frame) → s.frames p ≡ Some f → NamesAreApart prog.functions f

-- it is enough that calls keep pointers apart and that parameters keep what they were given
abbrev pub PointerNamesAreApart : Type 0
PointerNamesAreApart = (prog : Program) → CallsApart prog.functions → KeepsParameters prog.functions →
    KeepsNamesApart prog

-- the program that a text means keeps names apart
abbrev pub MeantNamesAreApart : Type 0
MeantNamesAreApart = (text : List ℕ) (whole : Module) (prog : Program) → Answers text (Ok whole) →
    Means whole (Ok prog) → KeepsNamesApart prog

-- so does each program that the verifier takes
abbrev pub AcceptedNamesAreApart : Type 0
AcceptedNamesAreApart = (text : List ℕ) (prog : Program) → IsProgramOf text prog → KeepsNamesApart prog
