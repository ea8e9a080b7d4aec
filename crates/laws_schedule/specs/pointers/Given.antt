-- What is known of the pointers that a frame was given: each step of each frame keeps it.
use Rattle.std.specs.Prelude.{◌≡◌, ℕ, ◌<◌, ◌≤◌, List, length, Option, Some}
use Rattle.linear.specs.declared.form.RegisterId.{RegisterId}
use Rattle.semantics.specs.Paths.{Path}
use Rattle.semantics.specs.Cells.{Shared, Local, Cell}
use Rattle.semantics.specs.Frames.{Pointer, OnCall, Frame}
use Rattle.program.specs.declared.function.Function.{Function}
use Rattle.program.specs.declared.identifier.GlobalId.{GlobalId}
use Rattle.types.specs.Apart.{NamesGlobal, parameters_at}
use Rattle.types.specs.Definitions.{IsFrom}

-- a parameter of the frame holds this cell
pub record IsGiven (functions : List Function) (f : Frame) (x : ℕ) (c : Cell) : Type 0 where
  pub within : x < parameters_at functions f.function
  pub holds : f.registers x ≡ Some (Pointer c)

-- the pointers that a frame was given: first cells of different objects, none an alloca of its own or of a frame below
-- it, and none a global that it names
pub record KnowsGiven (functions : List Function) (p : Path) (f : Frame) : Type 0 where
  pub first : (x : ℕ) (c : Cell) → IsGiven functions f x c → c.index ≡ 0
  pub differ : (x y : ℕ) (c d : Cell) → IsGiven functions f x c → IsGiven functions f y d → c.object ≡ d.object → x ≡ y
  pub foreign : (x : ℕ) (c : Cell) (owner : Path) (n : ℕ) → IsGiven functions f x c → c.object ≡ Local owner n →
      length owner < length f.home
  pub unnamed : (x : ℕ) (c : Cell) (global : GlobalId) → IsGiven functions f x c → c.object ≡ Shared global.0 →
      NamesGlobal functions f.function global → ⊥
  pub at_home : length f.home ≤ length p
  pub awaits : (k : ℕ) (d : Option RegisterId) → f.waits ≡ OnCall k d → IsFrom (parameters_at functions f.function) d
