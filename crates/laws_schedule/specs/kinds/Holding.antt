-- What the registers of a frame hold, by their kinds.
use Rattle.std.specs.Prelude.{◌≡◌, ℕ, suc, List, [], ◌∷◌, Option, Some, None, Bool, true, false, ◌&&◌, ◌==◌, slice_get}
use Rattle.std.specs.Prelude.{ℤ}
use Rattle.semantics.specs.Paths.{Path}
use Rattle.semantics.specs.Cells.{Memory}
use Rattle.semantics.specs.Arithmetic.{fits}
use Rattle.semantics.specs.Frames.{Value, Word, Truth, Pointer, Region, Registers, Wait, OnCall}
use Rattle.semantics.specs.Frames.{Frame}
use Rattle.linear.specs.declared.form.RegisterId.{RegisterId}
use Rattle.syntax.specs.declared.operator.Width.{Width}
use Rattle.syntax.specs.declared.operator.Width.TheVariants.{Bits64, Bits32}
use Rattle.program.specs.declared.function.Function.{Function}
use Rattle.program.specs.declared.function.Program.{Program}
use Rattle.program.specs.declared.function.RegisterKind.{RegisterKind}
use Rattle.program.specs.declared.function.RegisterKind.TheVariants as kind
use Rattle.laws_schedule.specs.typing.Kinds.{IsResult}

-- A number of i32 fits its width. One of i64 may come from memory, where a cell holds any number.
abbrev pub is_of_width : Width → ℤ → Bool
is_of_width Bits64 z = true
is_of_width Bits32 z = fits Bits32 z

-- the value is one of the kind; an object is held by its first cell
abbrev pub is_of_kind : RegisterKind → Value → Bool
is_of_kind (kind.Number width) (Word z) = is_of_width width z
is_of_kind kind.Truth (Truth b) = true
is_of_kind kind.Object (Pointer c) = c.index == 0
is_of_kind kind.Element (Pointer c) = true
is_of_kind kind.Region (Region owner) = true
is_of_kind kind value = false

-- a register without a value holds none of another kind
abbrev pub holds_kind : RegisterKind → Option Value → Bool
holds_kind kind None = true
holds_kind kind (Some value) = is_of_kind kind value

-- each register that has a value holds one of its kind
abbrev pub HoldKinds : List RegisterKind → Registers → Type 0
HoldKinds kinds registers = (r : ℕ) (kind : RegisterKind) → slice_get kinds r ≡ Some kind →
    holds_kind kind (registers r) ≡ true

-- so do the registers of the frame's function, and what a call gives goes into one for a number
pub record HasKindedRegisters (prog : Program) (f : Frame) : Type 0 where
  pub holds : (function : Function) → slice_get prog.functions f.function ≡ Some function →
      HoldKinds function.registers f.registers
  pub awaits : (function : Function) → slice_get prog.functions f.function ≡ Some function →
      (k : ℕ) (d : Option RegisterId) → f.waits ≡ OnCall k d →
      IsResult function.registers d

abbrev pub Kinded : Program → Path → Frame → Memory → Type 0
Kinded prog p f m = HasKindedRegisters prog f

-- ---- as a test

-- from the register of this number on
abbrev pub hold_kinds : ℕ → List RegisterKind → Registers → Bool
hold_kinds from [] registers = true
hold_kinds from (kind ∷ kinds) registers = holds_kind kind (registers from) && hold_kinds (suc from) kinds registers

abbrev pub is_wide_number : Option RegisterKind → Bool
is_wide_number (Some (kind.Number Bits64)) = true
is_wide_number other = false

abbrev pub is_result : List RegisterKind → Option RegisterId → Bool
is_result kinds None = true
is_result kinds (Some d) = is_wide_number (slice_get kinds d.0)

abbrev pub awaits_number : List RegisterKind → Wait → Bool
awaits_number kinds (OnCall k d) = is_result kinds d
awaits_number kinds other = true

abbrev pub is_kinded_in : Option Function → Frame → Bool
is_kinded_in None f = true
is_kinded_in (Some function) f = hold_kinds 0 function.registers f.registers && awaits_number function.registers f.waits

abbrev pub is_kinded : Program → Frame → Bool
is_kinded prog f = is_kinded_in (slice_get prog.functions f.function) f
