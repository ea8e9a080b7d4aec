-- A frame of the board is taken into windows.
use Rattle.std.specs.Prelude.{◌≡◌, ◌<◌, ℕ, [], length}
use Rattle.program.specs.declared.function.Program.{Program}
use Rattle.frame_engine.specs.declared.activation.Frame.{Frame}
use Rattle.frame_engine.specs.declared.activation.Places.{Places}
use Rattle.serial_stack.specs.StackShown.{TextFits}
use Rattle.code_tables.specs.Coded.{segment}
use Rattle.windows.specs.Nested.{window}
use Rattle.windows.specs.Slots.{slot}
use Rattle.window_runs.specs.declared.places.Position.{Position}
use Rattle.strand.specs.declared.span.Span.{Span}

-- what the program names is there
abbrev pub HasText : Program → Places → Type 0
HasText prog places = (moves : ℕ) × TextFits prog places moves

-- where the frame stands if its window is the first
pub record IsPlaceOf (prog : Program) (f : Frame) (place : Position) : Type 0 where
  pub pc : place.pc ≡ slot prog f.function.0 f.place.block.0 f.place.index
  pub end : place.end ≡ length f.registers.items
  pub steps : place.steps ≡ segment prog f.function.0 f.place.block.0 f.place.index

-- the frame is the only one, and stands there
pub record IsAlone (f : Frame) (place : Position) (x : Span) : Type 0 where
  pub base : x.windows.base ≡ 0
  pub home : x.windows.home ≡ f.home
  pub below : x.windows.below.items ≡ []
  pub within : length f.registers.items < length x.windows.row.items
  pub words : window x.windows.row.items 0 (length f.registers.items) ≡ f.registers.items
  pub place_is : x.place ≡ place
  pub more : x.more ≡ 0
  pub synced : x.synced ≡ 0
