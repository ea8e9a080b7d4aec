-- Where the cells of a worker's own frames lie: in its segment, the allocas of each frame after those of the frames
-- below it.
use Rattle.std.specs.Prelude.{◌≡◌, ℕ, ◌+◌, ◌<◌, ◌≤◌, ◌≢◌, List, ◌∷◌, false, ℤ, pos}
use Rattle.semantics.specs.Paths.{Path}
use Rattle.semantics.specs.Below.{Under}
use Rattle.semantics.specs.Cells.{Cell, owns}
use Rattle.program.specs.declared.function.Program.{Program}
use Rattle.frame_engine.specs.Shows.{IsIn, Layout}
use Rattle.serial_stack.specs.Layouts.{Ground, end_from, layout_on}
use Rattle.laws_strands.specs.stacks.Strands.{Placed}

-- so many addresses from a start on
pub record Segment : Type 0 where
  pub start : ℕ
  pub count : ℕ

-- a base whose own allocas lie in the layout, and none of which lies in the segment
abbrev pub base_on : Layout → ℕ → Ground
base_on l start = record { layout = l; end = start; holds_last = false }

-- where the next frame's allocas begin
abbrev pub end_above : Program → ℕ → Placed → List Placed → ℕ
end_above prog start t below = end_from start false prog (t ∷ below)

-- the machine's layout with the allocas of the frames above the base
abbrev pub layout_above : Layout → Program → ℕ → Placed → List Placed → Layout
layout_above l prog start t below = layout_on (base_on l start) prog (t ∷ below)

-- the address is none of the segment's
abbrev pub IsOutside : Segment → ℤ → Type 0
IsOutside s a = (n : ℕ) → n < s.count → a ≢ pos (s.start + n)

-- x is a frame that g has still to make, or stands below one
pub record IsToCome (g : Placed) (x : Path) : Type 0 where
  pub child : ℕ
  pub later : g.frame.made ≤ child
  pub under : Under (child ∷ g.path) x

-- no cell of the layout is one of its own
abbrev pub OwnsNone : Layout → Path → Type 0
OwnsNone l x = (c : Cell) → IsIn l c → owns x c.object ≡ false
