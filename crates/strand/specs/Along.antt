-- What a strand keeps: whatever frame of the definitions its base shows, it is a strand of that frame.
use Rattle.std.specs.Prelude.{◌≡◌, ◌≤◌, ◌<◌, ◌+◌, ℕ, ℤ, List, [], reverse, Some, Bool, false, true}
use Rattle.semantics.specs.Paths.{Path}
use Rattle.semantics.specs.Cells.{Cell, Object}
use Rattle.semantics.specs.Frames.{Frame}
use Rattle.semantics.specs.State.{none_within}
use Rattle.semantics.specs.Events.{Machine}
use Rattle.program.specs.declared.function.Program.{Program}
use Rattle.frame.specs.Reading.{wait_of}
use Rattle.frame_engine.specs.declared.activation.Places.{Places}
use Rattle.frame_engine.specs.declared.activation.Frame as machine
use Rattle.frame_engine.specs.Activation.{ShowsFrame}
use Rattle.frame_engine.specs.Shows.{IsIn, Layout, address}
use Rattle.strand.specs.frame_strand.Showing.{AreApart}
use Rattle.laws_strands.specs.stacks.Strands as strands
use Rattle.laws_strands.specs.stacks.Strands.{IsStrand, at}
use Rattle.strand.specs.Layouts.{IsOutside, Segment, end_above}
use Rattle.strand.specs.OwnCells.{segment_of}
use Rattle.strand.specs.Boxes.{ShowsStrand}
use Rattle.strand.specs.Spans.{ShowsSpan}
use Rattle.strand.specs.Steps.{CanGo}
use Rattle.strand.specs.declared.strand.Strand.{Strand}

-- The machine's frame shows one that may go on as a strand: wherever it comes within 65,536 instructions with no more
-- cells of its own than the segment has, its next steps are safe. Syncs of its own it passes only where it has no
-- child.
pub record GoesAsStrand (prog : Program) (places : Places) (l : Layout) (p : Path) (g : Frame) (f : machine.Frame)
    (childless : Bool) (s : Segment) : Type 0 where
  pub shown : ShowsFrame l places p g f
  pub waits : g.waits ≡ wait_of f.waits
  pub apart : AreApart l
  pub goes : (d : strands.Strand) → IsStrand prog d → d.base ≡ at p g → (childless ≡ false → d.synced ≡ []) →
      end_above prog s.start d.top d.below ≤ s.start + s.count →
      d.done ≤ 65536 → CanGo prog l s d

abbrev pub GoesAsStrandFrom : Program → Places → Layout → Frame → Strand → Type 0
GoesAsStrandFrom prog places l g x =
    GoesAsStrand prog places l (reverse x.base.path.items) g x.base.frame x.base.childless (segment_of x.cells)

-- some frame of the definitions that the loaded one shows that may go on as a strand
pub record MayGo (prog : Program) (places : Places) (x : Strand) : Type 0 where
  pub layout : Layout
  pub frame : Frame
  pub goes : GoesAsStrandFrom prog places layout frame x

-- ---- in windows

-- a strand of the frame g is shown
pub record IsAlong (prog : Program) (places : Places) (l : Layout) (g : Frame) (x : Strand) : Type 0 where
  pub strand : strands.Strand
  pub is : IsStrand prog strand
  pub base : strand.base ≡ at (reverse x.base.path.items) g
  pub shown : ShowsSpan l prog places (segment_of x.cells) strand x

-- a base is loaded, and whatever frame of the definitions it shows, it is a strand of that frame
pub record IsUnderWay (prog : Program) (places : Places) (x : Strand) : Type 0 where
  pub started : MayGo prog places x
  pub short : x.done ≤ 65536
  pub along : (l : Layout) (g : Frame) → GoesAsStrandFrom prog places l g x → IsAlong prog places l g x

-- ---- in boxes, as it is published

-- a strand of the frame g is shown
pub record IsAlongSettled (prog : Program) (places : Places) (l : Layout) (g : Frame) (x : Strand) : Type 0 where
  pub strand : strands.Strand
  pub is : IsStrand prog strand
  pub base : strand.base ≡ at (reverse x.base.path.items) g
  pub shown : ShowsStrand l prog places (segment_of x.cells) strand x

-- so is a strand whose frames were written into boxes since it went on last
pub record IsSettled (prog : Program) (places : Places) (x : Strand) : Type 0 where
  pub started : MayGo prog places x
  pub short : x.done ≤ 65536
  pub along : (l : Layout) (g : Frame) → GoesAsStrandFrom prog places l g x → IsAlongSettled prog places l g x

-- ---- before it is loaded

-- some frame of the definitions that the machine's shows may go on as a strand; the root's number is first in its path
pub record MayBegin (prog : Program) (places : Places) (path : List ℕ) (f : machine.Frame) (childless : Bool)
    (s : Segment) : Type 0 where
  pub layout : Layout
  pub frame : Frame
  pub goes : GoesAsStrand prog places layout (reverse path) frame f childless s

-- no cell of the layout has an address of the segment's, and these are numbers of 63 bits
pub record IsLent (l : Layout) (s : Segment) : Type 0 where
  pub apart : AreApart l
  pub outside : (c : Cell) → IsIn l c → IsOutside s (address l c)
  pub small : s.start + s.count < 9223372036854775808

-- A worker's frame may be loaded, whichever of the machine's frames shows it, and wherever the objects begin whose
-- cells live, apart from each other and from the segment. Where it is said to be childless, none of its children lives.
abbrev pub LoadsGoAsStrands : Program → Places → (Object → ℕ) → Machine → Type 0
LoadsGoAsStrands prog places living m =
    (begins : Object → ℤ) (s : Segment) → IsLent (record { at = begins; cells = living }) s →
    (worker : ℕ) (p : Path) (g : Frame) (f : machine.Frame) → m.hands worker ≡ Some p →
    m.core.frames p ≡ Some g → ShowsFrame (record { at = begins; cells = living }) places p g f →
    g.waits ≡ wait_of f.waits →
    (childless : Bool) → (childless ≡ true → (region : ℕ) → none_within m.core p g.made region ≡ true) →
    GoesAsStrand prog places (record { at = begins; cells = living }) p g f childless s
