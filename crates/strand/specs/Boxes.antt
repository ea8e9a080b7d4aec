-- How boxes show a strand, as it is published: its frames from the base up.
use Rattle.std.specs.Prelude.{◌≡◌, ◌≤◌, ◌+◌, ⊤, ℕ, List, [], ◌∷◌, reverse, false, ℤ}
use Rattle.semantics.specs.Cells.{Cell}
use Rattle.program.specs.declared.function.Program.{Program}
use Rattle.frame.specs.Reading.{wait_of}
use Rattle.frame_engine.specs.declared.activation.Frame.{Frame}
use Rattle.frame_engine.specs.declared.activation.Places.{Places}
use Rattle.frame_engine.specs.Activation.{FrameFits, ShowsFrame}
use Rattle.frame_engine.specs.Shows.{Layout}
use Rattle.serial_stack.specs.StackShown as serial
use Rattle.serial_stack.specs.StackShown.{HasTaker, unboxed}
use Rattle.laws_strands.specs.stacks.Strands as strands
use Rattle.laws_strands.specs.stacks.Strands.{Placed}
use Rattle.strand.specs.CellsKept.{ShowsKept}
use Rattle.strand.specs.Layouts.{Segment, end_above, layout_above}
use Rattle.strand.specs.Met.{NoneMet}
use Rattle.strand.specs.OwnCells.{segment_of}
use Rattle.strand.specs.declared.strand.Strand.{Strand}

-- ---- frames

-- a function's frame has its allocas from here on, behind those of the frames below it; the base has its own elsewhere
abbrev pub BeginsAt : Program → ℕ → Placed → List Placed → ℤ → Type 0
BeginsAt prog start t [] home = ⊤
BeginsAt prog start t (g ∷ rest) home = serial.BeginsAt t.frame.role home (end_above prog start g rest)

-- the frame shows the one that stands on these
pub record ShowsOn (l : Layout) (prog : Program) (places : Places) (start : ℕ) (t : Placed) (below : List Placed)
    (f : Frame) : Type 0 where
  pub shown : ShowsFrame (layout_above l prog start t below) places t.path t.frame f
  pub fits : FrameFits prog f
  pub waits : t.frame.waits ≡ wait_of f.waits
  pub home : BeginsAt prog start t below f.home

-- the frames below, the nearest first
abbrev pub ShowsBelow : Layout → Program → Places → ℕ → List Placed → List Frame → Type 0
ShowsBelow l prog places start [] [] = ⊤
ShowsBelow l prog places start [] (f ∷ fs) = ⊥
ShowsBelow l prog places start (g ∷ below) [] = ⊥
ShowsBelow l prog places start (g ∷ below) (f ∷ fs) =
    ShowsOn l prog places start g below f × HasTaker f f.waits × ShowsBelow l prog places start below fs

-- ---- a strand

-- The base lies in the layout l of the machine in which it was loaded, the allocas of the frames above it in the
-- segment.
pub record ShowsStrand (l : Layout) (prog : Program) (places : Places) (s : Segment) (d : strands.Strand)
    (x : Strand) : Type 0 where
  pub segment : segment_of x.cells ≡ s
  pub path : d.base.path ≡ reverse x.base.path.items
  pub loaded : ShowsFrame l places d.base.path d.base.frame x.base.frame
  pub top : ShowsOn l prog places s.start d.top d.below x.top.value
  pub below : ShowsBelow l prog places s.start d.below (reverse (unboxed x.below.items))
  pub done : d.done ≡ x.done
  pub deepest : d.deepest ≡ x.deepest
  -- the base passes a sync only where it had no child
  pub synced : x.base.childless ≡ false → d.synced ≡ []
  pub first : Cell → ℤ
  pub kept : ShowsKept l (layout_above l prog s.start d.top d.below) first d.footprint x.cells
  pub met : NoneMet d.footprint d.top d.below
  pub end : x.end ≡ end_above prog s.start d.top d.below
  pub room : end_above prog s.start d.top d.below ≤ s.start + s.count
