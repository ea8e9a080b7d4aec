-- What a strand keeps: whatever frame of the definitions its loaded one shows, it stands as that frame's strand.
use Rattle.std.specs.Prelude.{◌≡◌, ◌≢◌, ⊤, ℕ, ◌≤◌, List, length, reverse, Option, Some, slice_get, vec_capacity}
use Rattle.std.specs.Option.{option_map}
use Rattle.semantics.specs.Paths.{Path}
use Rattle.semantics.specs.Frames.{Frame}
use Rattle.laws_strands.specs.FrameStrands as frame_strands
use Rattle.laws_strands.specs.FrameStrands.{IsFrameStrand, pause_of}
use Rattle.program.specs.declared.function.Function.{Function}
use Rattle.program.specs.declared.function.Program.{Program}
use Rattle.frame_engine.specs.Activation.{FrameFits, ProgramFits}
use Rattle.frame_engine.specs.Shows.{Layout, IsIn, address}
use Rattle.frame_engine.specs.declared.activation.Frame as machine
use Rattle.frame_engine.specs.declared.activation.Places.{Places}
use Rattle.frame_strand.specs.Alone.{GoesAlone}
use Rattle.frame_strand.specs.Standing.{ShowsFrameStrand}
use Rattle.frame_strand.specs.declared.standing.Course.{Course}
use Rattle.frame_strand.specs.declared.standing.FrameStrandPause.{FrameStrandPause}
use Rattle.frame_strand.specs.declared.standing.FrameStrandPause.TheVariants.{Blank, Border, Limit, Full, Need}

-- as many registers as the largest function has
abbrev pub HasRegisters : Program → ℕ → Type 0
HasRegisters prog n = (k : ℕ) (f : Function) → slice_get prog.functions k ≡ Some f → length f.registers ≤ n

-- the pause, its cell by address
abbrev pub pause_in : Layout → frame_strands.Pause → FrameStrandPause
pause_in l frame_strands.Blank = Blank
pause_in l frame_strands.Border = Border
pause_in l frame_strands.Limit = Limit
pause_in l frame_strands.Full = Full
pause_in l (frame_strands.Need c) = Need (address l c)

-- the cell that is waited for is one of a living object
abbrev pub NeedsLiving : Layout → Option frame_strands.Pause → Type 0
NeedsLiving l (Some (frame_strands.Need c)) = IsIn l c
NeedsLiving l other = ⊤

-- the strand stands at this pause; None where it can go on
pub record PausesAt (prog : Program) (l : Layout) (s : frame_strands.FrameStrand) (pause : Option FrameStrandPause)
    : Type 0 where
  pub is : option_map (pause_in l) (pause_of prog s) ≡ pause
  pub living : NeedsLiving l (pause_of prog s)

-- a strand of the frame g, loaded at p, is shown
pub record IsAlong (prog : Program) (places : Places) (l : Layout) (p : Path) (g : Frame) (x : Course) : Type 0 where
  pub strand : frame_strands.FrameStrand
  pub is : IsFrameStrand prog strand
  pub path : strand.path ≡ p
  pub loaded : strand.loaded ≡ g
  pub shown : ShowsFrameStrand l places strand x

-- some frame of the definitions that the loaded one shows may go on alone
pub record MayGo (prog : Program) (places : Places) (x : Course) : Type 0 where
  pub layout : Layout
  pub frame : Frame
  pub goes : GoesAlone prog places layout (reverse x.path.items) frame x.loaded

-- the same of a frame that is to be loaded, the root's number first in its path
pub record MayBegin (prog : Program) (places : Places) (path : List ℕ) (f : machine.Frame) : Type 0 where
  pub layout : Layout
  pub frame : Frame
  pub goes : GoesAlone prog places layout (reverse path) frame f

-- a frame is loaded, and whatever frame of the definitions it shows, the strand is that frame's
pub record IsUnderWay (prog : Program) (places : Places) (x : Course) : Type 0 where
  pub stands : FrameFits prog x.present
  pub room : x.done ≤ 65536
  pub started : MayGo prog places x
  pub along : (l : Layout) (g : Frame) → GoesAlone prog places l (reverse x.path.items) g x.loaded →
      IsAlong prog places l (reverse x.path.items) g x

-- and it stands at this pause
pub record IsGoing (prog : Program) (places : Places) (x : Course) (pause : Option FrameStrandPause) : Type 0 where
  pub way : IsUnderWay prog places x
  pub pauses : (l : Layout) (g : Frame) (goes : GoesAlone prog places l (reverse x.path.items) g x.loaded) →
      PausesAt prog l (way.along l g goes).strand pause

-- room for each frame of the program, and for the moves of its edges
pub record HasRoom (prog : Program) (places : Places) (x : Course) : Type 0 where
  pub fits : ProgramFits prog places (length x.moves.items)
  pub loaded : HasRegisters prog (vec_capacity x.loaded.registers)
  pub present : HasRegisters prog (vec_capacity x.present.registers)

pub record IsFrameStrandKept (prog : Program) (places : Places) (x : Course) (pause : Option FrameStrandPause)
    : Type 0 where
  pub room : HasRoom prog places x
  pub going : pause ≢ Some Blank → IsGoing prog places x pause
