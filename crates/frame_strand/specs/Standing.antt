-- A strand of the machine, as one of the definitions.
use Rattle.std.specs.Prelude.{◌≡◌, reverse}
use Rattle.laws_strands.specs.FrameStrands as frame_strands
use Rattle.frame_engine.specs.Activation.{ShowsFrame}
use Rattle.frame_engine.specs.Shows.{Layout}
use Rattle.frame_engine.specs.declared.activation.Frame.{Frame}
use Rattle.frame_engine.specs.declared.activation.Places.{Places}
use Rattle.frame_strand.specs.Showing.{ShowsFootprint}
use Rattle.frame_strand.specs.declared.standing.Course.{Course}

-- the same frame, whatever room its registers have
pub record IsCopy (f g : Frame) : Type 0 where
  pub function : g.function ≡ f.function
  pub place : g.place ≡ f.place
  pub registers : g.registers.items ≡ f.registers.items
  pub home : g.home ≡ f.home
  pub made : g.made ≡ f.made
  pub waits : g.waits ≡ f.waits
  pub role : g.role ≡ f.role
  pub depth : g.depth ≡ f.depth

-- the path with the root's number first, both frames in words, and the cells by address
pub record ShowsFrameStrand (l : Layout) (places : Places) (s : frame_strands.FrameStrand) (x : Course) : Type 0 where
  pub path : s.path ≡ reverse x.path.items
  pub loaded : ShowsFrame l places s.path s.loaded x.loaded
  pub present : ShowsFrame l places s.path s.present x.present
  pub done : s.done ≡ x.done
  pub footprint : ShowsFootprint l s.footprint x.cells
