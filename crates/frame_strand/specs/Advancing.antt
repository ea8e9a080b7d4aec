-- Where the accesses of plain steps lead a strand of the definitions.
use Rattle.std.specs.Prelude.{◌≡◌, ℕ, ◌+◌, ◌≤◌, Some}
use Rattle.std.specs.List.{All}
use Rattle.semantics.specs.Cells.{Memory}
use Rattle.semantics.specs.Frames.{Frame}
use Rattle.laws_strands.specs.Footprint.{Footprint, put, write_at}
use Rattle.laws_strands.specs.FrameStrands.{FrameStrand, IsFrameStrand}
use Rattle.program.specs.declared.function.Program.{Program}
use Rattle.frame_engine.specs.Shows.{Layout, PlainSteps}
use Rattle.frame_engine.specs.Accesses.{Touched}
use Rattle.frame_strand.specs.Buffers.{Buffers, BuffersDo}
use Rattle.frame_strand.specs.Showing.{AreApart, ShowsFootprint}

-- a memory with the strand's writes
abbrev pub with_writes : Memory → Footprint → Memory
with_writes m f x = put (write_at f x) (m x)

-- the strand went on for n instructions; its frame is this one, and the buffers show its footprint
pub record WentOn (prog : Program) (l : Layout) (s : FrameStrand) (n : ℕ) (g : Frame) (b : Buffers) : Type 0 where
  pub strand : FrameStrand
  pub is : IsFrameStrand prog strand
  pub path : strand.path ≡ s.path
  pub loaded : strand.loaded ≡ s.loaded
  pub present : strand.present ≡ g
  pub done : strand.done ≡ n + s.done
  pub reads : strand.footprint.reads ≡ s.footprint.reads
  pub shown : ShowsFootprint l strand.footprint b

-- A strand whose footprint is shown, and whose frame does plain steps with a memory that holds what the strand read:
-- with what the steps did to the buffers it goes on as a strand.
abbrev pub AccessesAreFrameStrands : Type 0
AccessesAreFrameStrands =
    (prog : Program) (l : Layout) (s : FrameStrand) (b : Buffers) (m : Memory) →
    IsFrameStrand prog s → AreApart l → ShowsFootprint l s.footprint b → All (λ r. m r.0 ≡ Some r.1) s.footprint.reads →
    (n : ℕ) (after : Buffers) (g : Frame) (k : Memory) →
    Touched BuffersDo prog l s.path s.present (with_writes m s.footprint) b n after →
    PlainSteps prog s.path s.present (with_writes m s.footprint) n g k → n + s.done ≤ 65536 →
    WentOn prog l s n g after
