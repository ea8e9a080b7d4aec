-- A copy of a frame that may go on alone is a strand before its first instruction.
use Rattle.std.proofs.Common.{◌≡◌, ◌≢◌, ℕ, ◌≤◌, ◌<◌, List, [], ◌∷◌, map, refl, ap, sym, ◌∙◌, subst, arith, ℤ, Option, Some, None}
use Rattle.std.specs.Prelude.{length, reverse, slice_get}
use Rattle.std.specs.List.{All}
use Rattle.std.proofs.lemmas.List.Elements.{All-nil}
use Rattle.semantics.specs.Paths.{Path}
use Rattle.semantics.specs.Cells.{Cell}
use Rattle.semantics.specs.Frames.{Frame}
use Rattle.program.specs.declared.function.Program.{Program}
use Rattle.laws_strands.specs.Footprint.{Write, untouched}
use Rattle.laws_strands.specs.FrameStrands as frame_strands
use Rattle.laws_strands.specs.FrameStrands.{IsFrameStrand, is_loaded, pause_of}
use Rattle.frame.specs.Reading.{role_of}
use Rattle.frame_engine.specs.Activation.{FrameFits, ShowsFrame, allocas_of}
use Rattle.frame_engine.specs.Fits.{PlaceFits}
use Rattle.frame_engine.specs.Words.{bases}
use Rattle.frame_engine.specs.Shows.{Layout, IsIn, ShowsBases, ShowsRegisters}
use Rattle.frame_engine.specs.declared.activation.Frame as machine
use Rattle.frame_engine.specs.declared.activation.Places.{Places}
use Rattle.frame_strand.specs.Alone.{GoesAlone}
use Rattle.frame_strand.specs.Along.{IsAlong, IsGoing, IsUnderWay, MayBegin, MayGo}
use Rattle.frame_strand.specs.Buffers.{Buffers}
use Rattle.frame_strand.specs.Showing.{ShowsFootprint, read_of}
use Rattle.frame_strand.specs.Standing.{IsCopy}
use Rattle.frame_strand.specs.declared.cells.Read.{Read}
use Rattle.frame_strand.specs.declared.standing.Course.{Course}
use Rattle.frame_strand.proofs.Pausing.{first_free, stands_free}

-- ---- copies

abbrev pub empty : Buffers
empty = record { reads = []; writes = [] }

pub copied_again : {f g h : machine.Frame} → IsCopy f g → IsCopy g h → IsCopy f h
copied_again first second = record {
  function = second.function ∙ first.function;
  place = second.place ∙ first.place;
  registers = second.registers ∙ first.registers;
  home = second.home ∙ first.home;
  made = second.made ∙ first.made;
  waits = second.waits ∙ first.waits;
  role = second.role ∙ first.role;
  depth = second.depth ∙ first.depth;
}

module _ (f g : machine.Frame) (copy : IsCopy f g) where
  pub copy_back : IsCopy g f
  copy_back = record {
    function = sym copy.function;
    place = sym copy.place;
    registers = sym copy.registers;
    home = sym copy.home;
    made = sym copy.made;
    waits = sym copy.waits;
    role = sym copy.role;
    depth = sym copy.depth;
  }

  pub copy_shows : (l : Layout) (places : Places) (p : Path) (h : Frame) → ShowsFrame l places p h f → ShowsFrame l places p h g
  copy_shows l places p h s = record {
    function = s.function ∙ ap (λ x. x.0) (sym copy.function);
    block = s.block ∙ ap (λ x. x.block.0) (sym copy.place);
    index = s.index ∙ ap (λ x. x.index) (sym copy.place);
    made = s.made ∙ sym copy.made;
    role = s.role ∙ ap role_of (sym copy.role);
    depth = s.depth ∙ sym copy.depth;
    bases = subst (λ b. ShowsBases l b h.home) (λ i. bases places.globals (allocas_of places (sym copy.function i).0) (sym copy.home i)) s.bases;
    registers = subst (ShowsRegisters l h.registers) (sym copy.registers) s.registers;
  }

  pub copy_goes : (prog : Program) (places : Places) (l : Layout) (p : Path) (h : Frame) → GoesAlone prog places l p h f → GoesAlone prog places l p h g
  copy_goes prog places l p h s = record { shown = copy_shows l places p h s.shown; apart = s.apart; stays = s.stays }

  pub copy_fits : (prog : Program) → FrameFits prog f → FrameFits prog g
  copy_fits prog s = record {
    there = subst (λ x. x.0 < length prog.functions) (sym copy.function) s.there;
    registers = λ h e. ap (λ (xs : List ℤ). length xs) copy.registers ∙ s.registers h (ap (λ x. slice_get prog.functions x.0) (sym copy.function) ∙ e);
    place = λ h e. subst (λ x. PlaceFits h.blocks x.block.0 x.index) (sym copy.place) (s.place h (ap (λ x. slice_get prog.functions x.0) (sym copy.function) ∙ e));
  }

-- ---- a strand that was loaded

module _ (prog : Program) (places : Places) (path : List ℕ) (f : machine.Frame) (x : Course) (at : x.path.items ≡ path) (loaded : IsCopy f x.loaded) (present : IsCopy f x.present) (none : x.done ≡ 0) (cells : x.cells ≡ empty) where
  module _ (l : Layout) (g : Frame) (goes : GoesAlone prog places l (reverse x.path.items) g x.loaded) where
    abbrev pub fresh : IsAlong prog places l (reverse x.path.items) g x
    fresh = record {
      strand = frame_strands.loaded (reverse x.path.items) g;
      is = is_loaded (reverse x.path.items) g;
      path = refl;
      loaded = refl;
      shown = record {
        path = refl;
        loaded = goes.shown;
        present = copy_shows f x.present present l places (reverse x.path.items) g (copy_shows x.loaded f (copy_back f x.loaded loaded) l places (reverse x.path.items) g goes.shown);
        done = sym none;
        footprint = record {
          reads = ap (λ (b : Buffers). b.reads) cells;
          writes = ap (λ (b : Buffers). b.writes) cells;
          reads_in = All-nil (λ (r : Cell × ℤ). IsIn l r.0);
          writes_in = All-nil (λ (w : Cell × Write). IsIn l w.0);
        };
      };
    }

  abbrev pub under_way : FrameFits prog f → MayBegin prog places path f → IsUnderWay prog places x
  under_way fits may = record {
    stands = copy_fits f x.present present prog fits;
    room = omega (arith, none);
    started = record {
      layout = may.layout;
      frame = may.frame;
      goes = copy_goes f x.loaded loaded prog places may.layout (reverse x.path.items) may.frame (subst (λ p. GoesAlone prog places may.layout (reverse p) may.frame f) (sym at) may.goes);
    };
    along = fresh;
  }

  no_reads : (l : Layout) (rs : List (Cell × ℤ)) (b : List Read) → b ≡ map (read_of l) rs → b ≡ [] → rs ≡ []
  no_reads l [] b e n = refl
  no_reads l (r ∷ rs) b e n = absurd (let bad = sym n ∙ e in cc)

  -- the same frame did one instruction with no cell read
  pub begun : (y : Course) → y.path.items ≡ path → IsCopy f y.loaded → y.done ≡ 1 → y.cells.reads ≡ [] → FrameFits prog f → MayBegin prog places path f → IsUnderWay prog places y → IsGoing prog places x None
  begun y at' loaded' one unread fits may way = record {
    way = under_way fits may;
    pauses = λ l g goes.
        let goes' : GoesAlone prog places l (reverse y.path.items) g y.loaded =
        copy_goes f y.loaded loaded' prog places l (reverse y.path.items) g
        (copy_goes x.loaded f (copy_back f x.loaded loaded) prog places l (reverse y.path.items) g (subst (λ p. GoesAlone prog places l (reverse p) g x.loaded) (at ∙ sym at') goes)) in
        let a = way.along l g goes' in
        let free = first_free prog a.strand a.is (no_reads l a.strand.footprint.reads y.cells.reads a.shown.footprint.reads unread) (a.shown.done ∙ one) in
        let same : frame_strands.loaded a.strand.path a.strand.loaded ≡ frame_strands.loaded (reverse x.path.items) g = λ i. frame_strands.loaded ((a.path ∙ ap reverse (at' ∙ sym at)) i) (a.loaded i) in
        stands_free prog l (frame_strands.loaded (reverse x.path.items) g) (ap (pause_of prog) (sym same) ∙ free);
  }
