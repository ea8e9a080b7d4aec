-- A strand that is shown, with parts of its machine's exchanged.
use Rattle.program.specs.declared.function.Program.{Program}
use Rattle.frame_engine.specs.Shows.{Layout}
use Rattle.frame_engine.specs.declared.activation.Places.{Places}
use Rattle.laws_strands.specs.stacks.Strands as strands
use Rattle.laws_strands.specs.stacks.Strands.{IsStrand}
use Rattle.strand.specs.Layouts.{Segment}
use Rattle.strand.specs.Spans.{ShowsOwn, ShowsSpan, text_of}
use Rattle.strand.specs.Steps.{CanGo}
use Rattle.strand.specs.declared.cells.StrandCells.{StrandCells}
use Rattle.strand.specs.declared.strand.Strand.{Strand}
use Rattle.strand.proofs.Windows as windows

module _ (l : Layout) (prog : Program) (places : Places) (s : Segment) (d : strands.Strand) (x : Strand) where
  -- other cells that show the same
  pub with_cells : (b : StrandCells) → ShowsSpan l prog places s d x → ShowsOwn l prog s d b x.end → ShowsSpan l prog places s d (record x { cells = b })
  with_cells b h own = record {
    path = h.path;
    loaded = h.loaded;
    done = h.done;
    deepest = h.deepest;
    synced = h.synced;
    own = own;
    allocas = h.allocas;
    windows = h.windows;
    stands = h.stands;
    makers = h.makers;
    made = h.made;
    few = h.few;
    waits = record { past = h.waits.past; first = h.waits.first; behind = h.waits.behind; on = h.waits.on };
  }

  -- as the laws of windows have it
  pub as_windows : IsStrand prog d → (h : ShowsSpan l prog places s d x) → CanGo prog l s d → windows.Stands l s (text_of prog places h.allocas) d x.span.windows x.span.place.pc x.cells x.end
  as_windows is h can = record { shown = record { is = is; windows = h.windows; own = h.own }; can = can }
