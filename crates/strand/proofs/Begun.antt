-- A base that is loaded is a strand that has done nothing yet.
use Rattle.std.proofs.Common.{◌≡◌, ◌<◌, ◌≤◌, ◌+◌, ◌^◌, ℕ, pos, Bool, List, [], length, reverse, refl, ap, sym, ◌∙◌, subst, arith, Some}
use Rattle.std.specs.Prelude.{slice_get}
use Rattle.semantics.specs.Frames as frames
use Rattle.semantics.specs.Frames.{Item, item_at}
use Rattle.semantics.specs.Paths.{Path}
use Rattle.program.specs.declared.function.Function.{Function}
use Rattle.program.specs.declared.function.Program.{Program}
use Rattle.frame.specs.Reading.{wait_of}
use Rattle.frame_engine.specs.declared.activation.Frame.{Frame}
use Rattle.frame_engine.specs.declared.activation.Places.{Places}
use Rattle.frame_engine.specs.Activation.{FrameFits, ShowsFrame, allocas_of}
use Rattle.frame_engine.specs.Fits.{PlaceFits}
use Rattle.frame_engine.specs.Shows.{Layout, ShowsBases, ShowsRegisters}
use Rattle.frame_engine.specs.Words.{bases}
use Rattle.frame_engine.proofs.Turns.{there_is}
use Rattle.serial_stack.specs.StackShown.{TextFits}
use Rattle.code_tables.specs.Coded.{AreTables}
use Rattle.code_tables.specs.declared.tables.Tables.{Tables}
use Rattle.windows.specs.declared.windows.Saved.{Saved}
use Rattle.windows.specs.Nested.{window}
use Rattle.windows.specs.WindowsShown.{ShowsBelow, StandsAt, Text, registers_in, registers_of}
use Rattle.windows.specs.Slots.{slot}
use Rattle.window_runs.specs.Coming.{IsStartOf}
use Rattle.window_runs.specs.Frames.{IsSlot}
use Rattle.window_runs.specs.Standing as standing
use Rattle.window_runs.specs.Standing.{BelowStand}
use Rattle.window_runs.specs.declared.places.Position.{Position}
use Rattle.window_runs.proofs.Segments.{item_in}
use Rattle.window_runs.proofs.Slots.{stands_at, start_slot}
use Rattle.strand.specs.frame_strand.Standing.{IsCopy}
use Rattle.strand.proofs.frame_strand.Beginning.{copy_back, copy_shows}
use Rattle.strand_pages.specs.Logs.{empty_log}
use Rattle.strand_pages.specs.Tables.{log_of}
use Rattle.laws_strands.specs.stacks.Footprint.{untouched}
use Rattle.laws_strands.specs.stacks.Strands.{is_loaded, loaded}
use Rattle.strand.specs.Along.{GoesAsStrand, IsUnderWay, MayBegin}
use Rattle.strand.specs.CellsKept.{ShowsKept, ShowsLog}
use Rattle.strand.specs.Layouts.{Segment, base_on}
use Rattle.strand.specs.Loading.{HasText, IsAlone, IsPlaceOf}
use Rattle.strand.specs.OwnCells.{segment_of}
use Rattle.strand.specs.Spans.{ShowsWindows, text_of}
use Rattle.strand.specs.declared.cells.StrandCells.{StrandCells}
use Rattle.strand.specs.declared.span.Span.{Span}
use Rattle.strand.specs.declared.strand.Strand.{Strand}
use Rattle.strand.proofs.Logged.{empty_log_shown}

pub blank_kept : (l : Layout) (x : StrandCells) (pages : ℕ) → log_of x.log ≡ empty_log pages → ShowsKept l l (λ c. pos 0) untouched x
blank_kept l x pages blank = record {
  log = subst (ShowsLog l untouched) (sym blank) (empty_log_shown l pages);
  own = λ c out here. absurd (out here);
  gone = λ c out. refl;
}

-- ---- where the frame stands

module _ (prog : Program) (places : Places) (n : ℕ) (text : TextFits prog places n) (f : Frame) (fits : FrameFits prog f) where
  abbrev function : (x : Function) × (slice_get prog.functions f.function.0 ≡ Some x)
  function = there_is prog.functions f.function.0 fits.there

  abbrev stands : PlaceFits function.0.blocks f.place.block.0 f.place.index
  stands = fits.place function.0 function.1

  pub place_there : (tables : Tables) → AreTables prog places tables → (start : ℕ) → IsStartOf tables.starts f.function.0 f.place.block.0 f.place.index start → start ≡ slot prog f.function.0 f.place.block.0 f.place.index
  place_there tables are start is = start_slot prog places tables n are text f.function.0 f.place.block.0 f.place.index function.0 function.1 stands start is

  here : (item : Item) × (item_at prog f.function.0 f.place.block.0 f.place.index ≡ Some item)
  here =
      let to = there_is function.0.blocks f.place.block.0 stands.there in
      item_in prog places n text.fits f.function.0 f.place.block.0 f.place.index function.0 to.0 function.1 to.1 (stands.within to.0 to.1)

  -- its registers
  width : registers_in prog f.function.0 ≡ length f.registers.items
  width = ap registers_of function.1 ∙ sym (fits.registers function.0 function.1)

  abbrev t : Text
  t = text_of prog places text.allocas

  module _ (x : Span) (place : Position) (at : IsPlaceOf prog f place) (alone : IsAlone f place x) where
    is_slot : IsSlot t x.place.pc f.function.0 f.place.block.0 f.place.index
    is_slot = record { item = here.0; item_is = here.1; pc_is = ap (λ (p : Position). p.pc) alone.place_is ∙ at.pc }

    pub alone_stands : length f.registers.items < 2 ^ 63 → standing.Stands t x.windows x.place
    alone_stands small =
        let end : x.place.end ≡ length f.registers.items = ap (λ (p : Position). p.end) alone.place_is ∙ at.end in
        let base = alone.base in
        let wide = width in
        record {
          function = f.function.0;
          block = f.place.block.0;
          index = f.place.index;
          at = is_slot;
          steps = ap (λ (p : Position). p.steps) alone.place_is ∙ at.steps;
          end = omega (arith, end, base, wide);
          narrow = omega (arith, small, wide);
          below = subst (λ (xs : List Saved). BelowStand t (reverse xs) x.windows.base) (sym alone.below) tt;
        }

    module _ (l : Layout) (start : ℕ) (p : Path) (g : frames.Frame) (s : ShowsFrame l places p g f) where
      same_width : registers_in prog g.function ≡ length f.registers.items
      same_width = ap (registers_in prog) s.function ∙ width

      there : StandsAt t x.place.pc f.function.0 f.place.block.0 f.place.index
      there = stands_at t n (record { at_is = refl; fits = text }) x.place.pc f.function.0 f.place.block.0 f.place.index is_slot

      pub alone_shown : ShowsWindows l start t (loaded p g) x.windows x.place.pc
      alone_shown =
          let within = alone.within in
          let base = alone.base in
          let wide = same_width in
          record {
            top = record {
              stands = record { place = there.place; is = there.is; function_is = s.function ∙ there.function_is; block_is = s.block ∙ there.block_is; index_is = s.index ∙ there.index_is };
              bases = subst (λ b. ShowsBases l b g.home) (λ i. bases places.globals (allocas_of places (sym s.function i)) (sym alone.home i)) s.bases;
              registers = subst (ShowsRegisters l g.registers) (sym ((λ i. window x.windows.row.items (base i) (wide i)) ∙ alone.words)) s.registers;
              begins = λ held. absurd held;
            };
            within = omega (arith, within, base, wide);
            below = subst (λ (xs : List Saved). ShowsBelow (base_on l start) t x.windows.row.items [] (reverse xs) x.windows.base) (sym alone.below) tt;
          }

-- ---- a base that is loaded

module _ (prog : Program) (places : Places) (f : Frame) (path : List ℕ) (childless : Bool) (s : Segment) (x : Strand) (same_path : x.base.path.items ≡ path) (base : IsCopy f x.base.frame) (is_childless : x.base.childless ≡ childless) (done : x.done ≡ 0) (deepest : x.deepest ≡ 0)
    (same : segment_of x.cells ≡ s) (pages : ℕ) (log : log_of x.cells.log ≡ empty_log pages) (end : x.end ≡ s.start) (place : Position) (at : IsPlaceOf prog f place) (alone : IsAlone f place x.span)
  where
    pub begun : HasText prog places → FrameFits prog f → length f.registers.items < 2 ^ 63 → MayBegin prog places path f childless s → IsUnderWay prog places x
    begun text fits small begins = record {
      short = omega (arith, done);
      started = record {
        layout = begins.layout;
        frame = begins.frame;
        goes = subst (GoesAsStrand prog places begins.layout (reverse x.base.path.items) begins.frame x.base.frame x.base.childless) (sym same) (subst (λ (b : Bool). GoesAsStrand prog places begins.layout (reverse x.base.path.items) begins.frame x.base.frame b s) (sym is_childless)
            (subst (λ (q : List ℕ). GoesAsStrand prog places begins.layout (reverse q) begins.frame x.base.frame childless s) (sym same_path) (record {
              shown = copy_shows f x.base.frame base begins.layout places (reverse path) begins.frame begins.goes.shown;
              waits = begins.goes.waits ∙ ap wait_of (sym base.waits);
              apart = begins.goes.apart;
              goes = begins.goes.goes;
            })));
      };
      along = λ l g goes.
          let room : x.cells.start ≤ x.cells.start + length x.cells.own.items = omega arith in
          let none = alone.synced in
          let more = alone.more in
          let made = goes.shown.made in
          record {
            strand = loaded (reverse x.base.path.items) g;
            is = is_loaded (reverse x.base.path.items) g;
            base = refl;
            shown = record {
              path = refl;
              loaded = goes.shown;
              done = sym done;
              deepest = sym deepest;
              synced = λ some. refl;
              own = record {
                segment = refl;
                first = λ c. pos 0;
                kept = blank_kept l x.cells pages log;
                met = λ y come c mine. (refl, refl);
                end_is = end ∙ sym (ap (λ (t : Segment). t.start) same);
                room = room;
              };
              allocas = text.1.allocas;
              windows = alone_shown prog places text.0 text.1 f fits x.span place at alone l x.cells.start (reverse x.base.path.items) g (copy_shows x.base.frame f (copy_back f x.base.frame base) l places (reverse x.base.path.items) g goes.shown);
              stands = alone_stands prog places text.0 text.1 f fits x.span place at alone small;
              makers = tt;
              made = omega (arith, made, more);
              few = omega (arith, more);
              waits = record {
                past = omega (arith, none);
                first = λ zero. goes.waits;
                behind = λ some. absurd (omega (arith, some, done));
                on = λ some. absurd (omega (arith, some, done));
              };
            };
          };
    }
