-- After a step over a border the strand's cells show it again.
use Rattle.std.proofs.Common.{◌≡◌, ℕ, suc, ◌+◌, ◌≤◌, List, [], ◌∷◌, length, refl, ap, sym, ◌∙◌, subst, arith, true, ℤ, Option}
use Rattle.std.specs.Prelude.{IsSome, sum}
use Rattle.std.proofs.lemmas.Bool.{false_from_ne_true}
use Rattle.linear.specs.declared.form.RegisterId.{RegisterId}
use Rattle.semantics.specs.Paths.{Path}
use Rattle.semantics.specs.Below.{Under, itself}
use Rattle.semantics.specs.Cells.{Cell, Object, Shared, Local, owns}
use Rattle.semantics.specs.Frames as frames
use Rattle.semantics.specs.Frames.{Body, Registers, Role, Value}
use Rattle.semantics.specs.Effect.{Reattach, Return, no_adds}
use Rattle.semantics.specs.State.{called, clears, continued, detached, resumed, synced, waiting}
use Rattle.semantics.proofs.Actions.{reattach_is_child, return_is_body}
use Rattle.semantics.proofs.Places.{same_path_is}
use Rattle.program.specs.declared.function.Program.{Program}
use Rattle.frame_engine.specs.Shows.{IsIn, Layout, address}
use Rattle.serial_stack.specs.Layouts.{alloca_sizes, for_body, with_allocas}
use Rattle.laws_strands.specs.stacks.Footprint.{Footprint, memory_of, with_writes}
use Rattle.laws_strands.specs.stacks.Strands as strands
use Rattle.laws_strands.specs.stacks.Strands.{IsStrand, Placed, at, entered, next_action, past_sync, reattached, returned}
use Rattle.laws_strands.proofs.stacks.Rising.{Rises, rises}
use Rattle.strand.specs.CellsKept.{ShowsKept}
use Rattle.strand.specs.Layouts.{IsToCome, OwnsNone, Segment, end_above, layout_above}
use Rattle.strand.specs.OwnCells.{own_cell}
use Rattle.strand.specs.Met.{NoneMet}
use Rattle.strand.specs.Spans.{ShowsOwn}
use Rattle.strand.specs.Steps.{CanGo}
use Rattle.strand.specs.declared.cells.StrandCells.{StrandCells}
use Rattle.strand.proofs.Calling.{called_kept, first_now}
use Rattle.strand.proofs.Coming.{AreClear, IsClear, all_clear, base_to_come, child_to_come, new_to_come}
use Rattle.strand.proofs.Ending.{cleared_kept, same_writes}
use Rattle.strand.proofs.Over.{LiesOver, lies_over, low_end, one_more, owns_none, room_below, same_end, same_layout}
use Rattle.strand.proofs.Segments.{inside_some}
use Rattle.strand.proofs.Unmet.{comes_above, comes_later, met_again, met_same, met_top, none_met}

module _ (l : Layout) (prog : Program) (s : Segment) (d : strands.Strand) (b : StrandCells) (end : ℕ) (is : IsStrand prog d) (h : ShowsOwn l prog s d b end) (can : CanGo prog l s d) where
  abbrev layout : Layout
  layout = layout_above l prog s.start d.top d.below

  abbrev home : ℕ
  home = end_above prog s.start d.top d.below

  rising : Rises d.base d.top d.below
  rising = rises prog d is

  over : LiesOver l layout s.start home
  over = lies_over l prog s d.base can.apart can.outside can.fresh can.small d.top d.below rising h.room

  -- ---- a new frame

  abbrev new_layout : frames.Frame → frames.Frame → Layout
  new_layout parent child = layout_above l prog s.start (at (d.top.frame.made ∷ d.top.path) child) (at d.top.path parent ∷ d.below)

  abbrev new_end : frames.Frame → frames.Frame → ℕ
  new_end parent child = end_above prog s.start (at (d.top.frame.made ∷ d.top.path) child) (at d.top.path parent ∷ d.below)

  entered_own : (parent child : frames.Frame) → parent.made ≡ suc d.top.frame.made → (first : Cell → ℤ) → ShowsKept l (new_layout parent child) first d.footprint b → (n : ℕ) → n ≡ new_end parent child → n ≤ s.start + s.count → ShowsOwn l prog s (entered d parent child) b n
  entered_own parent child made first kept n end_is room =
      let mine = met_top d.footprint d.top d.below h.met in
      record {
        segment = h.segment;
        first = first;
        kept = kept;
        met = (
          λ y come. mine y (comes_above d.top (at (d.top.frame.made ∷ d.top.path) child) refl y come),
          met_again d.footprint d.top (at d.top.path parent) d.below (comes_later d.top (at d.top.path parent) refl (omega (arith, made))) h.met,
        );
        end_is = end_is;
        room = subst (λ (m : ℕ). m ≤ s.start + s.count) end_is room;
      }

  pub detached_own : (r x c : ℕ) → ShowsOwn l prog s (entered d (continued d.top.frame c) (detached d.top.frame r x c)) b end
  detached_own r x c =
      let layout_same : new_layout (continued d.top.frame c) (detached d.top.frame r x c) ≡ layout = same_layout l prog s.start d.top (at d.top.path (continued d.top.frame c)) d.below refl refl refl in
      let end_same : new_end (continued d.top.frame c) (detached d.top.frame r x c) ≡ home = same_end l prog s.start d.top (at d.top.path (continued d.top.frame c)) d.below refl refl in
      entered_own (continued d.top.frame c) (detached d.top.frame r x c) refl h.first (subst (λ (y : Layout). ShowsKept l y h.first d.footprint b) (sym layout_same) h.kept) end (h.end_is ∙ sym end_same) (subst (λ (m : ℕ). m ≤ s.start + s.count) (sym h.end_is) h.room)

  -- the callee's allocas lie behind those of the frames below it
  module _ (register : Option RegisterId) (callee : ℕ) (values : List Value) (room : end + sum (alloca_sizes prog callee) ≤ s.start + s.count) where
    abbrev path : Path
    path = d.top.frame.made ∷ d.top.path

    abbrev own : List ℕ
    own = alloca_sizes prog callee

    abbrev larger : Layout
    larger = with_allocas path own home layout

    new_path : IsToCome d.base path
    new_path = base_to_come d.base d.top d.below rising path (child_to_come d.top)

    none_own : OwnsNone layout path
    none_own = owns_none l prog s d.base can.apart can.outside can.fresh can.small d.top d.below rising path new_path (omega arith)

    room_here : home + sum own ≤ s.start + s.count
    room_here = subst (λ (m : ℕ). m + sum own ≤ s.start + s.count) h.end_is room

    over_more : LiesOver l larger s.start (home + sum own)
    over_more = one_more l layout s home path own over can.outside none_own (low_end l prog s d.base can.apart can.outside can.fresh can.small d.top d.below) room_here can.small

    there_own : (c : Cell) → (IsIn l c → ⊥) → IsIn larger c → IsSome (own_cell b (address larger c))
    there_own c out here = inside_some b s (address larger c) s.start (home + sum own) h.segment (over_more.own c out here) (omega arith) room_here

    kept_more : ShowsKept l larger (first_now l layout s home path own h.first d.footprint b) d.footprint b
    kept_more = called_kept l layout s home path own h.first d.footprint b none_own (λ c mine. met_top d.footprint d.top d.below h.met path (child_to_come d.top) c mine) there_own h.kept

    pub called_own : ShowsOwn l prog s (entered d (waiting d.top.frame register) (called d.top.path d.top.frame callee values)) b (end + sum own)
    called_own =
        let parent : Placed = at d.top.path (waiting d.top.frame register) in
        let layout_same : layout_above l prog s.start parent d.below ≡ layout = same_layout l prog s.start d.top parent d.below refl refl refl in
        let end_same : end_above prog s.start parent d.below ≡ home = same_end l prog s.start d.top parent d.below refl refl in
        let larger_same : with_allocas path own (end_above prog s.start parent d.below) (layout_above l prog s.start parent d.below) ≡ larger = (λ i. with_allocas path own (end_same i) (layout_same i)) in
        let first = first_now l layout s home path own h.first d.footprint b in
        entered_own (waiting d.top.frame register) (called d.top.path d.top.frame callee values) refl first (subst (λ (y : Layout). ShowsKept l y first d.footprint b) (sym larger_same) kept_more)
        (end + sum own) (ap (λ (m : ℕ). m + sum own) (h.end_is ∙ sym end_same)) room

  -- ---- the frame on top as another of its role and function

  pub synced_own : (region block : ℕ) (registers : Registers) → ShowsOwn l prog s (past_sync d region block registers) b end
  synced_own region block registers =
      let u : Placed = at d.top.path (synced d.top.frame region block registers) in
      let layout_same : layout_above l prog s.start u d.below ≡ layout = same_layout l prog s.start d.top u d.below refl refl refl in
      let end_same : end_above prog s.start u d.below ≡ home = same_end l prog s.start d.top u d.below refl refl in
      record {
        segment = h.segment;
        first = h.first;
        kept = subst (λ (k : Layout). ShowsKept l k h.first d.footprint b) (sym layout_same) h.kept;
        met = met_same d.footprint d.top u d.below refl refl h.met;
        end_is = h.end_is ∙ sym end_same;
        room = subst (λ (m : ℕ). m ≤ s.start + s.count) (sym end_same) h.room;
      }

  -- ---- a frame that is over

  module _ (g : Placed) (rest : List Placed) (below : d.below ≡ g ∷ rest) where
    rises_here : Rises d.base d.top (g ∷ rest)
    rises_here = subst (Rises d.base d.top) below rising

    abbrev low : Layout
    low = layout_above l prog s.start g rest

    abbrev low_home : ℕ
    low_home = end_above prog s.start g rest

    room_low : low_home ≤ s.start + s.count
    room_low = room_below l prog s d.base can.apart can.outside can.fresh can.small d.top g rest (s.start + s.count) (subst (λ (q : List Placed). end_above prog s.start d.top q ≤ s.start + s.count) below h.room)

    pub reattached_own : (region : ℕ) → next_action prog d ≡ Reattach region → ShowsOwn l prog s (reattached d g rest) b end
    reattached_own region act =
        let child = reattach_is_child prog d.top.path d.top.frame (memory_of d.footprint) region act in
        let layout_same : layout ≡ low =
        ap (layout_above l prog s.start d.top) below ∙ ap (λ (q : Role). for_body q (with_allocas d.top.path (alloca_sizes prog d.top.frame.function) low_home low) low) child.1 in
        let end_same : home ≡ low_home =
        ap (end_above prog s.start d.top) below ∙ ap (λ (q : Role). for_body q (low_home + sum (alloca_sizes prog d.top.frame.function)) low_home) child.1 in
        record {
          segment = h.segment;
          first = h.first;
          kept = subst (λ (k : Layout). ShowsKept l k h.first d.footprint b) layout_same h.kept;
          met = (subst (NoneMet d.footprint d.top) below h.met).1;
          end_is = h.end_is ∙ end_same;
          room = room_low;
        }

    abbrev gone : Footprint
    gone = with_writes d.footprint (clears d.top.path) no_adds

    over_low : LiesOver l low s.start low_home
    over_low = lies_over l prog s d.base can.apart can.outside can.fresh can.small g rest rises_here.4 room_low

    none_low : OwnsNone low d.top.path
    none_low =
        let up : length d.top.path ≡ suc (length g.path) = ap (λ (q : Path). length q) rises_here.1 in
        owns_none l prog s d.base can.apart can.outside can.fresh can.small g rest rises_here.4 d.top.path (new_to_come d.base d.top.path rises_here.3) (omega (arith, up))

    others : (y : Cell) → (owns d.top.path y.object ≡ true → ⊥) → (gone.reads y ≡ d.footprint.reads y) × (gone.writes y ≡ d.footprint.writes y)
    others y not = (refl, same_writes l low h.first d.footprint b d.top.path [] 0 over_low.kept none_low y (false_from_ne_true (owns d.top.path y.object) not))

    same_owner : (o : Object) (y z : Path) → owns y o ≡ true → owns z o ≡ true → y ≡ z
    same_owner (Shared n) y z p q = absurd cc
    same_owner (Local owner n) y z p q = same_path_is y owner p ∙ sym (same_path_is z owner q)

    -- a frame to come is not the one that is over
    out : (t : Placed) → IsClear d.top.path t → (y : Path) → IsToCome t y → IsToCome d.base y → (c : Cell) → owns y c.object ≡ true → owns d.top.path c.object ≡ true → ⊥
    out t clear y come new c mine over_is = clear y come (subst (λ (q : Path). Under q d.top.path) (same_owner c.object d.top.path y over_is mine) itself)

    met_low : NoneMet gone g rest
    met_low =
        none_met d.footprint gone (λ c. owns d.top.path c.object ≡ true) others d.base d.top.path out g rest rises_here.4 (subst (AreClear d.top.path d.top) below (all_clear d.base d.top d.below rising)).1
        (subst (NoneMet d.footprint d.top) below h.met).1

    pub returned_own : (result : Option ℤ) → next_action prog d ≡ Return result → (register : Option RegisterId) → ShowsOwn l prog s (returned d g rest register result) b low_home
    returned_own result act register =
        let body : d.top.frame.role ≡ Body = return_is_body prog d.top.path d.top.frame (memory_of d.footprint) result act in
        let high = with_allocas d.top.path (alloca_sizes prog d.top.frame.function) low_home low in
        let kept_high : ShowsKept l high h.first d.footprint b =
        subst (λ (r : Role). ShowsKept l (for_body r high low) h.first d.footprint b) body (subst (λ (q : List Placed). ShowsKept l (layout_above l prog s.start d.top q) h.first d.footprint b) below h.kept) in
        let u : Placed = at g.path (resumed g.frame register result) in
        let layout_same : layout_above l prog s.start u rest ≡ low = same_layout l prog s.start g u rest refl refl refl in
        let end_same : end_above prog s.start u rest ≡ low_home = same_end l prog s.start g u rest refl refl in
        record {
          segment = h.segment;
          first = h.first;
          kept = subst (λ (k : Layout). ShowsKept l k h.first gone b) (sym layout_same)
              (cleared_kept l low h.first d.footprint b d.top.path (alloca_sizes prog d.top.frame.function) low_home over_low.kept none_low kept_high);
          met = met_same gone g u rest refl refl met_low;
          end_is = sym end_same;
          room = subst (λ (m : ℕ). m ≤ s.start + s.count) (sym end_same) room_low;
        }
