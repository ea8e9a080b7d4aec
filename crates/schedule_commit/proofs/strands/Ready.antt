-- What a strand that fits a run gives: its writes are cells of the row, and its frames can be counted.
use Rattle.std.proofs.Common.{◌≡◌, ◌≢◌, ◌∙◌, ◌+◌, ◌<◌, ◌≤◌, ℕ, zero, suc, List, [], ◌∷◌, length, reverse, Option, Some, None, Bool, true, false, cond, refl, sym, ap, subst, arith, ℤ}
use Rattle.std.specs.Prelude.{IsTrue, slice_get}
use Rattle.std.proofs.lemmas.List.{length-reverse}
use Rattle.semantics.specs.Paths.{Path}
use Rattle.semantics.specs.State.{State, outside}
use Rattle.semantics.specs.CoreSteps.{children_within}
use Rattle.semantics.specs.Counts.{count_of}
use Rattle.semantics.specs.Events.{Machine}
use Rattle.semantics.proofs.ChildCounts.{count_at}
use Rattle.cactus.specs.Frames.{frame_at}
use Rattle.program.specs.declared.identifier.FunctionId.{FunctionId}
use Rattle.program.specs.declared.function.Program.{Program}
use Rattle.laws_strands.specs.Law.{steps_by}
use Rattle.frame_engine.specs.declared.activation.Frame.{Frame}
use Rattle.frame_engine.specs.declared.activation.Places.{Places}
use Rattle.frame_engine.specs.Flat.{is_cell}
use Rattle.frame_engine.specs.Shows.{Layout}
use Rattle.schedule_commit.specs.frame_strand.declared.cells.Change.{Change}
use Rattle.strand.specs.strand_pages.Tables.{log_of}
use Rattle.schedule_workers.specs.declared.activation.Activation.{Activation}
use Rattle.schedule_workers.specs.declared.run.Run.{Run}
use Rattle.schedule_workers.specs.Scheduling.{counted_in}
use Rattle.schedule_workers.specs.RunShown.{place_of}
use Rattle.schedule_workers.specs.Going.{TextFits}
use Rattle.schedule_workers.proofs.Onward.{seen}
use Rattle.schedule_workers.proofs.Views.{frame_found, hand_seen}
use Rattle.schedule_commit.proofs.Noting.{happen_replay}
use Rattle.schedule_commit.proofs.Sound.{never_traps}
use Rattle.laws_strands.specs.stacks.Strands as strands
use Rattle.laws_strands.specs.stacks.Strands.{IsStrand, Placed, is_advanced, is_called, is_detached, is_filled, is_loaded, is_past_sync, is_reattached, is_returned}
use Rattle.laws_strands.specs.stacks.Law.{absorbed}
use Rattle.laws_strands.proofs.stacks.Law.{strands_are_steps}
use Rattle.strand.specs.Layouts.{end_above}
use Rattle.strand.specs.OwnCells.{segment_of}
use Rattle.strand.specs.Boxes.{ShowsBelow}
use Rattle.strand.proofs.Over.{low_end}
use Rattle.strand.specs.serial_stack.StackShown.{unboxed}
use Rattle.strand.specs.declared.strand.Strand.{Strand}
use Rattle.schedule_commit.specs.strands.Absorbing.{StandsForStrands}
use Rattle.schedule_commit.specs.strands.Committing.{MayCount}
use Rattle.schedule_commit.specs.strands.Fitting.{FitsStrand}
use Rattle.schedule_commit.specs.strands.Linking.{RegionsFit, frames_of}
use Rattle.schedule_commit.proofs.strands.OfRun.{IsStrandOfRun}
use Rattle.frame_engine.proofs.Turns.{there_is}
use Rattle.schedule_commit.proofs.strands.Bases.{as_base}
use Rattle.schedule_commit.proofs.strands.Linked.{length-unboxed}
use Rattle.schedule_commit.proofs.strands.Regions.{base_regions, lowest_frame, regions_fit}

-- what is not nothing is something
some_change : (o : Option Change) → o ≢ None → (u : Change) × (o ≡ Some u)
some_change None there = absurd (there refl)
some_change (Some u) there = (u, refl)

children_most : (s : State) (q : Path) (r n : ℕ) → children_within s q n r ≤ n
children_most s q r zero = omega arith
children_most s q r (suc n) = by (outside r (s.frames (n ∷ q))) (children_most s q r n)
  where
    by : (b : Bool) → children_within s q n r ≤ n → cond b (children_within s q n r) (suc (children_within s q n r)) ≤ suc n
    by true h = omega (arith, h)
    by false h = omega (arith, h)

-- each frame that was made was made by an instruction
pub below_done : (prog : Program) (d : strands.Strand) → IsStrand prog d → length d.below ≤ d.done
below_done prog _ (is_loaded p f) = omega arith
below_done prog _ (is_filled d c v e is act fine reads held read) = below_done prog d is
below_done prog _ (is_advanced d e is act fine holds) = let h = below_done prog d is in omega (arith, h)
below_done prog _ (is_past_sync d region block registers is act) = let h = below_done prog d is in omega (arith, h)
below_done prog _ (is_detached d region body continuation is act) = let h = below_done prog d is in omega (arith, h)
below_done prog _ (is_called d register callee values is act) = let h = below_done prog d is in omega (arith, h)
below_done prog _ (is_reattached d region g rest is act below waits) =
    let h = below_done prog d is in let n : length d.below ≡ suc (length rest) = ap (λ (xs : List Placed). length xs) below in omega (arith, h, n)
below_done prog _ (is_returned d result g rest k register is act below waits) =
    let h = below_done prog d is in let n : length d.below ≡ suc (length rest) = ap (λ (xs : List Placed). length xs) below in omega (arith, h, n)

pub as_many_below : (l : Layout) (prog : Program) (places : Places) (start : ℕ) (gs : List Placed) (fs : List Frame) → ShowsBelow l prog places start gs fs → length gs ≡ length fs
as_many_below l prog places start [] [] shown = refl
as_many_below l prog places start [] (f ∷ fs) shown = absurd shown
as_many_below l prog places start (g ∷ gs) [] shown = absurd shown
as_many_below l prog places start (g ∷ gs) (f ∷ fs) shown = ap suc (as_many_below l prog places start gs fs shown.2)

module _ (prog : Program) (places : Places) (k : Run) (x : Strand) (worker slot : ℕ) (fits : FitsStrand prog k worker x slot) (st : StandsForStrands prog places k) (d : IsStrandOfRun prog places k worker x st.machine) where
  abbrev m : Machine
  m = st.machine

  pub within_row : (a : ℤ) → (log_of x.cells.log).writes a ≢ None → IsTrue (is_cell k.cells.cells.items a)
  within_row a written =
      let (u, found) = some_change ((log_of x.cells.log).writes a) written in
      let (c, inside, is_at) = d.shown.kept.log.written_there a u found in
      subst (λ (a : ℤ). IsTrue (is_cell k.cells.cells.items a)) (sym is_at) (st.shown.shows.cells.reached c inside)

  -- where its own cells end
  end_is : x.end ≡ end_above prog x.cells.start d.strand.top d.strand.below
  end_is = d.shown.end

  pub own_begins : x.cells.start ≤ x.end
  own_begins =
      let same = end_is in
      let low = low_end _ prog (segment_of x.cells) d.strand.base d.can.apart d.can.outside d.can.fresh d.can.small d.strand.top d.strand.below in
      omega (arith, same, low)

  pub own_ends : x.end ≤ x.cells.start + length x.cells.own.items
  own_ends = let same = end_is in let room = d.shown.room in omega (arith, same, room)

  pub counted_after : x.done + m.core.done + 2 < 9223372036854775808
  counted_after =
      let workers = length k.hands.items in
      let never = never_traps prog workers m st.safe st.shown.shows.trapped in
      let steps = (strands_are_steps prog workers m worker d.strand d.is d.fits st.orderly never).steps in
      let counted = (st.safe (steps_by worker d.strand.done)).counted in
      let after : d.strand.done + m.core.done + 2 < 9223372036854775808 =
      subst (λ (n : Machine). n.core.done + 2 < 9223372036854775808) (happen_replay prog workers (steps_by worker d.strand.done) m (absorbed m worker d.strand) steps) counted in
      let same = d.shown.done in
      omega (arith, after, same)

  pub frames_room : k.cactus.made + length x.below.items < 9223372036854775808
  frames_room =
      let after = counted_after in
      let made = st.shown.agrees.made in
      let done = st.shown.shows.done in
      let same = d.shown.done in
      let low = below_done prog d.strand d.is in
      let one = as_many_below _ prog places x.cells.start d.strand.below (reverse (unboxed x.below.items)) d.shown.below in
      let two = length-reverse (unboxed x.below.items) in
      let boxes = length-unboxed x.below.items in
      omega (arith, after, made, done, low, one, two, boxes, same)

  pub steps_room : k.instructions + x.done < 18446744073709551616
  steps_room = let after = counted_after in let done = st.shown.shows.done in omega (arith, after, done)

  counts_room : (a : Activation) → frame_at k.cactus slot ≡ Some a → (region : ℕ) → counted_in a region + 1 < 18446744073709551616
  counts_room a found region =
      let node = fits.node in
      let p = place_of node in
      let v = seen prog places k slot node node.frame fits.stands m st.shown in
      let hand = st.shown.shows.hands worker ∙ hand_seen k.cactus k.hands.items worker slot node fits.hand fits.stands in
      let made = ((st.safe []).steps worker p v.frame hand v.is).made in
      let same : node.frame ≡ a = frame_found k.cactus slot node fits.stands a found in
      let counted : counted_in a region ≡ count_of m.core p region = ap (λ (b : Activation). counted_in b region) (sym same) ∙ st.shown.agrees.counts slot region node fits.stands in
      let children = count_at m.core p v.frame region v.is in
      let most = children_most m.core p region v.frame.made in
      omega (arith, made, counted, children, most)

  module _ (moves : ℕ) (text : TextFits prog places moves) where
    pub above_fit : RegionsFit x
    above_fit = regions_fit _ prog places (segment_of x.cells) moves text d.strand d.is x d.shown

    pub may_count : (a : Activation) → frame_at k.cactus slot ≡ Some a → MayCount x a
    may_count a found = record {
      region = λ f r n at_f is_child.
          let node = fits.node in
          let same = frame_found k.cactus slot node fits.stands a found in
          let own = st.shown.agrees.nodes slot node fits.stands in
          let low = base_regions _ prog places (segment_of x.cells) moves text d.strand d.is x d.shown (length node.frame.counts.items) node.frame.frame.function.0 (ap (λ (z : FunctionId). z.0) fits.frame.function) own.counts f r n at_f is_child in
          subst (λ (b : Activation). r.0 < length b.counts.items) same low;
      room = counts_room a found;
    }

  -- the lowest frame has as many registers as the base
  pub lowest_long : (a : Activation) → frame_at k.cactus slot ≡ Some a → (f : Frame) → slice_get (frames_of x) 0 ≡ Some f → length f.registers.items ≡ length a.frame.registers.items
  lowest_long a found f at =
      let node = fits.node in
      let same = frame_found k.cactus slot node fits.stands a found in
      let own = (st.shown.agrees.nodes slot node fits.stands).fits in
      let low = lowest_frame _ prog places (segment_of x.cells) d.strand d.is x d.shown f at in
      let (y, there) = there_is prog.functions node.frame.frame.function.0 own.there in
      let one : f.function.0 ≡ node.frame.frame.function.0 = sym low.shown.function ∙ ((as_base prog d.strand d.is).function ∙ (d.shown.loaded.function ∙ ap (λ (z : FunctionId). z.0) (sym fits.frame.function))) in
      low.fits.registers y (ap (slice_get prog.functions) one ∙ there) ∙ (sym (own.registers y there) ∙ ap (λ (b : Activation). length b.frame.registers.items) same)
