-- After a strand's frame and writes were put into it, the run shows the machine after the strand's steps.
use Rattle.std.proofs.Common.{◌≡◌, ◌≢◌, ◌∙◌, ℕ, ◌+◌, ◌<◌, length, reverse, Some, inl, inr, refl, sym, ap, subst, arith}
use Rattle.std.specs.Prelude.{slice_get}
use Rattle.std.proofs.lemmas.List.{reverse-reverse}
use Rattle.semantics.specs.Events.{Machine}
use Rattle.semantics.specs.Frames.{item_at}
use Rattle.program.specs.declared.function.Program.{Program}
use Rattle.program.specs.declared.identifier.FunctionId.{FunctionId}
use Rattle.laws_strands.specs.Law.{absorbed, steps_by}
use Rattle.laws_strands.specs.FrameStrands as frame_strands
use Rattle.laws_strands.specs.FrameStrands.{next_of}
use Rattle.frame.specs.declared.frame.Wait.{Wait}
use Rattle.frame.specs.declared.frame.Wait.TheVariants.{Nothing}
use Rattle.frame.specs.Reading.{wait_of}
use Rattle.cactus.specs.declared.node.Node.{Node}
use Rattle.cactus.specs.Lending.{with_frame}
use Rattle.frame_engine.specs.Activation.{ShowsFrame}
use Rattle.frame_engine.specs.Fits.{PlaceFits}
use Rattle.frame_engine.specs.declared.activation.Frame.{Frame}
use Rattle.frame_engine.specs.declared.turning.Place.{Place}
use Rattle.frame_engine.specs.declared.activation.Places.{Places}
use Rattle.frame_engine.specs.declared.flat.Flat.{Flat}
use Rattle.frame_strand.specs.Along.{IsAlong, IsGoing}
use Rattle.frame_strand.specs.declared.outside.FrameStrand.{FrameStrand}
use Rattle.schedule_workers.specs.declared.activation.Activation.{Activation}
use Rattle.schedule_workers.specs.declared.run.Run.{Run}
use Rattle.schedule_workers.specs.Going.{RunsSafely}
use Rattle.schedule_workers.specs.RunShown.{CalleeStands, HasTaker, IsShown, item_here, place_of}
use Rattle.schedule_workers.specs.Stalls.{Blocks, IsStalledIn, StallsAgree, last_blocks}
use Rattle.schedule_workers.proofs.Noted.{ready_free}
use Rattle.schedule_workers.proofs.Onward.{hands_agree}
use Rattle.schedule_workers.proofs.Views.{stood}
use Rattle.schedule_workers.proofs.Written.{FrameWent, HasGoneOn, gone_on, goes_on_shown}
use Rattle.schedule_commit.specs.Absorbing.{GoesAloneIn}
use Rattle.schedule_commit.specs.Fitting.{FitsRun}
use Rattle.schedule_commit.specs.Putting.{IsPutInto}
use Rattle.schedule_commit.proofs.Absorbed.{IsWritten, cells_later, counts, lives, now, off, same_frame, waits_free, written_shows}
use Rattle.schedule_commit.proofs.Fitted.{along, callee_none, fits_machine, frame_is, g, l, never, path_is, s}
use Rattle.schedule_commit.proofs.Noting.{last_off}

module _ (prog : Program) (places : Places) (k : Run) (worker slot : ℕ) (x : FrameStrand) (fits : FitsRun k worker x slot) (going : IsGoing prog places x.course x.pause)
    (m : Machine) (shown : IsShown prog places m k) (safe : RunsSafely prog (length k.hands.items) m) (alone : GoesAloneIn prog m) (more : x.course.done ≢ 0) where
  abbrev node : Node Activation
  node = fits.node

  abbrev t : frame_strands.FrameStrand
  t = s prog places k worker slot x fits going m shown safe alone

  abbrev is_along : IsAlong prog places (l prog places k worker slot x fits going m shown safe alone) (reverse x.course.path.items) (g prog places k worker slot x fits going m shown safe alone) x.course
  is_along = along prog places k worker slot x fits going m shown safe alone

  path : t.path ≡ place_of node
  path = path_is prog places k worker slot x fits going m shown safe alone

  stands : m.core.frames t.path ≡ Some t.loaded
  stands = frame_is prog places k worker slot x fits going m shown safe alone

  abbrev next : Machine
  next = absorbed m t

  module _ (f : Frame) (only : f ≡ record node.frame.frame { place = x.course.present.place; registers = f.registers; waits = Nothing }) (registers : f.registers.items ≡ x.course.present.registers.items) where
    abbrev changed : Activation
    changed = record node.frame { frame = f }

    waits : f.waits ≡ Nothing
    waits = ap (λ (y : Frame). y.waits) only

    place : f.place ≡ x.course.present.place
    place = ap (λ (y : Frame). y.place) only

    written : IsWritten x.course.loaded x.course.present f
    written = record {
      function = ap (λ (y : Frame). y.function) only ∙ fits.frame.function;
      home = ap (λ (y : Frame). y.home) only ∙ fits.frame.home;
      made = ap (λ (y : Frame). y.made) only ∙ fits.frame.made;
      role = ap (λ (y : Frame). y.role) only ∙ fits.frame.role;
      depth = ap (λ (y : Frame). y.depth) only ∙ fits.frame.depth;
      place = place;
      registers = registers;
    }

    shows_frame : ShowsFrame (l prog places k worker slot x fits going m shown safe alone) places (place_of node) t.present f
    shows_frame =
        subst (λ q. ShowsFrame (l prog places k worker slot x fits going m shown safe alone) places q t.present f) path
        (written_shows (l prog places k worker slot x fits going m shown safe alone) places t.path t.loaded t.present x.course.loaded x.course.present f
        (same_frame prog t is_along.is) is_along.shown.loaded is_along.shown.present written)

    function : f.function.0 ≡ x.course.present.function.0
    function =
        ap (λ (y : Frame). y.function.0) only
        ∙ (ap (λ (y : FunctionId). y.0) fits.frame.function ∙ (sym is_along.shown.loaded.function ∙ (sym (same_frame prog t is_along.is).function ∙ is_along.shown.present.function)))

    -- what stands ahead of the frame
    pub put_item : item_here prog f ≡ next_of prog t.present
    put_item =
        let a = is_along.shown.present in
        λ i. item_at prog ((function ∙ sym a.function) i) ((ap (λ (y : Place). y.block.0) place ∙ sym a.block) i) ((ap (λ (y : Place). y.index) place ∙ sym a.index) i)

    went : FrameWent prog places m next k slot node t.present changed
    went = record {
      only = only ∙ (λ i. record node.frame.frame { place = sym place i; registers = f.registers; waits = sym waits i });
      fits = (let st = going.way.stands in record {
        there = subst (λ n. n < length prog.functions) (sym function) st.there;
        registers = λ h is. ap length registers ∙ st.registers h (ap (slice_get prog.functions) (sym function) ∙ is);
        place = λ h is. subst (λ (y : Place). PlaceFits h.blocks y.block.0 y.index) (sym place) (st.place h (ap (slice_get prog.functions) (sym function) ∙ is));
      });
      waits = waits_free prog t is_along.is (λ none. more (sym is_along.shown.done ∙ none)) ∙ ap wait_of (sym waits);
      callee = subst (λ (y : Wait). CalleeStands k.cactus node y node.frame.callee) (sym waits) (callee_none prog places k worker slot x fits going m shown safe alone);
      counts = refl;
      taker = λ h is. subst (λ (y : Wait). HasTaker (length h.registers) y) (sym waits) tt;
    }

    has : HasGoneOn prog places m next k slot node t.present changed
    has = record {
      here = ap next.core.frames (sym path) ∙ now prog m t is_along.is stands;
      elsewhere = λ q away. off prog m t is_along.is stands q (λ e. away (sym path ∙ e));
      peak = refl;
      result = refl;
      sound = shown.shows.trapped;
      living = lives prog m t is_along.is stands;
      counts = counts prog m t is_along.is stands;
    }

    abbrev put_run : Flat → Run
    put_run cells = gone_on prog places m next k slot node t.present changed cells (k.instructions + x.course.done) k.moves k.hands

    pub shown_put : (cells : Flat) → IsPutInto x.course.cells.writes k.cells.cells.items cells.cells.items → IsShown prog places next (put_run cells)
    shown_put cells puts =
        let done : t.done + m.core.done ≡ k.instructions + x.course.done = (let a = is_along.shown.done in let b = shown.shows.done in omega (arith, a, b)) in
        goes_on_shown prog places m next k slot node t.present changed shown fits.stands went has cells (k.instructions + x.course.done) k.moves k.hands
        (hands_agree prog places k slot node node.frame fits.stands m shown next changed shown.shows.hands refl)
        done (omega arith) shows_frame
        (cells_later (l prog places k worker slot x fits going m shown safe alone) t.footprint x.course.cells is_along.shown.footprint m.core.memory k.cells.cells.items cells.cells.items shown.shows.cells puts)

    pub stalls_put : (last : Blocks) → StallsAgree last k.cactus → StallsAgree (last_blocks prog (length k.hands.items) (steps_by worker x.course.done) m last) (with_frame k.cactus slot changed)
    stalls_put last agree s n here =
        elim (stood k.cactus shown.agrees.tree slot node fits.stands changed s n here) [
          | inl h ↦
              subst (λ (y : Node Activation). IsStalledIn (last_blocks prog (length k.hands.items) (steps_by worker x.course.done) m last (place_of y)) y.frame) h.1
              (ready_free changed waits (last_blocks prog (length k.hands.items) (steps_by worker x.course.done) m last (place_of node)))
          | inr h ↦
              let apart : place_of node ≢ place_of n = λ e. h.0 (sym (shown.agrees.tree.distinct slot s node n fits.stands h.1 (sym (reverse-reverse node.path.numbers) ∙ (ap reverse e ∙ reverse-reverse n.path.numbers)))) in
              let off : last_blocks prog (length k.hands.items) (steps_by worker x.course.done) m last (place_of n) ≡ last (place_of n) =
              ap (λ j. last_blocks prog (length k.hands.items) (steps_by worker j) m last (place_of n)) (sym is_along.shown.done)
              ∙ last_off prog (length k.hands.items) m worker (never prog places k worker slot x fits going m shown safe alone) last (place_of n) t is_along.is
              (fits_machine prog places k worker slot x fits going m shown safe alone) (λ e. apart (sym path ∙ e)) in
              subst (λ o. IsStalledIn o n.frame) (sym off) (agree s n h.1)
        ]
