-- A strand that fits a run, as one of the definitions that fits the machine that the run shows.
use Rattle.std.proofs.Common.{◌≡◌, ◌∙◌, ℕ, zero, suc, ◌+◌, ◌<◌, List, [], ◌∷◌, length, map, reverse, Some, None, true, refl, sym, ap, subst, arith, ℤ}
use Rattle.std.specs.Prelude.{IsTrue, slice_get}
use Rattle.std.specs.List.{All}
use Rattle.std.proofs.lemmas.List.Elements.{All-cons, All-head, All-nil, All-tail}
use Rattle.std.proofs.lemmas.Option.{same_Some}
use Rattle.semantics.specs.Paths.{Path}
use Rattle.semantics.specs.Cells.{Cell, Memory}
use Rattle.semantics.specs.Frames as frames
use Rattle.semantics.specs.Frames.{item_at}
use Rattle.semantics.specs.State.{may_go}
use Rattle.semantics.specs.Events.{Machine}
use Rattle.semantics.specs.Replay.{replay}
use Rattle.semantics.specs.Sound.{NeverTraps}
use Rattle.program.specs.declared.function.Program.{Program}
use Rattle.program.specs.declared.identifier.FunctionId.{FunctionId}
use Rattle.laws_strands.specs.Footprint.{Write}
use Rattle.laws_strands.specs.Law.{Fits, Happen, absorbed, steps_by}
use Rattle.laws_strands.specs.FrameStrands as frame_strands
use Rattle.laws_strands.specs.FrameStrands.{is_border, next_of}
use Rattle.laws_strands.proofs.Law.{frame_reads_are_there, frame_strands_are_steps}
use Rattle.cactus.specs.declared.node.Node.{Node}
use Rattle.cactus.specs.Frames.{node_at}
use Rattle.frame_engine.specs.Activation.{FrameFits}
use Rattle.frame_engine.proofs.Turns.{there_is}
use Rattle.frame_engine.specs.Flat.{cell_in, is_cell}
use Rattle.frame_engine.specs.Shows.{Layout, IsIn, ShowsCells}
use Rattle.frame_engine.specs.declared.activation.Places.{Places}
use Rattle.frame_engine.specs.declared.turning.Place.{Place}
use Rattle.frame_strand.specs.Alone.{GoesAlone}
use Rattle.frame_strand.specs.Along.{IsAlong, IsGoing, PausesAt}
use Rattle.frame_strand.specs.Showing.{read_of, written_of}
use Rattle.frame_strand.specs.declared.cells.Written.{Written}
use Rattle.frame_strand.specs.declared.outside.FrameStrand.{FrameStrand}
use Rattle.frame_strand.specs.declared.standing.FrameStrandPause.TheVariants.{Border}
use Rattle.frame_strand.proofs.Beginning.{copy_back, copy_shows}
use Rattle.schedule_workers.specs.declared.activation.Activation.{Activation}
use Rattle.schedule_workers.specs.declared.run.Run.{Run}
use Rattle.schedule_workers.specs.Going.{RunsSafely}
use Rattle.schedule_workers.specs.Layouts.{layout_of, object_at}
use Rattle.schedule_workers.specs.RunShown.{IsShown, item_here, place_of}
use Rattle.schedule_workers.proofs.Onward.{free_callee, seen, standing}
use Rattle.schedule_workers.proofs.Standing.{can_step, may_go_on}
use Rattle.schedule_workers.proofs.Views.{hand_seen}
use Rattle.schedule_commit.specs.Absorbing.{GoesAloneIn}
use Rattle.schedule_commit.specs.Fitting.{FitsRun, HoldReads}
use Rattle.schedule_commit.proofs.Absorbed.{same_frame}
use Rattle.schedule_commit.proofs.Bordering.{border_next}
use Rattle.schedule_commit.proofs.Noting.{happen_replay}
use Rattle.schedule_commit.proofs.Sound.{never_traps}

-- a slot has one node
abbrev pub fits_at : (k : Run) (worker slot : ℕ) (x : FrameStrand) → FitsRun k worker x slot → (n : Node Activation) → node_at k.cactus slot ≡ Some n → FitsRun k worker x slot
fits_at k worker slot x fits n stands =
    let same : fits.node ≡ n = same_Some fits.node n (sym fits.stands ∙ stands) in
    record {
      node = n;
      hand = fits.hand;
      stands = stands;
      path = ap (λ (y : Node Activation). y.path.numbers) (sym same) ∙ fits.path;
      frame = (let f = fits.frame in record {
        function = ap (λ (y : Node Activation). y.frame.frame.function) (sym same) ∙ f.function;
        place = ap (λ (y : Node Activation). y.frame.frame.place) (sym same) ∙ f.place;
        registers = ap (λ (y : Node Activation). y.frame.frame.registers.items) (sym same) ∙ f.registers;
        home = ap (λ (y : Node Activation). y.frame.frame.home) (sym same) ∙ f.home;
        made = ap (λ (y : Node Activation). y.frame.frame.made) (sym same) ∙ f.made;
        waits = ap (λ (y : Node Activation). y.frame.frame.waits) (sym same) ∙ f.waits;
        role = ap (λ (y : Node Activation). y.frame.frame.role) (sym same) ∙ f.role;
        depth = ap (λ (y : Node Activation). y.frame.frame.depth) (sym same) ∙ f.depth;
      });
      reads = fits.reads;
    }

-- what was read is what the cells hold
reads_agree : (l : Layout) (row : List ℤ) (m : Memory) → ShowsCells l (is_cell row) (λ a z. cell_in row a ≡ Some z) m → (reads : List (Cell × ℤ)) → HoldReads (map (read_of l) reads) row → All (λ r. (z : ℤ) → m r.0 ≡ Some z → z ≡ r.1) reads
reads_agree l row m shown [] hold = All-nil (λ r. (z : ℤ) → m r.0 ≡ Some z → z ≡ r.1)
reads_agree l row m shown (r ∷ reads) hold =
    All-cons (λ r. (z : ℤ) → m r.0 ≡ Some z → z ≡ r.1) r reads
    (λ z has. same_Some z r.1 (sym (shown.values r.0 z has) ∙ hold 0 (read_of l r) refl))
    (reads_agree l row m shown reads (λ i s at. hold (suc i) s at))

-- what was written is a cell of the row
writes_within : (l : Layout) (row : List ℤ) (m : Memory) → ShowsCells l (is_cell row) (λ a z. cell_in row a ≡ Some z) m → (writes : List (Cell × Write)) → All (λ w. IsIn l w.0) writes → (i : ℕ) (w : Written) → slice_get (map (written_of l) writes) i ≡ Some w → IsTrue (is_cell row w.at)
writes_within l row m shown [] all i w at = absurd cc
writes_within l row m shown (u ∷ writes) all zero w at =
    subst (λ (x : Written). IsTrue (is_cell row x.at)) (same_Some (written_of l u) w at) (shown.reached u.0 (All-head (λ w. IsIn l w.0) u writes all))
writes_within l row m shown (u ∷ writes) all (suc i) w at = writes_within l row m shown writes (All-tail (λ w. IsIn l w.0) u writes all) i w at

module _ (prog : Program) (places : Places) (k : Run) (worker slot : ℕ) (x : FrameStrand) (fits : FitsRun k worker x slot) (going : IsGoing prog places x.course x.pause)
    (m : Machine) (shown : IsShown prog places m k) (safe : RunsSafely prog (length k.hands.items) m) (alone : GoesAloneIn prog m) where
  abbrev node : Node Activation
  node = fits.node

  abbrev p : Path
  p = place_of node

  abbrev pub l : Layout
  l = layout_of prog places k.cactus m.core

  abbrev pub g : frames.Frame
  g = (seen prog places k slot node node.frame fits.stands m shown).frame

  pub hand : m.hands worker ≡ Some p
  hand = shown.shows.hands worker ∙ hand_seen k.cactus k.hands.items worker slot node fits.hand fits.stands

  pub goes : GoesAlone prog places l (reverse x.course.path.items) g x.course.loaded
  goes =
      let s = seen prog places k slot node node.frame fits.stands m shown in
      subst (λ q. GoesAlone prog places l q g x.course.loaded) (ap reverse fits.path)
      (record {
        shown = copy_shows node.frame.frame x.course.loaded (copy_back x.course.loaded node.frame.frame fits.frame) l places p g s.shows.shown;
        apart = shown.shows.cells.apart;
        stays = alone worker p g hand s.is (object_at places k.cactus);
      })

  abbrev pub along : IsAlong prog places l (reverse x.course.path.items) g x.course
  along = going.way.along l g goes

  abbrev pub s : frame_strands.FrameStrand
  s = along.strand

  pub path_is : s.path ≡ p
  path_is = along.path ∙ ap reverse (sym fits.path)

  pub frame_is : m.core.frames s.path ≡ Some s.loaded
  frame_is = ap m.core.frames path_is ∙ ((seen prog places k slot node node.frame fits.stands m shown).is ∙ ap Some (sym along.loaded))

  pub never : NeverTraps prog (length k.hands.items) m
  never = never_traps prog (length k.hands.items) m safe shown.shows.trapped

  pub fits_machine : Fits m worker s
  fits_machine =
      frame_reads_are_there prog (length k.hands.items) m worker s along.is (hand ∙ ap Some (sym path_is)) frame_is never
      (reads_agree l k.cells.cells.items m.core.memory shown.shows.cells s.footprint.reads (subst (λ rs. HoldReads rs k.cells.cells.items) along.shown.footprint.reads fits.reads))

  pub steps : Happen prog (length k.hands.items) (steps_by worker x.course.done) m (absorbed m s)
  steps = subst (λ n. Happen prog (length k.hands.items) (steps_by worker n) m (absorbed m s)) along.shown.done (frame_strands_are_steps prog (length k.hands.items) m worker s along.is fits_machine never).steps

  pub hand_kept : (replay prog (length k.hands.items) (steps_by worker x.course.done) m).hands worker ≡ m.hands worker
  hand_kept = ap (λ (y : Machine). y.hands worker) (happen_replay prog (length k.hands.items) (steps_by worker x.course.done) m (absorbed m s) steps)

  -- ---- what putting it asks for

  pub within : (i : ℕ) (w : Written) → slice_get x.course.cells.writes i ≡ Some w → IsTrue (is_cell k.cells.cells.items w.at)
  within i w at =
      writes_within l k.cells.cells.items m.core.memory shown.shows.cells s.footprint.writes along.shown.footprint.writes_in i w
      (ap (λ ws. slice_get ws i) (sym along.shown.footprint.writes) ∙ at)

  pub function_is : x.course.present.function.0 ≡ node.frame.frame.function.0
  function_is =
      sym along.shown.present.function ∙ ((same_frame prog s along.is).function ∙ (along.shown.loaded.function ∙ sym (ap (λ (y : FunctionId). y.0) fits.frame.function)))

  pub as_many : length x.course.present.registers.items ≡ length node.frame.frame.registers.items
  as_many =
      let own : FrameFits prog node.frame.frame = (shown.agrees.nodes slot node fits.stands).fits in
      let (f, is) = there_is prog.functions node.frame.frame.function.0 own.there in
      going.way.stands.registers f (ap (slice_get prog.functions) function_is ∙ is) ∙ sym (own.registers f is)

  pub room : k.instructions + x.course.done < 18446744073709551616
  room =
      let counted = (safe []).counted in
      let done = shown.shows.done in
      let most = going.way.room in
      omega (arith, counted, done, most)

  pub callee_none : node.frame.callee ≡ None
  callee_none =
      let v = seen prog places k slot node node.frame fits.stands m shown in
      let st = standing prog places k slot node node.frame fits.stands m shown worker fits.hand safe in
      let go = may_go_on prog (length k.hands.items) worker p m g v.is (can_step prog (length k.hands.items) worker p m g m.core.memory st).goes in
      free_callee m.core p g.made k.cactus node node.frame.frame.waits (ap (may_go m.core p g.made) (sym v.shows.waits) ∙ go) (shown.agrees.nodes slot node fits.stands).callee

  -- ---- at a border

  pub border_ahead : x.pause ≡ Some Border → is_border (next_of prog s.present) ≡ true
  border_ahead border = border_next prog l s (subst (λ o. PausesAt prog l s o) border (going.pauses l g goes))

  -- what stands ahead of the loaded frame
  pub loaded_item : item_here prog node.frame.frame ≡ next_of prog s.loaded
  loaded_item =
      let a = along.shown.loaded in
      let f = fits.frame in
      λ i. item_at prog ((ap (λ (y : FunctionId). y.0) f.function ∙ sym a.function) i) ((ap (λ (y : Place). y.block.0) f.place ∙ sym a.block) i) ((ap (λ (y : Place). y.index) f.place ∙ sym a.index) i)
