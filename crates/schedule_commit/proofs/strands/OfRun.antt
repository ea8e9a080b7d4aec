-- A strand that fits a run is one of the machine that is shown.
use Rattle.std.proofs.Common.{◌≡◌, ◌≤◌, ◌∙◌, arith, ℕ, List, [], ◌∷◌, length, reverse, Option, Some, None, Bool, true, false, refl, sym, ap, subst}
use Rattle.std.proofs.lemmas.Option.{same_Some}
use Rattle.std.proofs.lemmas.List.Elements.{All-cons, All-nil}
use Rattle.std.specs.List.{All}
use Rattle.semantics.specs.Paths.{Path}
use Rattle.semantics.specs.Frames as frames
use Rattle.semantics.specs.Frames.{OnCall}
use Rattle.semantics.specs.Counts.{count_in}
use Rattle.semantics.specs.State.{State, may_go, none_within}
use Rattle.semantics.specs.Events.{Machine}
use Rattle.semantics.specs.Sound.{NeverTraps}
use Rattle.semantics.proofs.ChildCounts.{counted_none}
use Rattle.program.specs.declared.function.Program.{Program}
use Rattle.cactus.specs.declared.node.Node.{Node}
use Rattle.frame_engine.specs.declared.activation.Places.{Places}
use Rattle.frame_engine.specs.Flat.{cell_in}
use Rattle.frame_engine.specs.Shows.{IsIn, Layout, address}
use Rattle.frame.specs.Reading.{wait_of}
use Rattle.strand.specs.strand_pages.Tables.{log_of}
use Rattle.schedule_commit.proofs.frame_strand.Beginning.{copy_back, copy_shows}
use Rattle.schedule_workers.specs.declared.activation.Activation.{Activation}
use Rattle.schedule_workers.specs.declared.run.Run.{Run}
use Rattle.schedule_workers.specs.Going.{CanGo as CanGoOn, PointsUp, RunsSafely, TextFits}
use Rattle.schedule_workers.specs.Layouts.{layout_of, object_at}
use Rattle.schedule_workers.specs.RunShown.{IsShown, place_of}
use Rattle.schedule_workers.proofs.Lending.{free_outside, free_small}
use Rattle.schedule_workers.proofs.Onward.{free_callee, seen, standing}
use Rattle.schedule_workers.proofs.Standing.{can_step, may_go_on}
use Rattle.schedule_workers.proofs.Views.{hand_seen}
use Rattle.schedule_commit.proofs.Noting.{happen_replay}
use Rattle.schedule_commit.proofs.Sound.{never_traps}
use Rattle.laws_strands.specs.stacks.Strands as strands
use Rattle.laws_strands.specs.stacks.Strands.{IsStrand, Placed}
use Rattle.laws_strands.specs.Law.{steps_by}
use Rattle.laws_strands.specs.stacks.Law.{Fits, IsOrderly, ReadsAgree, Runs, absorbed}
use Rattle.laws_strands.proofs.stacks.Law.{reads_are_there, strands_are_steps}
use Rattle.strand.specs.Along.{GoesAsStrand, IsAlongSettled, IsLent, IsSettled}
use Rattle.strand.specs.OwnCells.{segment_of}
use Rattle.strand.specs.Boxes.{ShowsStrand}
use Rattle.strand.specs.Steps.{CanGo}
use Rattle.strand.specs.declared.strand.Strand.{Strand}
use Rattle.schedule_commit.specs.strands.Absorbing.{GoAsStrandsIn}
use Rattle.schedule_commit.specs.strands.Fitting.{FitsStrand, HasNoChild, segment_block}
use Rattle.schedule_commit.proofs.strands.Bases.{WaitsForNone}

pub record IsStrandOfRun (prog : Program) (places : Places) (k : Run) (worker : ℕ) (x : Strand) (m : Machine) : Type 0 where
  pub strand : strands.Strand
  pub is : IsStrand prog strand
  pub shown : ShowsStrand (layout_of prog places k.cactus m.core) prog places (segment_of x.cells) strand x
  pub can : CanGo prog (layout_of prog places k.cactus m.core) (segment_of x.cells) strand
  pub fits : Fits m worker strand
  -- the base waits for no call
  pub free : WaitsForNone strand.base.frame.waits
  -- what the frames point to does not go before them
  pub points : (q : Path) (f : frames.Frame) → (absorbed m worker strand).core.frames q ≡ Some f → PointsUp q f

-- ---- regions

-- no child lives in the regions that a base passed: it had none, or it passed no sync
all_clear : (s : State) (q : Path) (made : ℕ) (childless : Bool) → (childless ≡ true → (region : ℕ) → none_within s q made region ≡ true) → (synced : List ℕ) → (childless ≡ false → synced ≡ []) →
    All (λ r. none_within s q made r ≡ true) synced
all_clear s q made childless clear [] none = All-nil (λ r. none_within s q made r ≡ true)
all_clear s q made true clear (r ∷ synced) none = All-cons (λ r. none_within s q made r ≡ true) r synced (clear refl r) (all_clear s q made true clear synced (λ e. absurd cc))
all_clear s q made false clear (r ∷ synced) none = absurd (let h : r ∷ synced ≡ [] = none refl in cc)

-- ---- the strand

module _ (prog : Program) (places : Places) (moves : ℕ) (text : TextFits prog places moves) (k : Run) (worker slot : ℕ) (x : Strand) (fits : FitsStrand prog k worker x slot) (way : IsSettled prog places x)
    (m : Machine) (shown : IsShown prog places m k) (safe : RunsSafely prog (length k.hands.items) m) (orderly : IsOrderly m) (loads : GoAsStrandsIn prog places m) where
  abbrev node : Node Activation
  node = fits.node

  abbrev p : Path
  p = place_of node

  abbrev l : Layout
  l = layout_of prog places k.cactus m.core

  abbrev g : frames.Frame
  g = (seen prog places k slot node node.frame fits.stands m shown).frame

  hand : m.hands worker ≡ Some p
  hand = shown.shows.hands worker ∙ hand_seen k.cactus k.hands.items worker slot node fits.hand fits.stands

  -- the counts of the node are those of living children
  none_lives : HasNoChild node.frame → (region : ℕ) → none_within m.core p g.made region ≡ true
  none_lives none region =
      let s = seen prog places k slot node node.frame fits.stands m shown in
      counted_none m.core p region g.made
      (sym (ap (λ (o : Option frames.Frame). count_in m.core p o region) s.is) ∙ (sym (shown.agrees.counts slot region node fits.stands) ∙ none region))

  clear : x.base.childless ≡ true → (region : ℕ) → none_within m.core p g.made region ≡ true
  clear childless = none_lives (fits.childless childless)

  runs_of : (d : strands.Strand) → d.base.path ≡ p → d.base.frame ≡ g → (x.base.childless ≡ false → d.synced ≡ []) → Runs m worker d
  runs_of d path frame synced = record {
    hand = hand ∙ ap Some (sym path);
    frame = ap m.core.frames path ∙ ((seen prog places k slot node node.frame fits.stands m shown).is ∙ ap Some (sym frame));
    synced = all_clear m.core d.base.path d.base.frame.made x.base.childless
        (λ childless region. (λ i. none_within m.core (path i) (frame i).made region) ∙ clear childless region) d.synced synced;
  }

  lent : IsLent l (segment_of x.cells)
  lent = record {
    apart = shown.shows.cells.apart;
    outside = λ c here n low. free_outside prog places moves text k m shown (segment_block x.cells) fits.free c here n low;
    small = free_small prog places moves text k m shown (segment_block x.cells) fits.free;
  }

  goes : GoesAsStrand prog places l (reverse x.base.path.items) g x.base.frame x.base.childless (segment_of x.cells)
  goes =
      let s = seen prog places k slot node node.frame fits.stands m shown in
      subst (λ q. GoesAsStrand prog places l q g x.base.frame x.base.childless (segment_of x.cells)) (ap reverse fits.path)
      (loads (object_at places k.cactus) (segment_of x.cells) lent worker p g x.base.frame hand s.is
      (copy_shows node.frame.frame x.base.frame (copy_back x.base.frame node.frame.frame fits.frame) l places p g s.shows.shown)
      (s.shows.waits ∙ ap wait_of fits.frame.waits) x.base.childless clear)

  abbrev along : IsAlongSettled prog places l g x
  along = way.along l g goes

  goes_on : may_go m.core p g.made g.waits ≡ true
  goes_on =
      let v = seen prog places k slot node node.frame fits.stands m shown in
      let st = standing prog places k slot node node.frame fits.stands m shown worker fits.hand safe in
      may_go_on prog (length k.hands.items) worker p m g v.is (can_step prog (length k.hands.items) worker p m g m.core.memory st).goes

  path_is : along.strand.base.path ≡ p
  path_is = ap (λ (b : Placed). b.path) along.base ∙ ap reverse (sym fits.path)

  frame_is : along.strand.base.frame ≡ g
  frame_is = ap (λ (b : Placed). b.frame) along.base

  runs : Runs m worker along.strand
  runs = runs_of along.strand path_is frame_is along.shown.synced

  reads_agree : ReadsAgree m along.strand
  reads_agree c v z read has =
      let inside : IsIn l c = shown.shows.cells.inside c z has in
      let found : (log_of x.cells.log).reads (address l c) ≡ Some v = sym (along.shown.kept.log.reads c inside) ∙ read in
      let held : cell_in k.cells.cells.items (address l c) ≡ Some v = fits.reads (address l c) v found in
      same_Some z v (sym (shown.shows.cells.values c z has) ∙ held)

  never : NeverTraps prog (length k.hands.items) m
  never = never_traps prog (length k.hands.items) m safe shown.shows.trapped

  there : Fits m worker along.strand
  there = reads_are_there prog (length k.hands.items) m worker along.strand along.is runs orderly never reads_agree

  few : along.strand.done ≤ 65536
  few = let done = along.shown.done in let short = way.short in omega (arith, done, short)

  after : CanGoOn prog (absorbed m worker along.strand)
  after =
      subst (λ (n : Machine). CanGoOn prog n) (happen_replay prog (length k.hands.items) (steps_by worker along.strand.done) m (absorbed m worker along.strand)
      (strands_are_steps prog (length k.hands.items) m worker along.strand along.is there orderly never).steps) (safe (steps_by worker along.strand.done))

  pub strand_of_run : IsStrandOfRun prog places k worker x m
  strand_of_run = record {
    strand = along.strand;
    is = along.is;
    shown = along.shown;
    can = goes.goes along.strand along.is along.base along.shown.synced along.shown.room few;
    fits = there;
    points = after.points;
    free = λ n register e. (let h : may_go m.core p g.made (OnCall n register) ≡ true = ap (may_go m.core p g.made) (sym e ∙ ap (λ (f : frames.Frame). f.waits) frame_is) ∙ goes_on in cc);
  }

  -- nobody calls on it
  pub callee_none : node.frame.callee ≡ None
  callee_none =
      let v = seen prog places k slot node node.frame fits.stands m shown in
      free_callee m.core p g.made k.cactus node node.frame.frame.waits (ap (may_go m.core p g.made) (sym v.shows.waits) ∙ goes_on) (shown.agrees.nodes slot node fits.stands).callee
