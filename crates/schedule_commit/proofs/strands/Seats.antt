-- What the scheduler knows of each frame that a commit puts on the board, before each knows the slot of its callee.
use Rattle.std.proofs.Common.{◌≡◌, ◌≢◌, ◌∙◌, ◌+◌, ◌-◌, ◌<◌, ℕ, List, [], ◌∷◌, ◌++◌, length, reverse, Option, Some, None, inl, inr, eq-eqb, refl, sym, ap, subst, arith, ℤ, ◌+ℤ◌}
use Rattle.std.specs.Prelude.{slice_get}
use Rattle.std.proofs.lemmas.Bool.Decides.{eqb_tells}
use Rattle.std.proofs.lemmas.List.{reverse-append, reverse-reverse}
use Rattle.std.proofs.lemmas.Option.{same_Some}
use Rattle.semantics.specs.Paths.{Path}
use Rattle.semantics.specs.Cells.{Local}
use Rattle.semantics.specs.Frames as frames
use Rattle.semantics.specs.Frames.{OnCall}
use Rattle.semantics.specs.Counts.{count_of}
use Rattle.semantics.specs.Events.{Machine}
use Rattle.program.specs.declared.identifier.FunctionId.{FunctionId}
use Rattle.program.specs.declared.function.Function.{Function}
use Rattle.program.specs.declared.function.Program.{Program}
use Rattle.frame.specs.declared.frame.Role.{Role}
use Rattle.frame.specs.declared.frame.Role.TheVariants as role
use Rattle.frame.specs.Reading.{role_of, wait_of}
use Rattle.cactus.specs.declared.node.Node.{Node}
use Rattle.cactus.specs.Frames.{node_at}
use Rattle.cactus.specs.ByPath.{named}
use Rattle.frame_engine.specs.declared.activation.Frame.{Frame}
use Rattle.frame_engine.specs.declared.turning.Place.{Place}
use Rattle.frame_engine.specs.declared.activation.Places.{Places}
use Rattle.frame_engine.specs.Activation.{FrameFits, ShowsFrame, allocas_of, bases_in}
use Rattle.frame_engine.specs.Fits.{PlaceFits}
use Rattle.frame_engine.specs.Shows.{Layout, ShowsBases, ShowsRegisters}
use Rattle.frame_engine.specs.Words.{bases}
use Rattle.schedule_commit.specs.frame_strand.Standing.{IsCopy}
use Rattle.schedule_commit.proofs.frame_strand.Beginning.{copy_fits, copy_shows}
use Rattle.schedule_workers.specs.declared.activation.Activation.{Activation}
use Rattle.schedule_workers.specs.declared.run.Run.{Run}
use Rattle.schedule_workers.specs.declared.run.Block.{Block}
use Rattle.schedule_workers.specs.Layouts.{alloca_at, number_in, own_at}
use Rattle.schedule_workers.specs.Lent.{IsFree}
use Rattle.schedule_workers.specs.Scheduling.{counted_in, hand_of}
use Rattle.schedule_workers.specs.RunShown.{HasBlock, IsBlockOf, IsPlaced, IsShown, LiesWithin, ShowsAt, ShowsNode, cells_in, place_of}
use Rattle.schedule_workers.proofs.Handing.{own_hand}
use Rattle.schedule_workers.proofs.Lengths.{not_there}
use Rattle.schedule_workers.proofs.Views.{hand_seen, named_at_place}
use Rattle.laws_strands.specs.stacks.Strands.{Placed}
use Rattle.laws_strands.specs.stacks.Law.{counts_in, no_count}
use Rattle.schedule_commit.specs.strands.Committing.{IsBase, runner_under}
use Rattle.schedule_commit.specs.strands.Fitting.{FitsStrand, segment_block}
use Rattle.schedule_commit.specs.strands.Linking.{IsActivation, counted_above, counted_of, frames_of, runner_below}
use Rattle.schedule_commit.proofs.strands.Bases.{IsAsBase}
use Rattle.schedule_commit.proofs.strands.Climbing.{IsNext, IsOn, LiesIn}
use Rattle.schedule_commit.proofs.strands.OfRun.{IsStrandOfRun}
use Rattle.schedule_commit.proofs.strands.Linked.{head_of}
use Rattle.strand.specs.OwnCells.{segment_of}
use Rattle.strand.specs.declared.cells.StrandCells.{StrandCells}
use Rattle.strand.specs.declared.strand.Strand.{Strand}

-- ---- small things

-- a frame counts as the definitions have it
pub role_counts : (r : Role) (region : ℕ) → counts_in (role_of r) region ≡ counted_of r region
role_counts role.Body region = refl
role_counts (role.Child named continuation) region =
    elim (eqb_tells named.0 region) [
      | inl h ↦ rw (h.0, eq-eqb region named.0 (sym h.1)) refl
      | inr h ↦ elim (eqb_tells region named.0) [ inl e ↦ absurd (h.1 (sym e.1)) | inr e ↦ rw (h.0, e.0) refl ]
    ]

runner_is : (o : Option Frame) (worker : ℕ) → runner_under o (Some worker) ≡ runner_below worker o
runner_is None worker = refl
runner_is (Some f) worker = refl

pub unnamed : (l : Layout) (places : Places) (q : Path) (o : Option frames.Frame) (n : Option (Node Activation)) → o ≡ None → ShowsAt l places q o n → n ≡ None
unnamed l places q None None e h = refl
unnamed l places q None (Some node) e h = absurd h
unnamed l places q (Some g) n e h = absurd cc

module _ (prog : Program) (places : Places) (k : Run) (m : Machine) (shown : IsShown prog places m k) (worker : ℕ) (to : Layout) where
  pub record Seat (above : Option Frame) (older : ℕ → ℕ) (t : Placed) (f : Frame) (s : ℕ) (path : List ℕ) (a : Activation) : Type 0 where
    pub place : path ≡ reverse t.path
    pub shows : ShowsNode to places t.path t.frame a.frame
    pub fits : FrameFits prog a.frame
    pub waits : a.frame.waits ≡ f.waits
    pub callee : a.callee ≡ None
    pub runner : a.runner ≡ runner_below worker above
    pub counts : (r : ℕ) → counted_in a r ≡ counted_above above r + older r
    pub as_many : (g : Function) → slice_get prog.functions a.frame.function.0 ≡ Some g → length a.counts.items ≡ length g.registers
    pub unheld : (v : ℕ) → worker ≢ v → hand_of k.hands.items v ≢ Some s
    pub at : (i : ℕ) → own_at a.frame.role (a.frame.home +ℤ number_in (allocas_of places a.frame.function.0) i) ≡ to.at (Local t.path i)
    pub block : HasBlock prog k.blocks.items k.lent s a.frame

  -- ---- a frame above the base

  module _ (x : StrandCells) (free : IsFree prog k (segment_block x)) where
    lent_block : (h : Frame) (s : ℕ) (a : Frame) → IsCopy h a → LiesIn prog (segment_of x) h → 0 < cells_in (slice_get prog.functions a.function.0) → (b : Block) × IsPlaced k.blocks.items k.lent s b × IsBlockOf prog a b
    lent_block h s a copy lies some =
        let low = lies.after in
        let same : cells_in (slice_get prog.functions a.function.0) ≡ cells_in (slice_get prog.functions h.function.0) = ap (λ (y : FunctionId). cells_in (slice_get prog.functions y.0)) copy.function in
        let high = lies.before in
        let within : LiesWithin k.lent (segment_block x) = (free.vacant (omega (arith, some, same, low, high))).within in
        let from = within.0 in
        let to_end = within.1 in (
          record { start = lies.home; cells = cells_in (slice_get prog.functions a.function.0) },
          inr (omega (arith, from, low), omega (arith, same, high, to_end)),
          record { home = copy.home ∙ lies.is; room = omega arith },
        )

    pub seat_up : (m2 : Machine) (t g : Placed) (f h : Frame) (above : Option Frame) (s : ℕ) (path below : List ℕ) (a : Activation) → IsOn prog places to (segment_of x) m.core m2.core g h → IsNext prog places to (segment_of x) m.core m2.core t g f h →
        IsActivation worker h above a → below ≡ reverse t.path → path ≡ below ++ (f.made - 1) ∷ [] → node_at k.cactus s ≡ None → Seat above no_count g h s path a
    seat_up m2 t g f h above s path below a on next is under path_is free_slot =
        let fits = copy_fits h a.frame is.copy prog on.shows.fits in
        record {
          place = path_is ∙ (ap (λ (ns : List ℕ). ns ++ (f.made - 1) ∷ []) under ∙ (sym (reverse-append ((f.made - 1) ∷ []) t.path) ∙ ap reverse (sym next.path)));
          shows = record {
            shown = copy_shows h a.frame is.copy to places g.path g.frame on.shows.shown;
            waits = on.shows.waits ∙ ap wait_of (sym is.copy.waits);
          };
          fits = fits;
          waits = is.copy.waits;
          callee = is.callee;
          runner = is.runner;
          counts = λ r. (let c = is.counts r in omega (arith, c));
          as_many = λ y there. is.as_many ∙ (ap (λ zs. length zs) (sym is.copy.registers) ∙ fits.registers y there);
          unheld = λ v differ e. not_there k.cactus s free_slot (shown.agrees.held v s e);
          at = λ i. (λ j. own_at (is.copy.role j) (is.copy.home j +ℤ number_in (allocas_of places (ap (λ (y : FunctionId). y.0) is.copy.function j)) i)) ∙ next.at i;
          block = λ body some. lent_block h s a.frame is.copy (next.lies (sym is.copy.role ∙ body)) some;
        }

  -- ---- the base

  module _ (slot : ℕ) (x : Strand) (fits : FitsStrand prog k worker x slot) (within : worker < length k.hands.items) (d : IsStrandOfRun prog places k worker x m) (callee_none : fits.node.frame.callee ≡ None)
      (base : Activation) (is : IsBase x fits.node.frame base) (low : Placed) (f : Frame) (hs : List Frame) (all : frames_of x ≡ f ∷ hs) (path : low.path ≡ d.strand.base.path) (like : IsAsBase d.strand.base low) (m2 : Machine)
      (on : IsOn prog places to (segment_of x.cells) m.core m2.core low f) (loaded : ShowsFrame to places d.strand.base.path d.strand.base.frame x.base.frame)
      (stays : (i : ℕ) → to.at (Local low.path i) ≡ alloca_at places (named k.cactus (reverse low.path)) i)
    where
      abbrev node : Node Activation
      node = fits.node

      abbrev old : Frame
      old = node.frame.frame

      frame_is : is.frame ≡ f
      frame_is = same_Some is.frame f (sym is.there ∙ ap (λ (fs : List Frame). slice_get fs 0) all)

      above_is : slice_get (frames_of x) 1 ≡ head_of hs
      above_is = ap (λ (fs : List Frame). slice_get fs 1) all ∙ first hs
        where
          first : (fs : List Frame) → slice_get fs 0 ≡ head_of fs
          first [] = refl
          first (g ∷ fs) = refl

      same_place : low.path ≡ place_of node
      same_place =
          let there : Some d.strand.base.path ≡ Some (place_of node) = sym d.fits.runs.hand ∙ hand_here in
          path ∙ same_Some d.strand.base.path (place_of node) there
        where
          hand_here : m.hands worker ≡ Some (place_of node)
          hand_here = shown.shows.hands worker ∙ hand_seen k.cactus k.hands.items worker slot node fits.hand fits.stands

      named_low : named k.cactus (reverse low.path) ≡ Some node
      named_low = ap (λ (q : Path). named k.cactus (reverse q)) same_place ∙ named_at_place k.cactus shown.agrees.tree slot node fits.stands

      function : base.frame.function.0 ≡ old.function.0
      function = ap (λ (y : Frame). y.function.0) is.went

      function_low : low.frame.function ≡ old.function.0
      function_low = like.function ∙ (d.shown.loaded.function ∙ ap (λ (y : FunctionId). y.0) (sym fits.frame.function))

      function_f : f.function.0 ≡ base.frame.function.0
      function_f = sym on.shows.shown.function ∙ (function_low ∙ sym function)

      registers_f : base.frame.registers.items ≡ f.registers.items
      registers_f = is.registers ∙ ap (λ (y : Frame). y.registers.items) frame_is

      place_f : base.frame.place ≡ f.place
      place_f = ap (λ (y : Frame). y.place) is.went ∙ ap (λ (y : Frame). y.place) frame_is

      waits_f : base.frame.waits ≡ f.waits
      waits_f = ap (λ (y : Frame). y.waits) is.went ∙ ap (λ (y : Frame). y.waits) frame_is

      role_low : low.frame.role ≡ role_of base.frame.role
      role_low = like.role ∙ (d.shown.loaded.role ∙ ap role_of (sym fits.frame.role ∙ sym (ap (λ (y : Frame). y.role) is.went)))

      frame_shown : ShowsFrame to places low.path low.frame base.frame
      frame_shown = record {
        function = function_low ∙ sym function;
        block = on.shows.shown.block ∙ ap (λ (y : Place). y.block.0) (sym place_f);
        index = on.shows.shown.index ∙ ap (λ (y : Place). y.index) (sym place_f);
        made = on.shows.shown.made ∙ sym (ap (λ (y : Frame). y.made) is.went ∙ ap (λ (y : Frame). y.made) frame_is);
        role = role_low;
        depth = ap (λ (q : Path). length q) path ∙ (d.shown.loaded.depth ∙ (sym fits.frame.depth ∙ sym (ap (λ (y : Frame). y.depth) is.went)));
        bases = subst (λ (q : Path). ShowsBases to (bases_in places base.frame) q) (sym like.home)
            (subst (λ b. ShowsBases to b d.strand.base.frame.home) (ap (bases_in places) (sym is.went))
            (subst (λ b. ShowsBases to b d.strand.base.frame.home) (λ i. bases places.globals (allocas_of places ((sym fits.frame.function i).0)) (sym fits.frame.home i)) loaded.bases));
        registers = subst (ShowsRegisters to low.frame.registers) (sym registers_f) on.shows.shown.registers;
      }

      pub seat_base : Seat (head_of hs) (count_of m.core d.strand.base.path) low f slot node.path.numbers base
      seat_base =
          let before = shown.agrees.nodes slot node fits.stands in
          record {
            place = sym (reverse-reverse node.path.numbers) ∙ ap reverse (sym same_place);
            shows = record { shown = frame_shown; waits = on.shows.waits ∙ ap wait_of (sym waits_f) };
            fits = record {
              there = subst (λ (n : ℕ). n < length prog.functions) (sym function) before.fits.there;
              registers = λ y there. ap (λ (zs : List ℤ). length zs) registers_f ∙ on.shows.fits.registers y (ap (slice_get prog.functions) function_f ∙ there);
              place = λ y there. subst (λ (z : Place). PlaceFits y.blocks z.block.0 z.index) (sym place_f) (on.shows.fits.place y (ap (slice_get prog.functions) function_f ∙ there));
            };
            waits = waits_f;
            callee = ap (λ (y : Activation). y.callee) is.only ∙ callee_none;
            runner = ap (λ (y : Activation). y.runner) is.only ∙ (ap (runner_under (slice_get (frames_of x) 1)) ((shown.agrees.runners slot worker node fits.stands).1 fits.hand)
                ∙ (runner_is (slice_get (frames_of x) 1) worker ∙ ap (runner_below worker) above_is));
            counts = λ r.
                let was = shown.agrees.counts slot r node fits.stands in
                let own : count_of m.core (place_of node) r ≡ count_of m.core d.strand.base.path r = ap (λ (q : Path). count_of m.core q r) (sym same_place ∙ path) in
                let now = is.counts r in
                let up : counted_above (slice_get (frames_of x) 1) r ≡ counted_above (head_of hs) r = ap (λ o. counted_above o r) above_is in
                omega (arith, was, own, now, up);
            as_many = λ y there. is.as_many ∙ before.counts y (ap (slice_get prog.functions) (sym function) ∙ there);
            unheld = λ v differ e. differ (own_hand prog places m k shown slot node fits.stands worker fits.hand within v e);
            at = λ i. ap (λ (y : Frame). own_at y.role (y.home +ℤ number_in (allocas_of places y.function.0) i)) is.went ∙ (sym (ap (λ o. alloca_at places o i) named_low) ∙ sym (stays i));
            block = subst (λ (y : Frame). HasBlock prog k.blocks.items k.lent slot y) (sym is.went) (λ body some.
                let own = shown.agrees.blocks.owned slot node fits.stands body some in
                (own.0, own.1, record { home = own.2.home; room = own.2.room }));
          }
