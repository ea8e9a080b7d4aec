-- A frame that goes on where it stands: what is shown, and that the parts agree.
use Rattle.std.proofs.Common.{Vec, Global, ◌≡◌, ◌≢◌, ℕ, ◌<◌, ◌≤◌, length, reverse, Option, Some, None, ◌⊎◌, inl, inr, refl, sym, ap, ◌∙◌, subst, arith, ℤ, ◌+ℤ◌}
use Rattle.std.specs.Prelude.{◌↔◌}
use Rattle.std.specs.Prelude.{slice_get}
use Rattle.semantics.specs.Paths.{Path}
use Rattle.semantics.specs.Cells.{Object, Shared, Local}
use Rattle.semantics.specs.Frames as frames
use Rattle.semantics.specs.Counts.{count_of}
use Rattle.semantics.specs.Events.{Machine}
use Rattle.program.specs.declared.function.Function.{Function}
use Rattle.program.specs.declared.function.Program.{Program}
use Rattle.frame.specs.declared.frame.Wait.{Wait}
use Rattle.frame.specs.declared.frame.Wait.TheVariants as wait
use Rattle.frame.specs.Reading.{wait_of}
use Rattle.cactus.specs.declared.node.Node.{Node}
use Rattle.cactus.specs.Frames.{Frames, Lives, node_at}
use Rattle.sync_join.specs.Counting.{Counts, living_in}
use Rattle.cactus.specs.ByPath.{named}
use Rattle.cactus.specs.Lending.{with_frame}
use Rattle.frame_engine.specs.declared.activation.Frame.{Frame}
use Rattle.frame_engine.specs.declared.activation.Places.{Places}
use Rattle.frame_engine.specs.declared.flat.Flat.{Flat}
use Rattle.frame_engine.specs.Activation.{FrameFits, ShowsFrame, allocas_of}
use Rattle.frame_engine.specs.Flat.{cell_in, is_cell}
use Rattle.frame_engine.specs.Shows.{Layout, ShowsCells}
use Rattle.schedule_workers.specs.declared.activation.Activation.{Activation}
use Rattle.schedule_workers.specs.declared.run.Run.{Run}
use Rattle.schedule_workers.specs.Scheduling.{hand_of, counted_in}
use Rattle.schedule_workers.specs.Layouts.{alloca_at, own_at, layout_of, living, number_in, object_at}
use Rattle.schedule_workers.specs.RunShown.{Agrees, BlocksStand, CalleeStands, HasBlock, HasTaker, cells_in, IsShown, NodeFits, ShowsAt, ShowsMachine, place_of, hands_of}
use Rattle.schedule_workers.proofs.Views.{named_at_place, tree_after, named_written, stood, still, lives_still, hands_stay}

module _ (prog : Program) (places : Places) (m next : Machine) (k : Run) (slot : ℕ) (node : Node Activation) (g : frames.Frame) (changed : Activation) where
  abbrev f : Frame
  f = changed.frame

  -- the machine, where the frame at the node's path has gone on
  pub record HasGoneOn : Type 0 where
    pub here : next.core.frames (place_of node) ≡ Some g
    pub elsewhere : (q : Path) → place_of node ≢ q → next.core.frames q ≡ m.core.frames q
    pub peak : next.core.peak ≡ m.core.peak
    pub result : next.core.result ≡ m.core.result
    pub sound : next.trapped ≡ None
    pub living : (o : Object) → living prog next.core o ≡ living prog m.core o
    pub counts : (q : Path) (r : ℕ) → count_of next.core q r ≡ count_of m.core q r

  -- and the frame in the slot
  pub record FrameWent : Type 0 where
    pub only : f ≡ record node.frame.frame { place = f.place; registers = f.registers; waits = f.waits }
    pub fits : FrameFits prog f
    pub waits : g.waits ≡ wait_of f.waits
    pub callee : CalleeStands k.cactus node f.waits changed.callee
    pub counts : changed.counts ≡ node.frame.counts
    pub taker : (x : Function) → slice_get prog.functions node.frame.frame.function.0 ≡ Some x → HasTaker (length x.registers) f.waits

  -- and the hands
  pub record HandsAgree (hands : Vec (Option ℕ) Global) : Type 0 where
    pub seen : (v : ℕ) → next.hands v ≡ hands_of k.cactus hands.items v
    pub held : (v s : ℕ) → hand_of hands.items v ≡ Some s → Lives k.cactus s
    pub own : (v : ℕ) → (changed.runner ≡ Some v) ↔ (hand_of hands.items v ≡ Some slot)
    pub others : (v s : ℕ) → s ≢ slot → (hand_of k.hands.items v ≡ Some s) ↔ (hand_of hands.items v ≡ Some s)

  abbrev pub gone_on : Flat → ℕ → Vec ℤ Global → Vec (Option ℕ) Global → Run
  gone_on cells done moves hands = record k { cactus = with_frame k.cactus slot changed; cells = cells; instructions = done; moves = moves; hands = hands }

  module _ (shown : IsShown prog places m k) (stands : node_at k.cactus slot ≡ Some node) (went : FrameWent) (has : HasGoneOn) where
    abbrev after : Frames Activation
    after = with_frame k.cactus slot changed

    abbrev later : Node Activation
    later = record node { frame = changed }

    home : f.home ≡ node.frame.frame.home
    home = ap (λ (x : Frame). x.home) went.only

    function : f.function.0 ≡ node.frame.frame.function.0
    function = ap (λ (x : Frame). x.function.0) went.only

    role : f.role ≡ node.frame.frame.role
    role = ap (λ (x : Frame). x.role) went.only

    -- ---- the layout

    at_stays : (o : Object) → object_at places after o ≡ object_at places k.cactus o
    at_stays (Shared n) = refl
    at_stays (Local owner a) =
        elim (named_written k.cactus shown.agrees.tree slot node stands changed owner) [
          | inl h ↦ ap (λ o. alloca_at places o a) h.1 ∙ (λ i. own_at (role i) (home i +ℤ number_in (allocas_of places (function i)) a)) ∙ sym (ap (λ o. alloca_at places o a) (was owner h.0))
          | inr h ↦ ap (λ o. alloca_at places o a) h.1
        ]
      where
        was : (owner : Path) → place_of node ≡ owner → named k.cactus (reverse owner) ≡ Some node
        was owner e = subst (λ q. named k.cactus (reverse q) ≡ Some node) e (named_at_place k.cactus shown.agrees.tree slot node stands)

    layout_stays : layout_of prog places after next.core ≡ layout_of prog places k.cactus m.core
    layout_stays = λ i. record { at = λ o. at_stays o i; cells = λ o. has.living o i }

    -- ---- what is shown

    module _ (cells : Flat) (done : ℕ) (moves : Vec ℤ Global) (hands : Vec (Option ℕ) Global) (agree : HandsAgree hands) (is_done : next.core.done ≡ done) (more : k.instructions ≤ done) (frame : ShowsFrame (layout_of prog places k.cactus m.core) places (place_of node) g f)
        (holds : ShowsCells (layout_of prog places k.cactus m.core) (is_cell cells.cells.items) (λ a z. cell_in cells.cells.items a ≡ Some z) next.core.memory) where
      abbrev l : Layout
      l = layout_of prog places k.cactus m.core

      at_path : (q : Path) → ShowsAt l places q (next.core.frames q) (named after (reverse q))
      at_path q =
          elim (named_written k.cactus shown.agrees.tree slot node stands changed q) [
            | inl h ↦
                subst (λ (o : Option frames.Frame). ShowsAt l places q o (named after (reverse q))) (sym (subst (λ x. next.core.frames x ≡ Some g) h.0 has.here))
                (subst (λ (o : Option (Node Activation)). ShowsAt l places q (Some g) o) (sym h.1)
                (record { shown = subst (λ x. ShowsFrame l places x g f) h.0 frame; waits = went.waits }))
            | inr h ↦
                subst (λ (o : Option (Node Activation)). ShowsAt l places q (next.core.frames q) o) (sym h.1)
                (subst (λ (o : Option frames.Frame). ShowsAt l places q o (named k.cactus (reverse q))) (sym (has.elsewhere q h.0)) (shown.shows.frames q))
          ]

      machine_shown : ShowsMachine prog places next (gone_on cells done moves hands)
      machine_shown = record {
        frames = λ q. subst (λ (x : Layout). ShowsAt x places q (next.core.frames q) (named after (reverse q))) (sym layout_stays) (at_path q);
        cells = subst (λ (x : Layout). ShowsCells x (is_cell cells.cells.items) (λ a z. cell_in cells.cells.items a ≡ Some z) next.core.memory) (sym layout_stays) holds;
        done = is_done;
        peak = has.peak ∙ shown.shows.peak;
        result = has.result ∙ shown.shows.result;
        hands = λ v. agree.seen v ∙ sym (hands_stay k.cactus shown.agrees.tree slot node stands changed hands.items v);
        trapped = has.sound;
      }

      -- ---- how the parts agree

      callee_still : (n : Node Activation) (w : Wait) (callee : Option ℕ) → CalleeStands k.cactus n w callee → CalleeStands after n w callee
      callee_still n wait.Nothing callee c = c
      callee_still n (wait.Region region) callee c = c
      callee_still n (wait.Call child register) callee c =
          let (s, called, at, there, numbers) = c in
          let (x, now, path) = still k.cactus shown.agrees.tree slot node stands changed s called there in
          (s, x, at, now, ap (λ p. p.numbers) path ∙ numbers)

      own_fits : NodeFits prog after later
      own_fits =
          let before = shown.agrees.nodes slot node stands in
          record {
            fits = went.fits;
            callee = callee_still later f.waits changed.callee went.callee;
            taker = λ x is. went.taker x (sym (ap (slice_get prog.functions) function) ∙ is);
            counts = λ x is. ap (λ (v : Counts). length v.items) went.counts ∙ before.counts x (sym (ap (slice_get prog.functions) function) ∙ is);
          }

      others_fit : (n : Node Activation) → NodeFits prog k.cactus n → NodeFits prog after n
      others_fit n x = record { fits = x.fits; callee = callee_still n n.frame.frame.waits n.frame.callee x.callee; taker = x.taker; counts = x.counts }

      stood_now : (s : ℕ) (n : Node Activation) → node_at after s ≡ Some n → ((slot ≡ s) × (later ≡ n)) ⊎ ((s ≢ slot) × (node_at k.cactus s ≡ Some n))
      stood_now = stood k.cactus shown.agrees.tree slot node stands changed

      -- what is so of each node, and of the one that is written, is so of each
      of_each : (P : ℕ → Node Activation → Type 0) → ((s : ℕ) (n : Node Activation) → s ≢ slot → node_at k.cactus s ≡ Some n → P s n) → P slot later → (s : ℕ) (n : Node Activation) → node_at after s ≡ Some n → P s n
      of_each P old own s n here =
          elim (stood_now s n here) [
            | inl h ↦ subst (λ x. P x n) h.0 (subst (λ x. P slot x) h.1 own)
            | inr h ↦ old s n h.0 h.1
          ]

      made_stays : after.made ≡ k.cactus.made
      made_stays = rw stands refl

      blocks_stand : BlocksStand prog (gone_on cells done moves hands)
      blocks_stand =
          let b = shown.agrees.blocks in
          record {
            owned = of_each (λ s n. HasBlock prog k.blocks.items k.lent s n.frame.frame) (λ s n away here. b.owned s n here) (λ body some.
                let own = b.owned slot node stands (sym role ∙ body) (subst (λ x. 0 < cells_in (slice_get prog.functions x)) function some) in
                (own.0, own.1, record { home = home ∙ own.2.home; room = subst (λ x. cells_in (slice_get prog.functions x) ≤ own.0.cells) (sym function) own.2.room }));
            below = b.below;
            globals = b.globals;
            after = b.after;
            beside = b.beside;
            lent_after = b.lent_after;
            lent_below = b.lent_below;
            lent_beside = b.lent_beside;
          }

      agree_after : Agrees prog next (gone_on cells done moves hands)
      agree_after =
          let a = shown.agrees in
          record {
            tree = tree_after k.cactus a.tree slot node stands changed;
            held = λ w s hand. lives_still k.cactus a.tree slot node stands changed s (agree.held w s hand);
            runners = λ s w. of_each (λ x n. (n.frame.runner ≡ Some w) ↔ (hand_of hands.items w ≡ Some x))
                (λ x n away here. ((λ e. (agree.others w x away).0 ((a.runners x w n here).0 e)), λ e. (a.runners x w n here).1 ((agree.others w x away).1 e)))
                (agree.own w) s;
            nodes = of_each (λ s n. NodeFits prog after n) (λ s n away here. others_fit n (a.nodes s n here)) own_fits;
            counts = λ s r. of_each (λ x n. counted_in n.frame r ≡ count_of next.core (place_of n) r) (λ x n away here. a.counts x r n here ∙ sym (has.counts (place_of n) r))
                (ap (λ (v : Counts). living_in v.items r) went.counts ∙ a.counts slot r node stands ∙ sym (has.counts (place_of node) r)) s;
            made = (let b = a.made in let same = made_stays in omega (arith, b, same, more));
            blocks = blocks_stand;
          }

      pub goes_on_shown : IsShown prog places next (gone_on cells done moves hands)
      goes_on_shown = record { shows = machine_shown; agrees = agree_after }
