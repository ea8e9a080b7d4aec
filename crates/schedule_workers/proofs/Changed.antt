-- A run whose frames change in some slots, while blocks stay: what is shown, and that the parts agree.
use Rattle.std.proofs.Common.{Vec, Global, ◌≡◌, ℕ, ◌≤◌, ◌+◌, reverse, Option, Some, None, refl, sym, ap, ◌∙◌, subst, arith}
use Rattle.std.specs.Prelude.{◌↔◌}
use Rattle.semantics.specs.Paths.{Path}
use Rattle.semantics.specs.Cells.{Object, Shared, Local}
use Rattle.semantics.specs.Frames.{Frame as Shown}
use Rattle.semantics.specs.Counts.{count_of}
use Rattle.semantics.specs.Events.{Machine}
use Rattle.program.specs.declared.function.Program.{Program}
use Rattle.cactus.specs.declared.node.Node.{Node}
use Rattle.cactus.specs.Frames.{Frames, Lives, node_at}
use Rattle.cactus.specs.ByPath.{named, IsTree}
use Rattle.frame_engine.specs.declared.activation.Places.{Places}
use Rattle.frame_engine.specs.declared.flat.Flat.{Flat}
use Rattle.frame_engine.specs.Flat.{cell_in, is_cell}
use Rattle.frame_engine.specs.Shows.{Layout, ShowsCells}
use Rattle.schedule_workers.specs.declared.activation.Activation.{Activation}
use Rattle.schedule_workers.specs.declared.run.Run.{Run}
use Rattle.schedule_workers.specs.Scheduling.{hand_of, counted_in}
use Rattle.schedule_workers.specs.Layouts.{alloca_at, alloca_cells, layout_of, living, object_at}
use Rattle.schedule_workers.specs.RunShown.{Agrees, CalleeStands, HasBlock, IsShown, NodeFits, ShowsAt, ShowsMachine, place_of, hands_of}

module _ (prog : Program) (places : Places) (m next : Machine) (k : Run) (frames : Frames Activation) (peak : ℕ) (hands : Vec (Option ℕ) Global) where
  abbrev pub changed : Run
  changed = record k { cactus = frames; instructions = k.instructions + 1; peak = peak; hands = hands }

  abbrev l : Layout
  l = layout_of prog places k.cactus m.core

  -- what stands at a path now: what stood there, or another frame with the same allocas in the same place
  pub data Told (q : Path) : Type 0 where
    alike : next.core.frames q ≡ m.core.frames q → named frames (reverse q) ≡ named k.cactus (reverse q) → Told q
    anew : ShowsAt l places q (next.core.frames q) (named frames (reverse q)) →
        ((a : ℕ) → alloca_cells prog (next.core.frames q) a ≡ alloca_cells prog (m.core.frames q) a) →
        ((a : ℕ) → alloca_at places (named frames (reverse q)) a ≡ alloca_at places (named k.cactus (reverse q)) a) → Told q

  pub told_at : (owner : Path) → Told owner → (a : ℕ) → alloca_at places (named frames (reverse owner)) a ≡ alloca_at places (named k.cactus (reverse owner)) a
  told_at owner (alike f n) a = ap (λ o. alloca_at places o a) n
  told_at owner (anew s cells at) a = at a

  pub told_cells : (owner : Path) → Told owner → (a : ℕ) → alloca_cells prog (next.core.frames owner) a ≡ alloca_cells prog (m.core.frames owner) a
  told_cells owner (alike f n) a = ap (λ o. alloca_cells prog o a) f
  told_cells owner (anew s cells at) a = cells a

  -- how a node agrees with hands, counts and blocks
  pub record Holds (s : ℕ) (n : Node Activation) : Type 0 where
    pub runner : (v : ℕ) → (n.frame.runner ≡ Some v) ↔ (hand_of hands.items v ≡ Some s)
    pub fits : NodeFits prog frames n
    pub counts : (r : ℕ) → counted_in n.frame r ≡ count_of next.core (place_of n) r
    pub block : HasBlock prog k.blocks.items k.lent s n.frame.frame

  -- a node that stood there
  pub record Kept (s : ℕ) (n : Node Activation) : Type 0 where
    pub was : node_at k.cactus s ≡ Some n
    pub same_hands : (v : ℕ) → (hand_of k.hands.items v ≡ Some s) ↔ (hand_of hands.items v ≡ Some s)
    pub callee : CalleeStands frames n n.frame.frame.waits n.frame.callee
    pub counts : (r : ℕ) → count_of next.core (place_of n) r ≡ count_of m.core (place_of n) r

  module _ (shown : IsShown prog places m k) where
    pub kept_holds : (s : ℕ) (n : Node Activation) → Kept s n → Holds s n
    kept_holds s n kept =
        let a = shown.agrees in
        let before = a.nodes s n kept.was in
        record {
          runner = λ v. ((λ e. (kept.same_hands v).0 ((a.runners s v n kept.was).0 e)), λ e. (a.runners s v n kept.was).1 ((kept.same_hands v).1 e));
          fits = record { fits = before.fits; callee = kept.callee; taker = before.taker; counts = before.counts };
          counts = λ r. a.counts s r n kept.was ∙ sym (kept.counts r);
          block = a.blocks.owned s n kept.was;
        }

    pub told_shown : (q : Path) → Told q → ShowsAt l places q (next.core.frames q) (named frames (reverse q))
    told_shown q (alike f n) =
        subst (λ (o : Option Shown). ShowsAt l places q o (named frames (reverse q))) (sym f)
        (subst (λ (o : Option (Node Activation)). ShowsAt l places q (m.core.frames q) o) (sym n) (shown.shows.frames q))
    told_shown q (anew s cells at) = s

    -- ---- with other cells, and after any number of instructions

    module _ (done : ℕ) (cells : Flat) where
      abbrev pub changed_by : Run
      changed_by = record k { cactus = frames; cells = cells; instructions = done; peak = peak; hands = hands }

      -- what is shown lies as in this layout
      pub record ChangesTo (to : Layout) : Type 0 where
        pub laid : layout_of prog places frames next.core ≡ to
        pub tree : IsTree frames
        pub stands : (q : Path) → ShowsAt to places q (next.core.frames q) (named frames (reverse q))
        pub holds : (s : ℕ) (n : Node Activation) → node_at frames s ≡ Some n → Holds s n
        pub seen : (v : ℕ) → next.hands v ≡ hands_of frames hands.items v
        pub held : (v s : ℕ) → hand_of hands.items v ≡ Some s → Lives frames s
        pub made : frames.made ≤ done + 1
        pub holds_cells : ShowsCells to (is_cell cells.cells.items) (λ a z. cell_in cells.cells.items a ≡ Some z) next.core.memory
        pub done_is : next.core.done ≡ done
        pub peak_is : next.core.peak ≡ peak
        pub result : next.core.result ≡ m.core.result
        pub sound : next.trapped ≡ None

      module _ (to : Layout) (c : ChangesTo to) where
        machine_shown : ShowsMachine prog places next changed_by
        machine_shown = record {
          frames = λ q. subst (λ (x : Layout). ShowsAt x places q (next.core.frames q) (named frames (reverse q))) (sym c.laid) (c.stands q);
          cells = subst (λ (x : Layout). ShowsCells x (is_cell cells.cells.items) (λ a z. cell_in cells.cells.items a ≡ Some z) next.core.memory) (sym c.laid) c.holds_cells;
          done = c.done_is;
          peak = c.peak_is;
          result = c.result ∙ shown.shows.result;
          hands = c.seen;
          trapped = c.sound;
        }

        agree_after : Agrees prog next changed_by
        agree_after =
            let b = shown.agrees.blocks in
            record {
              tree = c.tree;
              held = c.held;
              runners = λ s v n here. (c.holds s n here).runner v;
              nodes = λ s n here. (c.holds s n here).fits;
              counts = λ s r n here. (c.holds s n here).counts r;
              made = c.made;
              blocks = record { owned = λ s n here. (c.holds s n here).block; below = b.below; after = b.after; beside = b.beside; globals = b.globals; lent_after = b.lent_after; lent_below = b.lent_below; lent_beside = b.lent_beside };
            }

        pub changed_to_shown : IsShown prog places next changed_by
        changed_to_shown = record { shows = machine_shown; agrees = agree_after }

      -- as what was shown lay
      pub record ChangesBy : Type 0 where
        pub tree : IsTree frames
        pub told : (q : Path) → Told q
        pub holds : (s : ℕ) (n : Node Activation) → node_at frames s ≡ Some n → Holds s n
        pub seen : (v : ℕ) → next.hands v ≡ hands_of frames hands.items v
        pub held : (v s : ℕ) → hand_of hands.items v ≡ Some s → Lives frames s
        pub made : frames.made ≤ done + 1
        pub holds_cells : ShowsCells l (is_cell cells.cells.items) (λ a z. cell_in cells.cells.items a ≡ Some z) next.core.memory
        pub done_is : next.core.done ≡ done
        pub peak_is : next.core.peak ≡ peak
        pub result : next.core.result ≡ m.core.result
        pub sound : next.trapped ≡ None

      module _ (c : ChangesBy) where
        at_stays : (o : Object) → object_at places frames o ≡ object_at places k.cactus o
        at_stays (Shared n) = refl
        at_stays (Local owner a) = told_at owner (c.told owner) a

        lives : (o : Object) → living prog next.core o ≡ living prog m.core o
        lives (Shared n) = refl
        lives (Local owner a) = told_cells owner (c.told owner) a

        layout_stays : layout_of prog places frames next.core ≡ l
        layout_stays = λ i. record { at = λ o. at_stays o i; cells = λ o. lives o i }

        pub changed_by_shown : IsShown prog places next changed_by
        changed_by_shown = changed_to_shown l (record {
          laid = layout_stays;
          tree = c.tree;
          stands = λ q. told_shown q (c.told q);
          holds = c.holds;
          seen = c.seen;
          held = c.held;
          made = c.made;
          holds_cells = c.holds_cells;
          done_is = c.done_is;
          peak_is = c.peak_is;
          result = c.result;
          sound = c.sound;
        })

  -- ---- by one instruction that leaves the cells

  -- and the whole
  pub record Changes : Type 0 where
    pub tree : IsTree frames
    pub told : (q : Path) → Told q
    pub holds : (s : ℕ) (n : Node Activation) → node_at frames s ≡ Some n → Holds s n
    pub seen : (v : ℕ) → next.hands v ≡ hands_of frames hands.items v
    pub held : (v s : ℕ) → hand_of hands.items v ≡ Some s → Lives frames s
    pub made : frames.made ≤ k.cactus.made + 1
    pub memory : next.core.memory ≡ m.core.memory
    pub done : next.core.done ≡ m.core.done + 1
    pub peak_is : next.core.peak ≡ peak
    pub result : next.core.result ≡ m.core.result
    pub sound : next.trapped ≡ None

  module _ (shown : IsShown prog places m k) (c : Changes) where
    pub changed_shown : IsShown prog places next changed
    changed_shown = changed_by_shown shown (k.instructions + 1) k.cells (record {
      tree = c.tree;
      told = c.told;
      holds = c.holds;
      seen = c.seen;
      held = c.held;
      made = (let x = c.made in let y = shown.agrees.made in omega (arith, x, y));
      holds_cells = subst (λ x. ShowsCells l (is_cell k.cells.cells.items) (λ a z. cell_in k.cells.cells.items a ≡ Some z) x) (sym c.memory) shown.shows.cells;
      done_is = (let a = c.done in let b = shown.shows.done in omega (arith, a, b));
      peak_is = c.peak_is;
      result = c.result;
      sound = c.sound;
    })
