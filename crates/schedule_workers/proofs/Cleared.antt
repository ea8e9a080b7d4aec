-- A frame that returns is gone with its allocas: the rest is shown as before.
use Rattle.std.proofs.Common.{Vec, Global, ◌≡◌, ◌≢◌, ℕ, ◌+◌, ◌<◌, ◌≤◌, List, Option, Some, None, Bool, false, cond, reverse, inl, inr, refl, sym, ap, ◌∙◌, subst, arith, ℤ}
use Rattle.std.specs.Prelude.{IsTrue}
use Rattle.semantics.specs.Paths.{Path}
use Rattle.semantics.specs.Cells.{Cell, Object, Shared, Local, owns}
use Rattle.semantics.specs.Frames.{Frame as Shown}
use Rattle.semantics.specs.State.{clears, override}
use Rattle.semantics.specs.Tree.{Tree}
use Rattle.semantics.specs.Events.{Machine}
use Rattle.semantics.proofs.Actions.{same_path_itself}
use Rattle.semantics.proofs.Places.{same_path_tells, same_path_apart}
use Rattle.program.specs.declared.function.Program.{Program}
use Rattle.cactus.specs.declared.node.Node.{Node}
use Rattle.cactus.specs.Frames.{Frames, Lives, node_at}
use Rattle.cactus.specs.ByPath.{named, IsTree}
use Rattle.frame_engine.specs.declared.activation.Places.{Places}
use Rattle.frame_engine.specs.Flat.{cell_in, is_cell}
use Rattle.frame_engine.specs.Shows.{IsIn, Layout, ShowsCells}
use Rattle.schedule_workers.specs.declared.activation.Activation.{Activation}
use Rattle.schedule_workers.specs.declared.run.Run.{Run}
use Rattle.schedule_workers.specs.Scheduling.{hand_of}
use Rattle.schedule_workers.specs.Layouts.{alloca_cells, layout_of}
use Rattle.schedule_workers.specs.Going.{PointsUp}
use Rattle.schedule_workers.specs.RunShown.{Agrees, IsShown, ShowsAt, ShowsMachine, place_of, hands_of}
use Rattle.schedule_workers.proofs.Changed.{Holds, Told, told_at, told_cells, told_shown}
use Rattle.schedule_workers.proofs.Pointing.{IsAlike, IsApart, address_apart, living_shown, whose}

module _ (prog : Program) (places : Places) (m next : Machine) (k : Run) (node : Node Activation) (frames : Frames Activation) (hands : Vec (Option ℕ) Global) (result : Option ℤ) where
  abbrev p : Path
  p = place_of node

  abbrev pub over : Run
  over = record k { cactus = frames; instructions = k.instructions + 1; hands = hands; result = result }

  abbrev l : Layout
  l = layout_of prog places k.cactus m.core

  abbrev l2 : Layout
  l2 = layout_of prog places frames next.core

  pub record Leaves : Type 0 where
    pub tree : IsTree frames
    pub gone : next.core.frames p ≡ None
    pub unnamed : named frames (reverse p) ≡ None
    pub told : (q : Path) → p ≢ q → Told prog places m next k frames k.peak hands q
    pub holds : (s : ℕ) (n : Node Activation) → node_at frames s ≡ Some n → Holds prog places m next k frames k.peak hands s n
    pub seen : (v : ℕ) → next.hands v ≡ hands_of frames hands.items v
    pub held : (v s : ℕ) → hand_of hands.items v ≡ Some s → Lives frames s
    pub made : frames.made ≤ k.cactus.made + 1
    pub memory : (x : Cell) → next.core.memory x ≡ override (clears p x) (m.core.memory x)
    pub done : next.core.done ≡ m.core.done + 1
    pub peak : next.core.peak ≡ m.core.peak
    pub result_is : next.core.result ≡ result
    pub sound : next.trapped ≡ None
    -- whom the frames that live then have above them, and point to
    pub parents : Tree next.core
    pub points : (q : Path) (f : Shown) → next.core.frames q ≡ Some f → PointsUp q f

  module _ (shown : IsShown prog places m k) (c : Leaves) where
    -- ---- the layout

    at_same : (o : Object) → IsApart p o → l2.at o ≡ l.at o
    at_same (Shared n) off = refl
    at_same (Local owner a) off = told_at prog places m next k frames k.peak hands owner (c.told owner off) a

    cells_same : (o : Object) → IsApart p o → l2.cells o ≡ l.cells o
    cells_same (Shared n) off = refl
    cells_same (Local owner a) off = told_cells prog places m next k frames k.peak hands owner (c.told owner off) a

    alike : IsAlike p l l2
    alike = record { at = at_same; cells = cells_same }

    -- ---- frames

    later : (q : Path) (o : Option Shown) (x : Option (Node Activation)) → next.core.frames q ≡ o → ShowsAt l places q o x → ShowsAt l2 places q o x
    later q None None e h = tt
    later q None (Some x) e h = absurd h
    later q (Some g) None e h = absurd h
    later q (Some g) (Some x) e h = record { shown = living_shown next.core c.parents c.points p c.gone l l2 alike places q g x.frame.frame e h.shown; waits = h.waits }

    nothing_left : ShowsAt l2 places p (next.core.frames p) (named frames (reverse p))
    nothing_left =
        subst (λ (o : Option Shown). ShowsAt l2 places p o (named frames (reverse p))) (sym c.gone)
        (subst (λ (o : Option (Node Activation)). ShowsAt l2 places p None o) (sym c.unnamed) tt)

    at_path : (q : Path) → ShowsAt l2 places q (next.core.frames q) (named frames (reverse q))
    at_path q =
        elim (same_path_tells p q) [
          | inl h ↦ subst (λ x. ShowsAt l2 places x (next.core.frames x) (named frames (reverse x))) h.1 nothing_left
          | inr h ↦ later q (next.core.frames q) (named frames (reverse q)) refl (told_shown prog places m next k frames k.peak hands shown q (c.told q h.1))
        ]

    -- ---- cells

    owns_apart : (o : Object) → IsApart p o → owns p o ≡ false
    owns_apart (Shared n) off = refl
    owns_apart (Local owner a) off = same_path_apart p owner off

    -- with the allocas' cells cleared, or not
    abbrev after : Cell → Bool → Option ℤ
    after x b = override {A = Option ℤ} (cond b (Some None) None) (m.core.memory x)

    kept : (x : Cell) → IsApart p x.object → next.core.memory x ≡ m.core.memory x
    kept x off = c.memory x ∙ ap (after x) (owns_apart x.object off)

    cleared : (x : Cell) (a : ℕ) → x.object ≡ Local p a → next.core.memory x ≡ None
    cleared x a is = c.memory x ∙ ap (after x) (ap (owns p) is ∙ same_path_itself p)

    living_apart : (x : Cell) → IsIn l2 x → IsApart p x.object
    living_apart x h = elim (whose p x.object) [
      | inl off ↦ off
      | inr o ↦ let none : l2.cells x.object ≡ 0 = ap (λ y. l2.cells y) o.1 ∙ ap (λ z. alloca_cells prog z o.0) c.gone in absurd (omega (arith, h, none))
    ]

    valued_apart : (x : Cell) (z : ℤ) → next.core.memory x ≡ Some z → IsApart p x.object
    valued_apart x z v = elim (whose p x.object) [
      | inl off ↦ off
      | inr o ↦ absurd (let e : None ≡ Some z = sym (cleared x o.0 o.1) ∙ v in cc)
    ]

    abbrev items : List ℤ
    items = k.cells.cells.items

    down : (x : Cell) → IsIn l2 x → IsIn l x
    down x h = subst (λ n. x.index < n) (cells_same x.object (living_apart x h)) h

    cells_shown : ShowsCells l2 (is_cell items) (λ a z. cell_in items a ≡ Some z) next.core.memory
    cells_shown = record {
      values = λ x z v. let off = valued_apart x z v in subst (λ a. cell_in items a ≡ Some z) (sym (address_apart p l l2 alike x off)) (shown.shows.cells.values x z (sym (kept x off) ∙ v));
      inside = λ x z v. let off = valued_apart x z v in subst (λ n. x.index < n) (sym (cells_same x.object off)) (shown.shows.cells.inside x z (sym (kept x off) ∙ v));
      reached = λ x h. subst (λ a. IsTrue (is_cell items a)) (sym (address_apart p l l2 alike x (living_apart x h))) (shown.shows.cells.reached x (down x h));
      apart = λ x y h i e.
          shown.shows.cells.apart x y (down x h) (down y i)
          (sym (address_apart p l l2 alike x (living_apart x h)) ∙ e ∙ address_apart p l l2 alike y (living_apart y i));
    }

    -- ---- all of it

    machine_shown : ShowsMachine prog places next over
    machine_shown = record {
      frames = at_path;
      cells = cells_shown;
      done = (let a = c.done in let b = shown.shows.done in omega (arith, a, b));
      peak = c.peak ∙ shown.shows.peak;
      result = c.result_is;
      hands = c.seen;
      trapped = c.sound;
    }

    agree_after : Agrees prog next over
    agree_after =
        let b = shown.agrees.blocks in
        record {
          tree = c.tree;
          held = c.held;
          runners = λ s v n here. (c.holds s n here).runner v;
          nodes = λ s n here. (c.holds s n here).fits;
          counts = λ s r n here. (c.holds s n here).counts r;
          made = (let x = c.made in let y = shown.agrees.made in omega (arith, x, y));
          blocks = record { owned = λ s n here. (c.holds s n here).block; below = b.below; after = b.after; beside = b.beside; globals = b.globals; lent_after = b.lent_after; lent_below = b.lent_below; lent_beside = b.lent_beside };
        }

    pub over_shown : IsShown prog places next over
    over_shown = record { shows = machine_shown; agrees = agree_after }
