-- A copy of a run shows what the run shows, and keeps what it keeps.
use Rattle.std.proofs.Common.{◌≡◌, ℕ, zero, suc, ◌<◌, List, [], ◌∷◌, ◌++◌, length, reverse, Option, Some, None, Bool, true, false, cond, inl, refl, sym, ap, ◌∙◌, subst, get_or, slice_get, arith, ℤ, ◌+ℤ◌, inr}
use Rattle.std.specs.Prelude.{IsSome, option_and_then}
use Rattle.std.specs.Option.{option_map, option_map_or}
use Rattle.std.specs.List.{AllZip}
use Rattle.slab.specs.Slab.{IsSlotClone}
use Rattle.semantics.specs.Paths.{Path, same_path}
use Rattle.semantics.specs.Cells.{Object, Shared, Local}
use Rattle.semantics.specs.Frames as frames
use Rattle.semantics.specs.State.{State}
use Rattle.semantics.specs.Counts.{count_of}
use Rattle.semantics.specs.Events.{Machine}
use Rattle.program.specs.declared.function.Program.{Program}
use Rattle.program.specs.declared.identifier.BlockId.{BlockId}
use Rattle.program.specs.declared.identifier.FunctionId.{FunctionId}
use Rattle.frame.specs.declared.frame.Wait.{Wait}
use Rattle.frame.specs.declared.frame.Wait.TheVariants as wait
use Rattle.frame.specs.Reading.{wait_of}
use Rattle.sync_join.specs.declared.count.RegionCount.{RegionCount}
use Rattle.cactus.specs.declared.node.Node.{Node}
use Rattle.cactus.specs.Frames.{Frames, node_at, Lives}
use Rattle.cactus.specs.ByPath.{first_named, named, IsTree, IsBelow}
use Rattle.cactus.specs.Copies.{IsNodeCopy, AreCopies}
use Rattle.frame_engine.specs.declared.activation.Frame.{Frame}
use Rattle.frame_engine.specs.declared.activation.Places.{Places}
use Rattle.frame_engine.specs.Activation.{FrameFits, ShowsFrame, allocas_of}
use Rattle.frame_engine.specs.Flat.{cell_in, is_cell}
use Rattle.frame_engine.specs.Shows.{Layout, ShowsCells, ShowsRegisters}
use Rattle.schedule_workers.specs.declared.activation.Activation.{Activation}
use Rattle.schedule_workers.specs.declared.run.Block.{Block}
use Rattle.schedule_workers.specs.declared.run.Run.{Run}
use Rattle.schedule_workers.specs.Copying.{IsFrameCopy, IsActivationCopy, HoldsSame, IsCopy}
use Rattle.schedule_workers.specs.Follows.{AreGiven, Follows}
use Rattle.schedule_workers.specs.Layouts.{alloca_at, layout_of, living, number_in, object_at, own_at}
use Rattle.schedule_workers.specs.Scheduling.{counted_in, hand_of}
use Rattle.schedule_workers.specs.RunShown.{Agrees, BlocksStand, CalleeStands, HasTaker, IsBlockOf, IsPlaced, IsShown, NodeFits, ShowsAt, ShowsMachine, cells_in, hands_of, place_of}
use Rattle.schedule_workers.specs.Stalls.{IsStalledIn, KeepsStalls}

-- ---- a frame

frame_shown : (l : Layout) (places : Places) (p : Path) (h : frames.Frame) (f g : Frame) → IsFrameCopy f g → ShowsFrame l places p h f → ShowsFrame l places p h g
frame_shown l places p h f g c t =
    subst (λ (x : Frame). ShowsFrame l places p h x) (sym c.only) (record {
      function = t.function;
      block = t.block;
      index = t.index;
      made = t.made;
      role = t.role;
      depth = t.depth;
      bases = t.bases;
      registers = subst (λ xs. ShowsRegisters l h.registers xs) (sym c.registers) t.registers;
    })

frame_fits : (prog : Program) (f g : Frame) → IsFrameCopy f g → FrameFits prog f → FrameFits prog g
frame_fits prog f g c t =
    subst (λ (x : Frame). FrameFits prog x) (sym c.only) (record {
      there = t.there;
      registers = λ x at. ap (λ (xs : List ℤ). length xs) c.registers ∙ t.registers x at;
      place = t.place;
    })

-- ---- the nodes

abbrev IsCopied : Node Activation → Node Activation → Type 0
IsCopied = IsNodeCopy IsActivationCopy

abbrev Copied : Option (Node Activation) → Option (Node Activation) → Type 0
Copied = IsSlotClone IsCopied

module _ (node copy : Node Activation) (c : IsCopied node copy) where
  path_same : copy.path ≡ node.path
  path_same = ap (λ (n : Node Activation). n.path) c.only

  waits_same : copy.frame.frame.waits ≡ node.frame.frame.waits
  waits_same = ap (λ (h : Frame). h.waits) c.frame.frame.only

  function_same : copy.frame.frame.function ≡ node.frame.frame.function
  function_same = ap (λ (h : Frame). h.function) c.frame.frame.only

  callee_same : copy.frame.callee ≡ node.frame.callee
  callee_same = ap (λ (a : Activation). a.callee) c.frame.only

  runner_same : copy.frame.runner ≡ node.frame.runner
  runner_same = ap (λ (a : Activation). a.runner) c.frame.only

  counted_same : (region : ℕ) → counted_in copy.frame region ≡ counted_in node.frame region
  counted_same region = ap (λ l. option_map_or (λ (count : RegionCount). count.living) (slice_get l region) 0) c.frame.counts

at_slot : (nodes copies : List (Option (Node Activation))) → AllZip Copied nodes copies → (slot : ℕ) → Copied (get_or nodes slot None) (get_or copies slot None)
at_slot [] [] all zero = refl
at_slot [] [] all (suc slot) = refl
at_slot [] (c ∷ copies) all slot = absurd all
at_slot (n ∷ nodes) [] all slot = absurd all
at_slot (n ∷ nodes) (c ∷ copies) all zero = all.0
at_slot (n ∷ nodes) (c ∷ copies) all (suc slot) = at_slot nodes copies all.1 slot

by_test : (b : Bool) (x y v w : Option (Node Activation)) → Copied x y → Copied v w → Copied (cond b x v) (cond b y w)
by_test true x y v w c d = c
by_test false x y v w c d = d

first_copied : (nodes copies : List (Option (Node Activation))) → AllZip Copied nodes copies → (numbers : List ℕ) → Copied (first_named nodes numbers) (first_named copies numbers)
first_copied [] [] all numbers = refl
first_copied [] (c ∷ copies) all numbers = absurd all
first_copied (n ∷ nodes) [] all numbers = absurd all
first_copied (None ∷ nodes) (c ∷ copies) all numbers = subst (λ o. Copied (first_named nodes numbers) (first_named (o ∷ copies) numbers)) (sym all.0) (first_copied nodes copies all.1 numbers)
first_copied (Some n ∷ nodes) (None ∷ copies) all numbers = absurd all.0
first_copied (Some n ∷ nodes) (Some c ∷ copies) all numbers =
    subst (λ (l : List ℕ). Copied (cond (same_path n.path.numbers numbers) (Some n) (first_named nodes numbers)) (cond (same_path l numbers) (Some c) (first_named copies numbers))) (sym (ap (λ q. q.numbers) (path_same n c all.0)))
    (by_test (same_path n.path.numbers numbers) (Some n) (Some c) (first_named nodes numbers) (first_named copies numbers) all.0 (first_copied nodes copies all.1 numbers))

module _ (old new : Frames Activation) (are : AreCopies IsActivationCopy old new) where
  slot_copied : (slot : ℕ) → Copied (node_at old slot) (node_at new slot)
  slot_copied slot = at_slot old.nodes new.nodes are.nodes slot

  name_copied : (numbers : List ℕ) → Copied (named old numbers) (named new numbers)
  unfolding named
  name_copied numbers = first_copied old.nodes new.nodes are.nodes numbers

  -- what a slot has a copy of
  original : (slot : ℕ) (copy : Node Activation) → node_at new slot ≡ Some copy → (node : Node Activation) × (node_at old slot ≡ Some node) × IsCopied node copy
  original slot copy stands = by (node_at old slot) refl (subst (λ o. Copied (node_at old slot) o) stands (slot_copied slot))
    where
      by : (o : Option (Node Activation)) → node_at old slot ≡ o → Copied o (Some copy) → (node : Node Activation) × (node_at old slot ≡ Some node) × IsCopied node copy
      by None is c = absurd (cc)
      by (Some node) is c = (node, is, c)

  -- the copy of what stands in a slot
  copy_at : (slot : ℕ) (node : Node Activation) → node_at old slot ≡ Some node → (copy : Node Activation) × (node_at new slot ≡ Some copy) × IsCopied node copy
  copy_at slot node stands = by (node_at new slot) refl (subst (λ o. Copied o (node_at new slot)) stands (slot_copied slot))
    where
      by : (o : Option (Node Activation)) → node_at new slot ≡ o → Copied (Some node) o → (copy : Node Activation) × (node_at new slot ≡ Some copy) × IsCopied node copy
      by None is c = absurd c
      by (Some copy) is c = (copy, is, c)

  -- ---- what is seen

  layout_same : (prog : Program) (places : Places) (s : State) → layout_of prog places new s ≡ layout_of prog places old s
  layout_same prog places s = λ i. record { at = λ o. at_same o i; cells = living prog s }
    where
      by : (a : ℕ) (o q : Option (Node Activation)) → Copied o q → alloca_at places q a ≡ alloca_at places o a
      by a None q c = ap (λ x. alloca_at places x a) c
      by a (Some node) None c = absurd c
      by a (Some node) (Some copy) c = ap (λ (f : Frame). own_at f.role (f.home +ℤ number_in (allocas_of places f.function.0) a)) c.frame.frame.only

      at_same : (o : Object) → object_at places new o ≡ object_at places old o
      at_same (Shared g) = refl
      at_same (Local owner a) = by a (named old (reverse owner)) (named new (reverse owner)) (name_copied (reverse owner))

  shown_at : (l : Layout) (places : Places) (p : Path) (o : Option frames.Frame) → ShowsAt l places p o (named old (reverse p)) → ShowsAt l places p o (named new (reverse p))
  shown_at l places p o = by o (named old (reverse p)) (named new (reverse p)) (name_copied (reverse p))
    where
      by : (g : Option frames.Frame) (x y : Option (Node Activation)) → Copied x y → ShowsAt l places p g x → ShowsAt l places p g y
      by None None y c s = subst (λ v. ShowsAt l places p None v) (sym c) s
      by None (Some node) y c s = absurd s
      by (Some g) None y c s = absurd s
      by (Some g) (Some node) None c s = absurd c
      by (Some g) (Some node) (Some copy) c s =
          record { shown = frame_shown l places p g node.frame.frame copy.frame.frame c.frame.frame s.shown; waits = s.waits ∙ sym (ap wait_of (waits_same node copy c)) }

  place_same : (slot : ℕ) → option_map place_of (node_at old slot) ≡ option_map place_of (node_at new slot)
  place_same slot = by (node_at old slot) (node_at new slot) (slot_copied slot)
    where
      by : (o q : Option (Node Activation)) → Copied o q → option_map place_of o ≡ option_map place_of q
      by None q c = sym (ap (option_map place_of) c)
      by (Some node) None c = absurd c
      by (Some node) (Some copy) c = ap (λ path. Some (reverse path.numbers)) (sym (path_same node copy c))

  hand_same : (o : Option ℕ) → option_and_then (λ slot. option_map place_of (node_at old slot)) o ≡ option_and_then (λ slot. option_map place_of (node_at new slot)) o
  hand_same None = refl
  hand_same (Some slot) = place_same slot

  -- ---- what agrees

  lives_too : (slot : ℕ) → Lives old slot → Lives new slot
  lives_too slot lives = by (node_at old slot) (node_at new slot) (slot_copied slot) lives
    where
      by : (o q : Option (Node Activation)) → Copied o q → IsSome o → IsSome q
      by None q c is = absurd (cc)
      by (Some node) None c is = absurd c
      by (Some node) (Some copy) c is = refl

  tree_stays : IsTree old → IsTree new
  tree_stays tree = record {
    distinct = λ slot other a b at_a at_b same.
        let (n, at_n, c) = original slot a at_a in
        let (t, at_t, d) = original other b at_b in
        tree.distinct slot other n t at_n at_t (sym (ap (λ q. q.numbers) (path_same n a c)) ∙ (same ∙ ap (λ q. q.numbers) (path_same t b d)));
    root = λ slot a at_a none.
        let (n, at_n, c) = original slot a at_a in
        ap (λ q. q.numbers) (path_same n a c) ∙ tree.root slot n at_n (sym (ap (λ (x : Node Activation). x.parent) c.only) ∙ none);
    below = λ slot parent a at_a is.
        let (n, at_n, c) = original slot a at_a in
        subst (λ (l : List ℕ). IsBelow new parent l) (sym (ap (λ q. q.numbers) (path_same n a c))) (below_too parent n.path.numbers (tree.below slot parent n at_n (sym (ap (λ (x : Node Activation). x.parent) c.only) ∙ is)));
  }
    where
      below_too : (parent : ℕ) (numbers : List ℕ) → IsBelow old parent numbers → IsBelow new parent numbers
      below_too parent numbers b =
          let (copy, at, c) = copy_at parent b.above b.stands in
          record { above = copy; stands = at; number = b.number; is = b.is ∙ ap (λ q. q.numbers ++ b.number ∷ []) (sym (path_same b.above copy c)) }

  callee_stays : (node copy : Node Activation) → IsCopied node copy → (w : Wait) (callee : Option ℕ) → CalleeStands old node w callee → CalleeStands new copy w callee
  callee_stays node copy c wait.Nothing callee s = s
  callee_stays node copy c (wait.Region region) callee s = s
  callee_stays node copy c (wait.Call child register) callee s =
      let (slot, called, is, at, below) = s in
      let (other, there, d) = copy_at slot called at in
      (slot, other, is, there, ap (λ q. q.numbers) (path_same called other d) ∙ (below ∙ ap (λ q. q.numbers ++ child ∷ []) (sym (path_same node copy c))))

  node_fits : (prog : Program) (node copy : Node Activation) → IsCopied node copy → NodeFits prog old node → NodeFits prog new copy
  node_fits prog node copy c n = record {
    fits = frame_fits prog node.frame.frame copy.frame.frame c.frame.frame n.fits;
    callee = subst (λ w. CalleeStands new copy w copy.frame.callee) (sym (waits_same node copy c))
        (subst (λ o. CalleeStands new copy node.frame.frame.waits o) (sym (callee_same node copy c)) (callee_stays node copy c node.frame.frame.waits node.frame.callee n.callee));
    taker = λ g at. subst (λ w. HasTaker (length g.registers) w) (sym (waits_same node copy c)) (n.taker g (ap (λ (x : FunctionId). slice_get prog.functions x.0) (sym (function_same node copy c)) ∙ at));
    counts = λ g at. ap (λ (xs : List RegionCount). length xs) c.frame.counts ∙ n.counts g (ap (λ (x : FunctionId). slice_get prog.functions x.0) (sym (function_same node copy c)) ∙ at);
  }

  -- ---- what is kept

  pub follows : Follows old new
  follows = record {
    made = (let same = are.made in omega (arith, same));
    uses = λ slot other at.
        let (node, stands, c) = original slot other at in
        inl (record { there = node; stands = stands; generation = sym (ap (λ (n : Node Activation). n.generation) c.only); path = sym (path_same node other c) });
  }

  pub stalls_stay : KeepsStalls old new
  stalls_stay last agree slot other at =
      let (node, stands, c) = original slot other at in
      subst (λ q. IsStalledIn (last (reverse q.numbers)) other.frame) (sym (path_same node other c)) (λ region free waits.
      ap (λ (a : Activation). option_map (λ (block : BlockId). block.0) a.stalled_in) c.frame.only
      ∙ agree slot node stands region (sym (runner_same node other c) ∙ free) (sym (waits_same node other c) ∙ waits))

  pub given_stay : AreGiven old → AreGiven new
  given_stay given slot other at =
      let (node, stands, c) = original slot other at in
      let low = given slot node stands in
      let same = ap (λ (n : Node Activation). n.generation) c.only in
      let made = are.made in
      omega (arith, low, same, made)

-- ---- a run

module _ (k copy : Run) (same : HoldsSame k copy) (prog : Program) (places : Places) (m : Machine) (shown : IsShown prog places m k) where
  abbrev mid : Run
  mid = record k { cactus = copy.cactus; cells = copy.cells; blocks = copy.blocks; hands = copy.hands; moves = copy.moves }

  abbrev l : Layout
  l = layout_of prog places k.cactus m.core

  abbrev items : List ℤ
  items = copy.cells.cells.items

  cells_shown : ShowsCells l (is_cell items) (λ a z. cell_in items a ≡ Some z) m.core.memory
  cells_shown = subst (λ (xs : List ℤ). ShowsCells l (is_cell xs) (λ a z. cell_in xs a ≡ Some z) m.core.memory) (sym same.cells) shown.shows.cells

  machine_shown : ShowsMachine prog places m mid
  machine_shown =
      let s = shown.shows in
      let back = sym (layout_same k.cactus copy.cactus same.frames prog places m.core) in
      record {
        frames = λ p. subst (λ (x : Layout). ShowsAt x places p (m.core.frames p) (named copy.cactus (reverse p))) back (shown_at k.cactus copy.cactus same.frames l places p (m.core.frames p) (s.frames p));
        cells = subst (λ (x : Layout). ShowsCells x (is_cell items) (λ a z. cell_in items a ≡ Some z) m.core.memory) back cells_shown;
        done = s.done;
        peak = s.peak;
        result = s.result;
        hands = λ w. s.hands w ∙ hand_same k.cactus copy.cactus same.frames (hand_of k.hands.items w) ∙ ap (λ hands. hands_of copy.cactus hands w) (sym same.hands);
        trapped = s.trapped;
      }

  was : (slot : ℕ) (other : Node Activation) → node_at copy.cactus slot ≡ Some other → (node : Node Activation) × (node_at k.cactus slot ≡ Some node) × IsCopied node other
  was = original k.cactus copy.cactus same.frames

  hand_stays : (v s : ℕ) → hand_of copy.hands.items v ≡ Some s → hand_of k.hands.items v ≡ Some s
  hand_stays v s has = ap (λ hands. hand_of hands v) (sym same.hands) ∙ has

  block_stays : (slot : ℕ) (b : Block) → slice_get copy.blocks.items slot ≡ Some b → slice_get k.blocks.items slot ≡ Some b
  block_stays slot b has = ap (λ (xs : List Block). slice_get xs slot) (sym same.blocks) ∙ has

  placed_too : (slot : ℕ) (b : Block) → IsPlaced k.blocks.items k.lent slot b → IsPlaced copy.blocks.items k.lent slot b
  placed_too slot b (inl e) = inl (ap (λ (xs : List Block). slice_get xs slot) same.blocks ∙ e)
  placed_too slot b (inr w) = inr w

  blocks_stand : BlocksStand prog mid
  blocks_stand =
      let b = shown.agrees.blocks in
      record {
        owned = λ slot other at body some.
            let (node, stands, c) = was slot other at in
            let own = b.owned slot node stands (sym (ap (λ (f : Frame). f.role) c.frame.frame.only) ∙ body) (subst (λ (f : Frame). 0 < cells_in (slice_get prog.functions f.function.0)) c.frame.frame.only some) in
            (own.0, placed_too slot own.0 own.1, subst (λ (f : Frame). IsBlockOf prog f own.0) (sym c.frame.frame.only) (record { home = own.2.home; room = own.2.room }));
        below = λ slot x at. b.below slot x (block_stays slot x at);
        globals = b.globals;
        after = λ slot x at. b.after slot x (block_stays slot x at);
        beside = λ slot other x y at here off. b.beside slot other x y (block_stays slot x at) (block_stays other y here) off;
        lent_after = b.lent_after;
        lent_below = b.lent_below;
        lent_beside = λ slot x at. b.lent_beside slot x (block_stays slot x at);
      }

  all_agrees : Agrees prog m mid
  all_agrees =
      let a = shown.agrees in
      record {
        tree = tree_stays k.cactus copy.cactus same.frames a.tree;
        held = λ v s has. lives_too k.cactus copy.cactus same.frames s (a.held v s (hand_stays v s has));
        runners = λ s v other at.
            let (node, stands, c) = was s other at in (
              (λ e. ap (λ hands. hand_of hands v) same.hands ∙ (a.runners s v node stands).0 (sym (runner_same node other c) ∙ e)),
              (λ e. runner_same node other c ∙ (a.runners s v node stands).1 (hand_stays v s e)),
            );
        nodes = λ s other at. let (node, stands, c) = was s other at in node_fits k.cactus copy.cactus same.frames prog node other c (a.nodes s node stands);
        counts = λ s region other at.
            let (node, stands, c) = was s other at in
            counted_same node other c region ∙ a.counts s region node stands ∙ ap (λ q. count_of m.core (reverse q.numbers) region) (sym (path_same node other c));
        made = (let made = same.frames.made in let low = a.made in omega (arith, made, low));
        blocks = blocks_stand;
      }

  copy_shown : IsShown prog places m copy
  copy_shown = subst (λ (x : Run). IsShown prog places m x) (sym same.only) (record { shows = machine_shown; agrees = all_agrees })

pub is_copy : (k copy : Run) → HoldsSame k copy → IsCopy k copy
is_copy k copy same = record {
  holds = same;
  shown = copy_shown k copy same;
  stalls = stalls_stay k.cactus copy.cactus same.frames;
  follows = follows k.cactus copy.cactus same.frames;
  given = given_stay k.cactus copy.cactus same.frames;
}
