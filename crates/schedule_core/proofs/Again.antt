-- A run of which it is known that it shows a machine, though not how, shows it.
use Rattle.std.proofs.Common.{◌≡◌, ℕ, ◌+◌, ◌≤◌, List, [], ◌∷◌, ◌++◌, arith, length, reverse, Option, Some, None, Bool, true, false, inl, inr, refl, sym, ap, ◌∙◌, subst, slice_get, ℤ, pos, ◌⊎◌}
use Rattle.std.specs.Prelude.{nat_le, slice_index_or, ◌&&◌}
use Rattle.std.specs.Ordering.{int_eq}
use Rattle.std.proofs.Math.Logic.{∥∥₁_elim, ∥∥₁_map}
use Rattle.std.proofs.Props.{props}
use Rattle.std.proofs.Math.Nat.{ℕ_set}
use Rattle.std.proofs.Math.IntN.{ℤ_set}
use mathlib.Core.Sum.{⊎_set}
use Rattle.std.proofs.lemmas.Bool.Decides.{Decides-int_eq, nat_tests}
use Rattle.semantics.specs.Paths.{Path}
use Rattle.semantics.specs.Frames as frames
use Rattle.semantics.specs.Frames.{Value, Word, Truth, Pointer, Region}
use Rattle.semantics.specs.Events.{Machine}
use Rattle.program.specs.declared.function.Program.{Program}
use Rattle.linear.specs.declared.form.RegisterId.{RegisterId}
use Rattle.frame.specs.declared.frame.Wait.{Wait}
use Rattle.frame.specs.declared.frame.Wait.TheVariants as wait
use Rattle.cactus.specs.declared.node.Node.{Node}
use Rattle.cactus.specs.ByPath.{IsBelow, IsTree, named}
use Rattle.cactus.specs.Frames.{Frames, node_at}
use Rattle.frame_engine.specs.Activation.{ShowsFrame}
use Rattle.frame_engine.specs.Shows.{Layout, Stands}
use Rattle.frame_engine.specs.declared.activation.Frame.{Frame}
use Rattle.frame_engine.specs.declared.activation.Places.{Places}
use Rattle.schedule_workers.specs.declared.activation.Activation.{Activation}
use Rattle.schedule_workers.specs.declared.run.Block.{Block}
use Rattle.schedule_workers.specs.declared.run.Run.{Run}
use Rattle.schedule_workers.specs.Layouts.{layout_of}
use Rattle.schedule_workers.specs.Lent.{place_at}
use Rattle.schedule_workers.proofs.Onward.{fits_prop}
use Rattle.schedule_workers.proofs.Returned.{has_result_prop}
use Rattle.schedule_workers.specs.RunShown.{Agrees, AreBeside, BlocksStand, CalleeStands, HasTaker, IsBlockOf, IsShown, LiesWithin, NodeFits, ShowsAt, ShowsMachine, ShowsNode, cells_in}

absurd_again : {A : Type 0} → ∥ ⊥ ∥₁ → A
absurd_again t = absurd (∥∥₁_elim t (Prim.hlevel (props, ⊎_set, ℕ_set, ℤ_set)) (λ h. h))

-- ---- frames

stands_again : (l : Layout) (v : Value) (w : ℤ) → ∥ Stands l v w ∥₁ → Stands l v w
stands_again l (Word z) w t = ∥∥₁_elim t (Prim.hlevel (props, ⊎_set, ℕ_set, ℤ_set)) (λ h. h)
stands_again l (Truth b) w t = ∥∥₁_elim t (Prim.hlevel (props, ⊎_set, ℕ_set, ℤ_set)) (λ h. h)
stands_again l (Pointer c) w t = ∥∥₁_elim t (Prim.hlevel (props, ⊎_set, ℕ_set, ℤ_set)) (λ h. h)
stands_again l (Region p) w t = tt

frame_again : (l : Layout) (places : Places) (p : Path) (g : frames.Frame) (f : Frame) → ∥ ShowsFrame l places p g f ∥₁ → ShowsFrame l places p g f
frame_again l places p g f t = record {
  function = ∥∥₁_elim t (Prim.hlevel (props, ⊎_set, ℕ_set, ℤ_set)) (λ h. h.function);
  block = ∥∥₁_elim t (Prim.hlevel (props, ⊎_set, ℕ_set, ℤ_set)) (λ h. h.block);
  index = ∥∥₁_elim t (Prim.hlevel (props, ⊎_set, ℕ_set, ℤ_set)) (λ h. h.index);
  made = ∥∥₁_elim t (Prim.hlevel (props, ⊎_set, ℕ_set, ℤ_set)) (λ h. h.made);
  role = ∥∥₁_elim t (Prim.hlevel (props, ⊎_set, ℕ_set, ℤ_set)) (λ h. h.role);
  depth = ∥∥₁_elim t (Prim.hlevel (props, ⊎_set, ℕ_set, ℤ_set)) (λ h. h.depth);
  bases = ∥∥₁_elim t (Prim.hlevel (props, ⊎_set, ℕ_set, ℤ_set)) (λ h. h.bases);
  registers = λ x v w here there. stands_again l v w (∥∥₁_map t (λ h. h.registers x v w here there));
}

node_again : (l : Layout) (places : Places) (p : Path) (g : frames.Frame) (f : Frame) → ∥ ShowsNode l places p g f ∥₁ → ShowsNode l places p g f
node_again l places p g f t = record {
  shown = frame_again l places p g f (∥∥₁_map t (λ h. h.shown));
  waits = ∥∥₁_elim t (Prim.hlevel (props, ⊎_set, ℕ_set, ℤ_set)) (λ h. h.waits);
}

at_again : (l : Layout) (places : Places) (p : Path) (o : Option frames.Frame) (n : Option (Node Activation)) → ∥ ShowsAt l places p o n ∥₁ → ShowsAt l places p o n
at_again l places p None None t = tt
at_again l places p None (Some node) t = absurd_again t
at_again l places p (Some g) None t = absurd_again t
at_again l places p (Some g) (Some node) t = node_again l places p g node.frame.frame t

-- ---- paths, callees and blocks

last_is : (xs : List ℕ) (y : ℕ) → slice_index_or (xs ++ y ∷ []) (length xs) 0 ≡ y
last_is [] y = refl
last_is (x ∷ xs) y = last_is xs y

same_some : {A : Type 0} (o : Option A) (a b : A) → o ≡ Some a → o ≡ Some b → a ≡ b
same_some o a b one other = let e : Some a ≡ Some b = sym one ∙ other in cc

below_again : (nodes : Frames Activation) (numbers : List ℕ) (parent : ℕ) (o : Option (Node Activation)) → node_at nodes parent ≡ o → ∥ IsBelow nodes parent numbers ∥₁ → IsBelow nodes parent numbers
below_again nodes numbers parent None is t = absurd_again (∥∥₁_map t (λ b. let e : None ≡ Some b.above = sym is ∙ b.stands in cc))
below_again nodes numbers parent (Some above) is t = record {
  above = above;
  stands = is;
  number = slice_index_or numbers (length above.path.numbers) 0;
  is =
      ∥∥₁_elim t (Prim.hlevel (props, ⊎_set, ℕ_set, ℤ_set)) (λ b.
      let same : b.above ≡ above = same_some (node_at nodes parent) b.above above b.stands is in
      let here : numbers ≡ above.path.numbers ++ b.number ∷ [] = b.is ∙ ap (λ (n : Node Activation). n.path.numbers ++ b.number ∷ []) same in
      let last : slice_index_or numbers (length above.path.numbers) 0 ≡ b.number = ap (λ (l : List ℕ). slice_index_or l (length above.path.numbers) 0) here ∙ last_is above.path.numbers b.number in
      here ∙ ap (λ n. above.path.numbers ++ n ∷ []) (sym last));
}

called_again : (nodes : Frames Activation) (node : Node Activation) (child : ℕ) (register : Option RegisterId) (slot : ℕ) (o : Option (Node Activation)) → node_at nodes slot ≡ o →
    ∥ CalleeStands nodes node (wait.Call child register) (Some slot) ∥₁ → CalleeStands nodes node (wait.Call child register) (Some slot)
called_again nodes node child register slot None is t =
    absurd_again (∥∥₁_map t (λ h. let same : h.0 ≡ slot = (let e : Some slot ≡ Some h.0 = h.2 in cc) in let e : None ≡ Some h.1 = sym is ∙ subst (λ n. node_at nodes n ≡ Some h.1) same h.3 in cc))
called_again nodes node child register slot (Some called) is t = (
  slot,
  called,
  refl,
  is,
  ∥∥₁_elim t (Prim.hlevel (props, ⊎_set, ℕ_set, ℤ_set)) (λ h.
      let same : h.0 ≡ slot = (let e : Some slot ≡ Some h.0 = h.2 in cc) in
      let one : h.1 ≡ called = same_some (node_at nodes slot) h.1 called (subst (λ n. node_at nodes n ≡ Some h.1) same h.3) is in
      ap (λ (n : Node Activation). n.path.numbers) (sym one) ∙ h.4),
)

callee_again : (nodes : Frames Activation) (node : Node Activation) (w : Wait) (callee : Option ℕ) → ∥ CalleeStands nodes node w callee ∥₁ → CalleeStands nodes node w callee
callee_again nodes node wait.Nothing callee t = ∥∥₁_elim t (Prim.hlevel (props, ⊎_set, ℕ_set, ℤ_set)) (λ h. h)
callee_again nodes node (wait.Region region) callee t = ∥∥₁_elim t (Prim.hlevel (props, ⊎_set, ℕ_set, ℤ_set)) (λ h. h)
callee_again nodes node (wait.Call child register) None t = absurd_again (∥∥₁_map t (λ h. let e : None ≡ Some h.0 = h.2 in cc))
callee_again nodes node (wait.Call child register) (Some slot) t = called_again nodes node child register slot (node_at nodes slot) refl t

taker_again : (n : ℕ) (w : Wait) → ∥ HasTaker n w ∥₁ → HasTaker n w
taker_again n wait.Nothing t = tt
taker_again n (wait.Region region) t = tt
taker_again n (wait.Call child register) t = ∥∥₁_elim t (has_result_prop n register) (λ h. h)

nodes_again : (prog : Program) (nodes : Frames Activation) (node : Node Activation) → ∥ NodeFits prog nodes node ∥₁ → NodeFits prog nodes node
nodes_again prog nodes node t = record {
  fits = ∥∥₁_elim t (fits_prop prog node.frame.frame) (λ h. h.fits);
  callee = callee_again nodes node node.frame.frame.waits node.frame.callee (∥∥₁_map t (λ h. h.callee));
  taker = λ g is. taker_again (length g.registers) node.frame.frame.waits (∥∥₁_map t (λ h. h.taker g is));
  counts = ∥∥₁_elim t (Prim.hlevel (props, ⊎_set, ℕ_set, ℤ_set)) (λ h. h.counts);
}

abbrev HasBlock : Program → Option Block → Block → Frame → Type 0
HasBlock prog o lent f = (b : Block) × ((o ≡ Some b) ⊎ LiesWithin lent b) × IsBlockOf prog f b

-- the slot's block, if that serves the frame, and else the cells from its home on
module _ (prog : Program) (lent : Block) (f : Frame) where
  abbrev cells : ℕ
  cells = cells_in (slice_get prog.functions f.function.0)

  abbrev serves : Option Block → Bool
  serves None = false
  serves (Some b) = int_eq f.home (pos b.start) && nat_le cells b.cells

  abbrev piece : Block
  piece = record { start = place_at f.home; cells = cells }

  both : (x y : Bool) → x && y ≡ true → (x ≡ true) × (y ≡ true)
  both true y e = (refl, e)
  both false y e = absurd cc

  low : (x y : ℕ) → nat_le x y ≡ true → x ≤ y
  low x y is = grind (arith, nat_tests)

  high : (x y : ℕ) → x ≤ y → nat_le x y ≡ true
  high x y le = grind (arith, nat_tests)

  serves_it : (b : Block) → IsBlockOf prog f b → serves (Some b) ≡ true
  serves_it b is =
      let home : int_eq f.home (pos b.start) ≡ true = (Decides-int_eq f.home (pos b.start)).1 is.home in
      let room : nat_le cells b.cells ≡ true = high cells b.cells is.room in
      (λ i. home i && nat_le cells b.cells) ∙ room

  in_piece : (o : Option Block) → serves o ≡ false → HasBlock prog o lent f → LiesWithin lent piece × IsBlockOf prog f piece
  in_piece o none (b, inl e, is) = absurd (let bad : true ≡ false = sym (serves_it b is) ∙ ap serves (sym e) ∙ none in cc)
  in_piece o none (b, inr w, is) =
      let at : place_at f.home ≡ b.start = ap place_at is.home in
      let room = is.room in
      let from = w.0 in
      let to = w.1 in (
        (omega (arith, at, from), omega (arith, at, to, room)),
        record { home = is.home ∙ sym (ap pos at); room = omega arith },
      )

  block_again : (o : Option Block) → ∥ HasBlock prog o lent f ∥₁ → HasBlock prog o lent f
  block_again o t = by (serves o) refl
    where
      served : (x : Option Block) → serves x ≡ true → HasBlock prog x lent f
      served None e = absurd cc
      served (Some b) e =
          let (home, room) = both (int_eq f.home (pos b.start)) (nat_le cells b.cells) e in
          (b, inl refl, record { home = (Decides-int_eq f.home (pos b.start)).0 home; room = low cells b.cells room })

      by : (c : Bool) → serves o ≡ c → HasBlock prog o lent f
      by true e = served o e
      by false e =
          let holds = ∥∥₁_elim t (Prim.hlevel (props, ⊎_set, ℕ_set, ℤ_set)) (λ h. in_piece o e h) in
          (piece, inr holds.0, holds.1)

beside_again : (a b : Block) → ∥ AreBeside a b ∥₁ → AreBeside a b
beside_again a b t = by (nat_le (a.start + a.cells) b.start) refl
  where
    above : (x y : ℕ) → nat_le x y ≡ true → x ≤ y
    above x y is = grind (arith, nat_tests)

    not_above : (x y : ℕ) → nat_le x y ≡ false → x ≤ y → ⊥
    not_above x y is le = grind (arith, nat_tests)

    by : (c : Bool) → nat_le (a.start + a.cells) b.start ≡ c → AreBeside a b
    by true is = inl (above (a.start + a.cells) b.start is)
    by false is = inr (∥∥₁_elim t (Prim.hlevel (props, ⊎_set, ℕ_set, ℤ_set)) (λ h. elim h [
      | inl x ↦ absurd (not_above (a.start + a.cells) b.start is x)
      | inr y ↦ y
    ]))

blocks_again : (prog : Program) (k : Run) → ∥ BlocksStand prog k ∥₁ → BlocksStand prog k
blocks_again prog k t = record {
  owned = λ slot node stands body cells. block_again prog k.lent node.frame.frame (slice_get k.blocks.items slot) (∥∥₁_map t (λ h. h.owned slot node stands body cells));
  below = ∥∥₁_elim t (Prim.hlevel (props, ⊎_set, ℕ_set, ℤ_set)) (λ h. h.below);
  globals = ∥∥₁_elim t (Prim.hlevel (props, ⊎_set, ℕ_set, ℤ_set)) (λ h. h.globals);
  after = ∥∥₁_elim t (Prim.hlevel (props, ⊎_set, ℕ_set, ℤ_set)) (λ h. h.after);
  beside = λ slot other a b one two apart. beside_again a b (∥∥₁_map t (λ h. h.beside slot other a b one two apart));
  lent_after = ∥∥₁_elim t (Prim.hlevel (props, ⊎_set, ℕ_set, ℤ_set)) (λ h. h.lent_after);
  lent_below = ∥∥₁_elim t (Prim.hlevel (props, ⊎_set, ℕ_set, ℤ_set)) (λ h. h.lent_below);
  lent_beside = λ slot b there. beside_again b k.lent (∥∥₁_map t (λ h. h.lent_beside slot b there));
}

-- ---- the run

module _ (prog : Program) (places : Places) (m : Machine) (k : Run) (t : ∥ IsShown prog places m k ∥₁) where
  shows_again : ShowsMachine prog places m k
  shows_again = record {
    frames = λ p. at_again (layout_of prog places k.cactus m.core) places p (m.core.frames p) (named k.cactus (reverse p)) (∥∥₁_map t (λ s. s.shows.frames p));
    cells = ∥∥₁_elim t (Prim.hlevel (props, ⊎_set, ℕ_set, ℤ_set)) (λ s. s.shows.cells);
    done = ∥∥₁_elim t (Prim.hlevel (props, ⊎_set, ℕ_set, ℤ_set)) (λ s. s.shows.done);
    peak = ∥∥₁_elim t (Prim.hlevel (props, ⊎_set, ℕ_set, ℤ_set)) (λ s. s.shows.peak);
    result = ∥∥₁_elim t (Prim.hlevel (props, ⊎_set, ℕ_set, ℤ_set)) (λ s. s.shows.result);
    hands = λ w. ∥∥₁_elim t (Prim.hlevel (props, ⊎_set, ℕ_set, ℤ_set)) (λ s. s.shows.hands w);
    trapped = ∥∥₁_elim t (Prim.hlevel (props, ⊎_set, ℕ_set, ℤ_set)) (λ s. s.shows.trapped);
  }

  -- ---- how its parts agree

  tree_again : IsTree k.cactus
  tree_again = record {
    distinct = ∥∥₁_elim t (Prim.hlevel (props, ⊎_set, ℕ_set, ℤ_set)) (λ s. s.agrees.tree.distinct);
    root = ∥∥₁_elim t (Prim.hlevel (props, ⊎_set, ℕ_set, ℤ_set)) (λ s. s.agrees.tree.root);
    below = λ slot parent node here above. below_again k.cactus node.path.numbers parent (node_at k.cactus parent) refl (∥∥₁_map t (λ s. s.agrees.tree.below slot parent node here above));
  }

  agrees_again : Agrees prog m k
  agrees_again = record {
    tree = tree_again;
    held = ∥∥₁_elim t (Prim.hlevel (props, ⊎_set, ℕ_set, ℤ_set)) (λ s. s.agrees.held);
    runners = ∥∥₁_elim t (Prim.hlevel (props, ⊎_set, ℕ_set, ℤ_set)) (λ s. s.agrees.runners);
    nodes = λ slot node stands. nodes_again prog k.cactus node (∥∥₁_map t (λ s. s.agrees.nodes slot node stands));
    counts = ∥∥₁_elim t (Prim.hlevel (props, ⊎_set, ℕ_set, ℤ_set)) (λ s. s.agrees.counts);
    made = ∥∥₁_elim t (Prim.hlevel (props, ⊎_set, ℕ_set, ℤ_set)) (λ s. s.agrees.made);
    blocks = blocks_again prog k (∥∥₁_map t (λ s. s.agrees.blocks));
  }

  pub shown_again : IsShown prog places m k
  shown_again = record { shows = shows_again; agrees = agrees_again }
