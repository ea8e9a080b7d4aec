-- A frame that ends: nothing stands on its slot, and what stood elsewhere is there.
use Rattle.std.proofs.Common.{◌≡◌, ◌≢◌, ℕ, ◌<◌, ◌∷◌, Option, Some, None, Bool, true, false, cond, is_none, refl, sym, ap, ◌∙◌, subst}
use Rattle.std.specs.Prelude.{IsSome, reverse}
use Rattle.semantics.specs.Paths.{Path}
use Rattle.semantics.specs.Frames.{Frame as Shown}
use Rattle.semantics.specs.State.{Change, childless}
use Rattle.semantics.specs.Tree.{Tree}
use Rattle.semantics.specs.Events.{Machine}
use Rattle.semantics.proofs.Steps.{some_same}
use Rattle.semantics.proofs.Places.{all_below_at, no_own_child}
use Rattle.program.specs.declared.function.Program.{Program}
use Rattle.cactus.specs.declared.node.Node.{Node}
use Rattle.cactus.specs.Frames.{Frames, IsRemoved, Lives, frame_at, node_at}
use Rattle.cactus.specs.ByPath.{IsBelow, IsLeaf}
use Rattle.frame_engine.specs.declared.activation.Places.{Places}
use Rattle.schedule_workers.specs.declared.activation.Activation.{Activation}
use Rattle.schedule_workers.specs.declared.run.Run.{Run}
use Rattle.schedule_workers.specs.RunShown.{IsShown, place_of}
use Rattle.schedule_workers.proofs.Onward.{seen}
pub use Rattle.schedule_workers.proofs.Uses.{remains}
use Rattle.schedule_workers.proofs.Topmost.{reverse_last}
use Rattle.schedule_workers.proofs.Views.{frame_found}

-- what is done where a test holds, if it is done
pub tested : (b : Bool) (o : Option Change) → IsSome (cond b o None) → b ≡ true
tested true o e = refl
tested false o e = absurd (cc)

not_both : (b : Bool) → b ≡ true → b ≡ false → ⊥
not_both b t f = let e : true ≡ false = sym t ∙ f in cc

pub none_some : (x : ℕ) → None ≡ Some x → ⊥
none_some x e = cc

module _ (prog : Program) (places : Places) (k : Run) (slot : ℕ) (node : Node Activation) (stands : node_at k.cactus slot ≡ Some node) (m : Machine) (shown : IsShown prog places m k) (tree : Tree m.core) where
  abbrev p : Path
  p = place_of node

  pub leaf : (g : Shown) → m.core.frames p ≡ Some g → childless m.core p g.made ≡ true → IsLeaf k.cactus slot
  leaf g is_g none x y here has =
      let b : IsBelow k.cactus slot y.path.numbers = shown.agrees.tree.below x slot y here has in
      let same : b.above ≡ node = some_same b.above node (sym b.stands ∙ stands) in
      let place : place_of y ≡ b.number ∷ p = ap reverse b.is ∙ (reverse_last b.above.path.numbers b.number ∙ ap (λ (z : Node Activation). b.number ∷ place_of z) same) in
      let y_seen = seen prog places k x y y.frame here m shown in
      let lives : m.core.frames (b.number ∷ p) ≡ Some y_seen.frame = ap m.core.frames (sym place) ∙ y_seen.is in
      let (h, up, lt) = tree.has_parent b.number p y_seen.frame lives in
      let one : h ≡ g = some_same h g (sym up ∙ is_g) in
      let low : b.number < g.made = subst (λ (z : Shown). b.number < z.made) one lt in
      let dead : is_none (m.core.frames (b.number ∷ p)) ≡ true = all_below_at g.made (λ j. is_none (m.core.frames (j ∷ p))) none b.number low in
      let some : is_none (m.core.frames (b.number ∷ p)) ≡ false = ap is_none lives in
      not_both (is_none (m.core.frames (b.number ∷ p))) dead some

  module _ (mid : Frames Activation) (removed : IsRemoved k.cactus mid slot) where
    pub still_there : (x : ℕ) (y : Node Activation) → x ≢ slot → node_at k.cactus x ≡ Some y → (z : Node Activation) × (node_at mid x ≡ Some z) × (z.path ≡ y.path)
    still_there x y away here = (y, removed.change.others x away ∙ here, refl)

    -- ---- the frame's parent

    module _ (up : ℕ) (has : node.parent ≡ Some up) where
      pub below : IsBelow k.cactus up node.path.numbers
      below = shown.agrees.tree.below slot up node stands has

      abbrev pub above : Node Activation
      above = below.above

      pub place : p ≡ below.number ∷ place_of above
      place = ap reverse below.is ∙ reverse_last above.path.numbers below.number

      pub apart : p ≢ place_of above
      apart e = no_own_child below.number (place_of above) (sym place ∙ e)

      pub up_away : up ≢ slot
      up_away e = apart (let same : above ≡ node = some_same above node (sym below.stands ∙ (ap (node_at k.cactus) e ∙ stands)) in ap (λ (z : Node Activation). place_of z) (sym same))

      pub lives_below : (g : Shown) → m.core.frames p ≡ Some g → m.core.frames (below.number ∷ place_of above) ≡ Some g
      lives_below g is_g = ap m.core.frames (sym place) ∙ is_g

      pub stays_mid : node_at mid up ≡ Some above
      stays_mid = removed.change.others up up_away ∙ below.stands

      pub lives_mid : Lives mid up
      lives_mid = rw stays_mid refl

      pub found_above : (found : Activation) → frame_at mid up ≡ Some found → above.frame ≡ found
      found_above found is = frame_found mid up above stays_mid found is
