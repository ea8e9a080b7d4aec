-- Frames keep their slots and generations.
use Rattle.std.proofs.Common.{◌≡◌, ℕ, ◌<◌, Option, Some, None, Bool, true, false, inl, inr, refl, sym, ap, ◌∙◌, subst, arith}
use Rattle.std.specs.Prelude.{IsSomeAnd, ◌==◌, if◌then◌else◌}
use Rattle.std.specs.Option.{option_map}
use Rattle.std.proofs.Math.Logic.{∥∥₁_elim}
use Rattle.std.proofs.Props.{props}
use Rattle.std.proofs.Math.Nat.{ℕ_set}
use Rattle.std.proofs.Math.IntN.{ℤ_set}
use mathlib.Core.Sum.{⊎_set}
use Rattle.std.proofs.lemmas.Bool.Decides.{nat_tests}
use Rattle.frame.specs.declared.path.Path.{Path}
use Rattle.cactus.specs.declared.node.Node.{Node}
use Rattle.cactus.specs.Frames.{Frames, node_at, node_of_use, of_generation, HasPath}
use Rattle.cactus.specs.ByPath.{IsTree}
use Rattle.cactus.proofs.FramesLemmas.{node_of_use-own}
use Rattle.schedule_workers.specs.declared.activation.Activation.{Activation}
use Rattle.schedule_workers.specs.Follows.{Follows}
use Rattle.schedule_core.specs.declared.stage.Stage.{Stage}
use Rattle.schedule_core.specs.Replaying.{IsMachine}
use Rattle.schedule_core.specs.Spots.{path_of_use, KeepsSpots}

pub same_node : (o : Option (Node Activation)) (n k : Node Activation) → o ≡ Some n → o ≡ Some k → n ≡ k
same_node o n k a b = let e : Some n ≡ Some k = sym a ∙ b in cc

-- ---- a use of a slot

pub record IsUse (frames : Frames Activation) (slot generation : ℕ) (path : Path) : Type 0 where
  pub node : Node Activation
  pub stands : node_at frames slot ≡ Some node
  pub named : node.path ≡ path
  pub since : node.generation ≡ generation

pub use_found : (frames : Frames Activation) (slot generation : ℕ) (path : Path) → path_of_use frames slot generation ≡ Some path → IsUse frames slot generation path
use_found frames slot generation path = from (node_at frames slot) refl
  where
    from : (o : Option (Node Activation)) → node_at frames slot ≡ o → option_map (λ (node : Node Activation). node.path) (of_generation generation o) ≡ Some path → IsUse frames slot generation path
    from None at e = absurd (cc)
    from (Some node) at e = by (node.generation == generation) refl e
      where
        equal : (a b : ℕ) → (a == b) ≡ true → a ≡ b
        equal a b is = grind (arith, nat_tests)

        by : (b : Bool) → (node.generation == generation) ≡ b → option_map (λ (n : Node Activation). n.path) (if b then Some node else None) ≡ Some path → IsUse frames slot generation path
        by true is e = record { node = node; stands = at; named = (let f : Some node.path ≡ Some path = e in cc); since = equal node.generation generation is }
        by false is e = absurd (cc)

use_at : (frames : Frames Activation) (slot generation : ℕ) (path : Path) (node : Node Activation) → node_at frames slot ≡ Some node → node.generation ≡ generation → node.path ≡ path → path_of_use frames slot generation ≡ Some path
use_at frames slot generation path node at since named =
    subst (λ g. path_of_use frames slot g ≡ Some path) since (ap (option_map (λ (n : Node Activation). n.path)) (node_of_use-own frames slot node at) ∙ ap Some named)

-- ---- from a run to one that follows it

pub keeps_spots : (old new : Frames Activation) → IsTree old → IsTree new → Follows old new → KeepsSpots old new
keeps_spots old new tree_old tree_new f = record { stays = stays; once = once; made = f.made }
  where
    stays : (path : Path) (slot generation later after : ℕ) → path_of_use old slot generation ≡ Some path → path_of_use new later after ≡ Some path → (later ≡ slot) × (after ≡ generation)
    stays path slot generation later after here there =
        let b : IsUse old slot generation path = use_found old slot generation path here in
        let n : IsUse new later after path = use_found new later after path there in
        elim (f.uses later n.node n.stands) [
          | inl same ↦
              let one : later ≡ slot = tree_old.distinct later slot same.there b.node same.stands b.stands (ap (λ (p : Path). p.numbers) (same.path ∙ (n.named ∙ sym b.named))) in
              let node : same.there ≡ b.node = same_node (node_at old slot) same.there b.node (subst (λ x. node_at old x ≡ Some same.there) one same.stands) b.stands in
              (one, sym n.since ∙ (sym same.generation ∙ (ap (λ (k : Node Activation). k.generation) node ∙ b.since)))
          | inr fresh ↦
              let k = fresh.others slot b.node b.stands in
              let one : later ≡ slot = tree_new.distinct later slot n.node k.there n.stands k.stands (ap (λ (p : Path). p.numbers) (n.named ∙ (sym b.named ∙ sym k.path))) in
              absurd (let free : node_at old slot ≡ None = subst (λ x. node_at old x ≡ None) one fresh.free in let e : None ≡ Some b.node = sym free ∙ b.stands in cc)
        ]

    once : (path : Path) (slot generation : ℕ) → generation < old.made → path_of_use new slot generation ≡ Some path → path_of_use old slot generation ≡ Some path
    once path slot generation below there =
        let n : IsUse new slot generation path = use_found new slot generation path there in
        let since = n.since in
        elim (f.uses slot n.node n.stands) [
          | inl same ↦ use_at old slot generation path same.there same.stands (same.generation ∙ since) (same.path ∙ n.named)
          | inr fresh ↦ absurd (let least = fresh.least in omega (arith, least, since, below))
        ]

pub spots_prop : (old new : Frames Activation) → IsProp (KeepsSpots old new)
spots_prop old new = Prim.hlevel (props, ⊎_set, ℕ_set, ℤ_set)

-- ---- what is found

pub named_use : (frames : Frames Activation) (slot generation : ℕ) (path : Path) → HasPath frames slot generation path → path_of_use frames slot generation ≡ Some path
named_use frames slot generation path = from (node_of_use frames slot generation)
  where
    from : (o : Option (Node Activation)) → IsSomeAnd o (λ n. n.path ≡ path) → option_map (λ (n : Node Activation). n.path) o ≡ Some path
    from None h = absurd h
    from (Some node) h = ap Some h

-- ---- of machines

pub spots_kept : (old new : Stage) → ∥ IsMachine old ∥₁ → ∥ IsMachine new ∥₁ → Follows old.run.cactus new.run.cactus → KeepsSpots old.run.cactus new.run.cactus
spots_kept old new before after follows =
    ∥∥₁_elim before (spots_prop old.run.cactus new.run.cactus) (λ k.
    ∥∥₁_elim after (spots_prop old.run.cactus new.run.cactus) (λ l.
    keeps_spots old.run.cactus new.run.cactus k.replays.state.shown.agrees.tree l.replays.state.shown.agrees.tree follows))
