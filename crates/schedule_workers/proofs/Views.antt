-- What is seen of slots by path, where the frame in one is written.
use Rattle.std.proofs.Common.{◌≡◌, ◌≢◌, ℕ, List, reverse, Option, Some, None, ◌⊎◌, inl, inr, refl, sym, ap, ◌∙◌, subst}
use Rattle.std.specs.Prelude.{IsSome, option_and_then}
use Rattle.std.specs.Option.{option_map}
use Rattle.std.proofs.lemmas.List.{reverse-reverse}
use Rattle.std.proofs.lemmas.Bool.Decides.{eqb_tells}
use Rattle.semantics.specs.Paths.{Path}
use Rattle.semantics.proofs.Places.{same_path_tells}
use Rattle.cactus.specs.declared.node.Node.{Node}
use Rattle.cactus.specs.Frames.{Frames, frame_at, node_at, Lives}
use Rattle.cactus.specs.ByPath.{named, IsTree, Binds}
use Rattle.cactus.specs.Lending.{with_frame}
use Rattle.cactus.proofs.FramesLemmas.{node_at-with_frame, node_at-with_frame_other}
use Rattle.cactus.proofs.ByPathLemmas.{named_is, written_binds}
use Rattle.schedule_workers.specs.declared.activation.Activation.{Activation}
use Rattle.schedule_workers.specs.Scheduling.{hand_of}
use Rattle.schedule_workers.specs.RunShown.{place_of, hands_of}

pub node_tells : (frames : Frames Activation) (slot : ℕ) → Lives frames slot → (node : Node Activation) × (node_at frames slot ≡ Some node)
node_tells frames slot lives = from (node_at frames slot) refl lives
  where
    from : (o : Option (Node Activation)) → node_at frames slot ≡ o → IsSome o → (node : Node Activation) × (node_at frames slot ≡ Some node)
    from None e is = absurd (cc)
    from (Some node) e is = (node, e)

-- a slot has one frame
pub frame_found : (frames : Frames Activation) (slot : ℕ) (node : Node Activation) → node_at frames slot ≡ Some node → (found : Activation) → frame_at frames slot ≡ Some found → node.frame ≡ found
frame_found frames slot node here found is = let e : Some node.frame ≡ Some found = sym (ap (option_map (λ (x : Node Activation). x.frame)) here) ∙ is in cc

pub hand_seen : (frames : Frames Activation) (hands : List (Option ℕ)) (worker slot : ℕ) (node : Node Activation) → hand_of hands worker ≡ Some slot → node_at frames slot ≡ Some node → hands_of frames hands worker ≡ Some (place_of node)
hand_seen frames hands worker slot node has stands = rw (has, stands) refl

module _ (frames : Frames Activation) (tree : IsTree frames) (slot : ℕ) (node : Node Activation) (stands : node_at frames slot ≡ Some node) where
  -- the frame of a slot, by its path
  pub named_at_place : named frames (reverse (place_of node)) ≡ Some node
  named_at_place = named_is frames tree slot node (reverse (reverse node.path.numbers)) stands (sym (reverse-reverse node.path.numbers))

  module _ (a : Activation) where
    abbrev after : Frames Activation
    after = with_frame frames slot a

    abbrev node_after : Node Activation
    node_after = record node { frame = a }

    abbrev binds : Binds frames after node.path.numbers (Some node_after)
    binds = written_binds frames slot node a tree stands

    pub tree_after : IsTree after
    tree_after = binds.tree

    path_tells : (p : Path) → (place_of node ≡ p) ⊎ ((place_of node ≢ p) × (reverse p ≢ node.path.numbers))
    path_tells p =
        elim (same_path_tells (place_of node) p) [
          | inl h ↦ inl h.1
          | inr h ↦ inr (h.1, λ e. h.1 (ap reverse (sym e) ∙ reverse-reverse p))
        ]

    pub named_written : (p : Path) → ((place_of node ≡ p) × (named after (reverse p) ≡ Some node_after)) ⊎ ((place_of node ≢ p) × (named after (reverse p) ≡ named frames (reverse p)))
    named_written p =
        elim (path_tells p) [
          | inl h ↦ inl (h, ap (named after) (ap reverse (sym h) ∙ reverse-reverse node.path.numbers) ∙ binds.here)
          | inr h ↦ inr (h.0, binds.elsewhere (reverse p) h.1)
        ]

    -- what stands in a slot now: the node with the frame, or what stood there
    pub stood : (s : ℕ) (n : Node Activation) → node_at after s ≡ Some n → ((slot ≡ s) × (node_after ≡ n)) ⊎ ((s ≢ slot) × (node_at frames s ≡ Some n))
    stood s n here =
        elim (eqb_tells slot s) [
          | inl h ↦ let e : Some node_after ≡ Some n = sym (node_at-with_frame frames slot a node stands) ∙ subst (λ x. node_at after x ≡ Some n) (sym h.1) here in inl (h.1, cc)
          | inr h ↦ inr ((λ e. h.1 (sym e)), sym (node_at-with_frame_other frames slot s a (λ e. h.1 (sym e))) ∙ here)
        ]

    -- what stood in a slot is there, with its path
    pub still : (s : ℕ) (n : Node Activation) → node_at frames s ≡ Some n → (k : Node Activation) × (node_at after s ≡ Some k) × (k.path ≡ n.path)
    still s n here =
        elim (eqb_tells slot s) [
          | inl h ↦
              let e : Some node ≡ Some n = sym stands ∙ subst (λ x. node_at frames x ≡ Some n) (sym h.1) here in
              let f : node ≡ n = cc in
              (node_after, subst (λ x. node_at after x ≡ Some node_after) h.1 (node_at-with_frame frames slot a node stands), ap (λ (k : Node Activation). k.path) f)
          | inr h ↦ (n, node_at-with_frame_other frames slot s a (λ e. h.1 (sym e)) ∙ here, refl)
        ]

    pub lives_still : (s : ℕ) → Lives frames s → Lives after s
    lives_still s lives = let (n, here) = node_tells frames s lives in let (k, now, path) = still s n here in rw now refl

    place_written : (other : ℕ) → option_map place_of (node_at after other) ≡ option_map place_of (node_at frames other)
    place_written other =
        elim (eqb_tells slot other) [
          | inl h ↦ subst (λ s. option_map place_of (node_at after s) ≡ option_map place_of (node_at frames s)) h.1 (rw (node_at-with_frame frames slot a node stands, stands) refl)
          | inr h ↦ ap (option_map place_of) (node_at-with_frame_other frames slot other a (λ e. h.1 (sym e)))
        ]

    -- hands are seen as before
    pub hands_stay : (hands : List (Option ℕ)) (worker : ℕ) → hands_of after hands worker ≡ hands_of frames hands worker
    hands_stay hands worker = from (hand_of hands worker)
      where
        from : (o : Option ℕ) → option_and_then (λ s. option_map place_of (node_at after s)) o ≡ option_and_then (λ s. option_map place_of (node_at frames s)) o
        from None = refl
        from (Some s) = place_written s
