-- What stands in the slots after a change of one.
use Rattle.std.proofs.Common.{◌≡◌, ◌≢◌, ℕ, ◌<◌, length, Option, Some, None, refl, arith}
use Rattle.std.specs.Prelude.{IsSome, Bool, true, false, ◌==◌, if◌then◌else◌}
use Rattle.std.proofs.lemmas.Bool.Decides.{nat_tests}
use Rattle.std.proofs.lemmas.List.{get_or-set_same, get_or-set_other, get_or_past}
use Rattle.std.specs.Option.{option_map}
use Rattle.cactus.specs.declared.node.Node.{Node}
use Rattle.cactus.specs.Frames.{Frames, node_at, node_of_use, of_generation, frame_at, Lives}
use Rattle.cactus.specs.Lending.{with_frame}

module _ {F : Type 0} where
  -- a frame's slot is one of the slots
  pub lives-within : (frames : Frames F) (slot : ℕ) → Lives frames slot → slot < length frames.nodes
  lives-within frames slot lives = grind (arith, get_or_past)

  written-node : (frames : Frames F) (slot : ℕ) (frame : F) (node : Node F) → node_at frames slot ≡ Some node → node_at (with_frame frames slot frame) slot ≡ Some (record node { frame = frame })
  written-node frames slot frame node is = rw is (get_or-set_same frames.nodes slot (Some (record node { frame = frame })) None (lives-within frames slot (rw is refl)))

  -- the slot keeps its use, with the new frame
  pub node_at-with_frame : (frames : Frames F) (slot : ℕ) (frame : F) (node : Node F) → node_at frames slot ≡ Some node → node_at (with_frame frames slot frame) slot ≡ Some (record node { frame = frame })
  node_at-with_frame = written-node

  -- the slot has the new frame
  pub frame_at-with_frame : (frames : Frames F) (slot : ℕ) (frame : F) → Lives frames slot → frame_at (with_frame frames slot frame) slot ≡ Some frame
  frame_at-with_frame frames slot frame lives = from (node_at frames slot) refl lives
    where
      from : (found : Option (Node F)) → node_at frames slot ≡ found → IsSome found → frame_at (with_frame frames slot frame) slot ≡ Some frame
      from None is there = absurd (cc)
      from (Some node) is there = rw (written-node frames slot frame node is) refl

  -- every other slot has what it had
  pub node_at-with_frame_other : (frames : Frames F) (slot other : ℕ) (frame : F) → other ≢ slot → node_at (with_frame frames slot frame) other ≡ node_at frames other
  node_at-with_frame_other frames slot other frame differs = from (node_at frames slot) refl
    where
      from : (found : Option (Node F)) → node_at frames slot ≡ found → node_at (with_frame frames slot frame) other ≡ node_at frames other
      from None is = rw is refl
      from (Some node) is = rw is (get_or-set_other frames.nodes slot other (Some (record node { frame = frame })) None differs)

  -- a slot with a frame is one where a frame lives
  pub lives-from_frame : (frames : Frames F) (slot : ℕ) (frame : F) → frame_at frames slot ≡ Some frame → Lives frames slot
  lives-from_frame frames slot frame is = from (node_at frames slot) refl is
    where
      from : (found : Option (Node F)) → node_at frames slot ≡ found → option_map (λ (node : Node F). node.frame) found ≡ Some frame → Lives frames slot
      from None none here = absurd (cc)
      from (Some node) found here = rw found refl

  -- a use is its own
  pub node_of_use-own : (frames : Frames F) (slot : ℕ) (node : Node F) → node_at frames slot ≡ Some node → node_of_use frames slot node.generation ≡ Some node
  node_of_use-own frames slot node is = rw is (own node (equal node.generation))
    where
      equal : (n : ℕ) → (n == n) ≡ true
      equal n = grind (arith, nat_tests)

      own : (n : Node F) → (n.generation == n.generation) ≡ true → of_generation n.generation (Some n) ≡ Some n
      own n same = rw same refl

  -- a use of a slot stands in the slot
  pub node_at-use : (frames : Frames F) (slot generation : ℕ) (node : Node F) → node_of_use frames slot generation ≡ Some node → node_at frames slot ≡ Some node
  node_at-use frames slot generation node is = from (node_at frames slot) is
    where
      by_test : (n : Node F) (b : Bool) → (if b then Some n else None) ≡ Some node → Some n ≡ Some node
      by_test n true same = same
      by_test n false same = absurd (cc)

      from : (o : Option (Node F)) → of_generation generation o ≡ Some node → o ≡ Some node
      from None none = absurd (cc)
      from (Some n) some = by_test n (n.generation == generation) some
