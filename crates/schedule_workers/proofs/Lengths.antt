-- How long the paths of frames and of their parents are.
use Rattle.std.proofs.Common.{◌≡◌, ℕ, suc, ◌+◌, List, [], ◌∷◌, ◌++◌, length, length-append, Option, Some, None, refl, sym, ap, ◌∙◌, inl, arith}
use Rattle.std.specs.Prelude.{IsSome}
use Rattle.cactus.specs.declared.node.Node.{Node}
use Rattle.cactus.specs.Frames.{Frames, node_at, Lives}
use Rattle.cactus.specs.ByPath.{IsBelow, IsTree}
use Rattle.schedule_workers.specs.declared.activation.Activation.{Activation}
use Rattle.schedule_workers.specs.Tasks.{IsLowest}

-- the slot's frame has a path of this length
pub record HasLength (frames : Frames Activation) (slot n : ℕ) : Type 0 where
  pub node : Node Activation
  pub stands : node_at frames slot ≡ Some node
  pub is : length node.path.numbers ≡ n

pub own_length : (frames : Frames Activation) (slot : ℕ) (node : Node Activation) → node_at frames slot ≡ Some node → HasLength frames slot (length node.path.numbers)
own_length frames slot node stands = record { node = node; stands = stands; is = refl }

pub not_empty : (frames : Frames Activation) (slot n : ℕ) → HasLength frames slot n → node_at frames slot ≡ None → ⊥
not_empty frames slot n has none = let e : None ≡ Some has.node = sym none ∙ has.stands in cc

pub not_there : (frames : Frames Activation) (slot : ℕ) → node_at frames slot ≡ None → Lives frames slot → ⊥
not_there frames slot none lives = let e : IsSome {T = Node Activation} None = rw none at lives in cc

last_longer : (l : List ℕ) (k n : ℕ) → length (l ++ k ∷ []) ≡ suc n → length l ≡ n
last_longer l k n e = let f : length (l ++ k ∷ []) ≡ length l + 1 = length-append l (k ∷ []) in omega arith

module _ (frames : Frames Activation) (tree : IsTree frames) where
  -- the parent's path is one number shorter
  pub parent_shorter : (slot parent n : ℕ) (node : Node Activation) → node_at frames slot ≡ Some node → node.parent ≡ Some parent → length node.path.numbers ≡ suc n → HasLength frames parent n
  parent_shorter slot parent n node stands has long =
      let b : IsBelow frames parent node.path.numbers = tree.below slot parent node stands has in
      record { node = b.above; stands = b.stands; is = last_longer b.above.path.numbers b.number n (sym (ap (λ (l : List ℕ). length l) b.is) ∙ long) }

  -- only the root has no parent, and only its path is empty
  pub root_short : (slot : ℕ) (node : Node Activation) → node_at frames slot ≡ Some node → node.parent ≡ None → length node.path.numbers ≡ 0
  root_short slot node stands none = ap (λ (l : List ℕ). length l) (tree.root slot node stands none)

  pub short_root : (slot : ℕ) (node : Node Activation) → node_at frames slot ≡ Some node → length node.path.numbers ≡ 0 → node.parent ≡ None
  short_root slot node stands short = from node.parent refl
    where
      from : (o : Option ℕ) → node.parent ≡ o → node.parent ≡ None
      from None is = is
      from (Some p) is =
          let b : IsBelow frames p node.path.numbers = tree.below slot p node stands is in
          absurd (let e : length (b.above.path.numbers ++ b.number ∷ []) ≡ 0 = sym (ap (λ (l : List ℕ). length l) b.is) ∙ short in let f : length (b.above.path.numbers ++ b.number ∷ []) ≡ length b.above.path.numbers + 1 = length-append b.above.path.numbers (b.number ∷ []) in omega arith)

  -- of the length that is kept along a walk
  pub shorter_at : (slot parent n m : ℕ) (node : Node Activation) → node_at frames slot ≡ Some node → node.parent ≡ Some parent → HasLength frames slot n → n ≡ suc m → HasLength frames parent m
  shorter_at slot parent n m node stands has long one =
      let e : Some long.node ≡ Some node = sym long.stands ∙ stands in
      let same : long.node ≡ node = cc in
      parent_shorter slot parent m node stands has (sym (ap (λ (k : Node Activation). length k.path.numbers) same) ∙ (long.is ∙ one))

  -- a frame of the empty path is the root's
  pub not_low : (slot n : ℕ) (node : Node Activation) → node_at frames slot ≡ Some node → HasLength frames slot n → n ≡ 0 → ¬ IsLowest node → ⊥
  not_low slot n node stands long none high =
      let e : Some long.node ≡ Some node = sym long.stands ∙ stands in
      let same : long.node ≡ node = cc in
      high (inl (short_root slot node stands (sym (ap (λ (k : Node Activation). length k.path.numbers) same) ∙ (long.is ∙ none))))
