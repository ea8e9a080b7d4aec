-- Frames in their uses of slots: where one is written, added or removed.
use Rattle.std.proofs.Common.{◌≡◌, ◌≢◌, ℕ, Option, Some, None, ◌⊎◌, inl, inr, refl, sym, ap, ◌∙◌, subst, arith}
use Rattle.std.proofs.lemmas.Bool.Decides.{eqb_tells}
use Rattle.std.proofs.lemmas.Option.{same_Some}
use Rattle.cactus.specs.declared.node.Node.{Node}
use Rattle.cactus.specs.Frames.{AddsChild, Frames, IsRemoved, node_at}
use Rattle.cactus.specs.Lending.{with_frame, written}
use Rattle.cactus.proofs.FramesLemmas.{node_at-with_frame, node_at-with_frame_other}
use Rattle.schedule_workers.specs.declared.activation.Activation.{Activation}
use Rattle.schedule_workers.specs.Follows.{Follows, IsNewUse, IsSameUse, KeepsUses}

pub not_both : (frames : Frames Activation) (slot : ℕ) (node : Node Activation) → node_at frames slot ≡ Some node → node_at frames slot ≡ None → ⊥
not_both frames slot node some none = let e : Some node ≡ None = sym some ∙ none in cc

stays : (frames : Frames Activation) (slot : ℕ) (node : Node Activation) → node_at frames slot ≡ Some node → IsSameUse frames slot node
stays frames slot node stands = record { there = node; stands = stands; generation = refl; path = refl }

-- ---- a frame is written

module _ (frames : Frames Activation) (slot : ℕ) (a : Activation) where
  abbrev after : Frames Activation
  after = with_frame frames slot a

  pub made_still : after.made ≡ frames.made
  made_still = from (node_at frames slot)
    where
      from : (o : Option (Node Activation)) → (written frames slot o a).made ≡ frames.made
      from None = refl
      from (Some node) = refl

  -- the node that the frame was written into
  pub record IsWritten (s : ℕ) (n : Node Activation) : Type 0 where
    pub here : slot ≡ s
    pub was : Node Activation
    pub stood : node_at frames slot ≡ Some was
    pub is : record was { frame = a } ≡ n

  -- what stands in a slot then
  pub found : (s : ℕ) (n : Node Activation) → node_at after s ≡ Some n → IsWritten s n ⊎ (node_at frames s ≡ Some n)
  found s n stands =
      elim (eqb_tells slot s) [
        | inl h ↦ inl (here h.1 (node_at frames slot) refl (subst (λ x. node_at after x ≡ Some n) (sym h.1) stands))
        | inr h ↦ inr (sym (node_at-with_frame_other frames slot s a (λ e. h.1 (sym e))) ∙ stands)
      ]
    where
      here : slot ≡ s → (o : Option (Node Activation)) → node_at frames slot ≡ o → node_at after slot ≡ Some n → IsWritten s n
      here e None none at =
          let same : node_at after slot ≡ None = ap (λ (x : Option (Node Activation)). node_at (written frames slot x a) slot) none ∙ none in
          absurd (not_both after slot n at same)
      here e (Some was) there at = record { here = e; was = was; stood = there; is = same_Some (record was { frame = a }) n (sym (node_at-with_frame frames slot a was there) ∙ at) }

  was_used : (s : ℕ) (n : Node Activation) → node_at after s ≡ Some n → IsSameUse frames s n
  was_used s n stands =
      elim (found s n stands) [
        | inl h ↦ record {
          there = h.was;
          stands = subst (λ x. node_at frames x ≡ Some h.was) h.here h.stood;
          generation = ap (λ (k : Node Activation). k.generation) h.is;
          path = ap (λ (k : Node Activation). k.path) h.is;
        }
        | inr h ↦ stays frames s n h
      ]

  is_used : (s : ℕ) (n : Node Activation) → node_at frames s ≡ Some n → IsSameUse after s n
  is_used s n stands =
      elim (eqb_tells slot s) [
        | inl h ↦ subst (λ x. IsSameUse after x n) h.1 (record { there = record n { frame = a }; stands = node_at-with_frame frames slot a n (subst (λ x. node_at frames x ≡ Some n) (sym h.1) stands); generation = refl; path = refl })
        | inr h ↦ record { there = n; stands = node_at-with_frame_other frames slot s a (λ e. h.1 (sym e)) ∙ stands; generation = refl; path = refl }
      ]

  pub written_uses : KeepsUses frames after
  written_uses = record { made = made_still; back = was_used; on = is_used }

pub same_uses : (frames : Frames Activation) → KeepsUses frames frames
same_uses frames = record { made = refl; back = stays frames; on = stays frames }

-- ---- what follows

pub keeps_follows : (old new : Frames Activation) → KeepsUses old new → Follows old new
keeps_follows old new k = record { made = let same = k.made in omega (arith, same); uses = λ s n stands. inl (k.back s n stands) }

pub follows_same : (frames : Frames Activation) → Follows frames frames
follows_same frames = keeps_follows frames frames (same_uses frames)

module _ (old mid new : Frames Activation) where
  pub kept_uses : KeepsUses old mid → KeepsUses mid new → KeepsUses old new
  kept_uses k l = record {
    made = l.made ∙ k.made;
    back = λ s n stands. let on = l.back s n stands in let was = k.back s on.there on.stands in record { there = was.there; stands = was.stands; generation = was.generation ∙ on.generation; path = was.path ∙ on.path };
    on = λ s n stands. let on = k.on s n stands in let then = l.on s on.there on.stands in record { there = then.there; stands = then.stands; generation = then.generation ∙ on.generation; path = then.path ∙ on.path };
  }

  pub kept_follows : KeepsUses old mid → Follows mid new → Follows old new
  kept_follows k f = record { made = let same = k.made in let low = f.made in omega (arith, same, low); uses = uses }
    where
      no_node : (s : ℕ) (o : Option (Node Activation)) → node_at mid s ≡ None → node_at old s ≡ o → node_at old s ≡ None
      no_node s None free is = is
      no_node s (Some was) free is = let on = k.on s was is in absurd (not_both mid s on.there on.stands free)

      uses : (s : ℕ) (n : Node Activation) → node_at new s ≡ Some n → IsSameUse old s n ⊎ IsNewUse old new s n
      uses s n stands =
          elim (f.uses s n stands) [
            | inl h ↦ let back = k.back s h.there h.stands in inl (record { there = back.there; stands = back.stands; generation = back.generation ∙ h.generation; path = back.path ∙ h.path })
            | inr h ↦
                let same = k.made in
                let low = h.least in
                inr (record {
                  free = no_node s (node_at old s) h.free refl;
                  least = omega (arith, same, low);
                  below = h.below;
                  others = λ other was stood. let on = k.on other was stood in let then = h.others other on.there on.stands in record { there = then.there; stands = then.stands; generation = then.generation ∙ on.generation; path = then.path ∙ on.path };
                })
          ]

  pub follows_kept : Follows old mid → KeepsUses mid new → Follows old new
  follows_kept f k = record { made = let same = k.made in let low = f.made in omega (arith, same, low); uses = uses }
    where
      uses : (s : ℕ) (n : Node Activation) → node_at new s ≡ Some n → IsSameUse old s n ⊎ IsNewUse old new s n
      uses s n stands =
          let back = k.back s n stands in
          elim (f.uses s back.there back.stands) [
            | inl h ↦ inl (record { there = h.there; stands = h.stands; generation = h.generation ∙ back.generation; path = h.path ∙ back.path })
            | inr h ↦
                let same = k.made in
                let one = back.generation in
                let low = h.least in
                let high = h.below in
                inr (record {
                  free = h.free;
                  least = omega (arith, low, one);
                  below = omega (arith, high, one, same);
                  others = λ other was stood. let then = h.others other was stood in let on = k.on other then.there then.stands in record { there = on.there; stands = on.stands; generation = on.generation ∙ then.generation; path = on.path ∙ then.path };
                })
          ]

-- ---- a frame is added or removed

module _ (old new : Frames Activation) (parent number : ℕ) (b : Activation) (slot : ℕ) (adds : AddsChild old new parent number b slot) where
  pub not_added : (s : ℕ) (n : Node Activation) → node_at old s ≡ Some n → s ≢ slot
  not_added s n stands e = not_both old s n stands (subst (λ x. node_at old x ≡ None) (sym e) adds.added.free)

  pub added_is : (n : Node Activation) → node_at new slot ≡ Some n → record { generation = old.made; path = adds.path; parent = Some parent; frame = b } ≡ n
  added_is n stands = same_Some (record { generation = old.made; path = adds.path; parent = Some parent; frame = b }) n (sym adds.added.change.changed ∙ stands)

  pub added_follows : Follows old new
  added_follows = record { made = let more = adds.added.made in omega (arith, more); uses = uses }
    where
      newest : (n : Node Activation) → node_at new slot ≡ Some n → IsNewUse old new slot n
      newest n stands =
          let is : old.made ≡ n.generation = ap (λ (x : Node Activation). x.generation) (added_is n stands) in
          let more = adds.added.made in
          record {
            free = adds.added.free;
            least = omega (arith, is);
            below = omega (arith, is, more);
            others = λ other was stood. stays new other was (adds.added.change.others other (not_added other was stood) ∙ stood);
          }

      uses : (s : ℕ) (n : Node Activation) → node_at new s ≡ Some n → IsSameUse old s n ⊎ IsNewUse old new s n
      uses s n stands =
          elim (eqb_tells slot s) [
            | inl h ↦ inr (subst (λ x. IsNewUse old new x n) h.1 (newest n (subst (λ x. node_at new x ≡ Some n) (sym h.1) stands)))
            | inr h ↦ inl (stays old s n (sym (adds.added.change.others s (λ e. h.1 (sym e))) ∙ stands))
          ]

module _ (old new : Frames Activation) (slot : ℕ) (removed : IsRemoved old new slot) where
  -- what stands after the removal stood before
  pub remains : (s : ℕ) (n : Node Activation) → node_at new s ≡ Some n → (s ≢ slot) × (node_at old s ≡ Some n)
  remains s n stands =
      elim (eqb_tells slot s) [
        | inl h ↦ absurd (not_both new slot n (subst (λ x. node_at new x ≡ Some n) (sym h.1) stands) removed.change.changed)
        | inr h ↦ ((λ e. h.1 (sym e)), sym (removed.change.others s (λ e. h.1 (sym e))) ∙ stands)
      ]

  pub removed_follows : Follows old new
  removed_follows = record { made = let same = removed.made in omega (arith, same); uses = λ s n stands. inl (stays old s n (remains s n stands).1) }

-- ---- a step that begins or ends a frame

pub child_follows : (old mid : Frames Activation) (parent number : ℕ) (b : Activation) (s : ℕ) → AddsChild old mid parent number b s → (at : ℕ) (c : Activation) → Follows old (with_frame mid at c)
child_follows old mid parent number b s adds at c = follows_kept old mid (with_frame mid at c) (added_follows old mid parent number b s adds) (written_uses mid at c)

pub end_follows : (old mid : Frames Activation) (s : ℕ) → IsRemoved old mid s → (at : ℕ) (c : Activation) → Follows old (with_frame mid at c)
end_follows old mid s removed at c = follows_kept old mid (with_frame mid at c) (removed_follows old mid s removed) (written_uses mid at c)
