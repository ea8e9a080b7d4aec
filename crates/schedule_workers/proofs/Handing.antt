-- The worker of a frame lets it go, and takes up another or none: what is seen of hands then.
use Rattle.std.proofs.Common.{Vec, Global, ◌≡◌, ◌≢◌, ℕ, ◌<◌, length, Option, Some, None, cond, ◌⊎◌, inl, inr, refl, sym, ap, ◌∙◌, subst}
use Rattle.std.specs.Prelude.{◌↔◌, IsSome, option_and_then, reverse}
use Rattle.std.specs.Option.{option_map}
use Rattle.std.specs.Vec.{with_item}
use Rattle.std.proofs.lemmas.Bool.Decides.{eqb_tells}
use Rattle.std.proofs.lemmas.List.{get_or-set_same, get_or-set_other}
use Rattle.semantics.specs.Paths.{Path}
use Rattle.semantics.specs.Events as running
use Rattle.semantics.specs.Events.{Machine}
use Rattle.program.specs.declared.function.Program.{Program}
use Rattle.cactus.specs.declared.node.Node.{Node}
use Rattle.cactus.specs.Frames.{Frames, Lives, node_at}
use Rattle.frame_engine.specs.declared.activation.Places.{Places}
use Rattle.schedule_workers.specs.declared.activation.Activation.{Activation}
use Rattle.schedule_workers.specs.declared.run.Run.{Run}
use Rattle.schedule_workers.specs.Scheduling.{hand_of}
use Rattle.schedule_workers.specs.RunShown.{IsShown, place_of, hands_of}

abbrev pub seen_at : Frames Activation → Option ℕ → Option Path
seen_at frames o = option_and_then (λ s. option_map place_of (node_at frames s)) o

module _ (prog : Program) (places : Places) (m : Machine) (k : Run) (shown : IsShown prog places m k) (slot : ℕ) (node : Node Activation) (stands : node_at k.cactus slot ≡ Some node)
    (w : ℕ) (hand : hand_of k.hands.items w ≡ Some slot) (within : w < length k.hands.items) where
  pub own_hand : (v : ℕ) → hand_of k.hands.items v ≡ Some slot → w ≡ v
  own_hand v has =
      let runs = (shown.agrees.runners slot w node stands).1 hand in
      let other = (shown.agrees.runners slot v node stands).1 has in
      let same : Some w ≡ Some v = sym runs ∙ other in
      cc

  module _ (o : Option ℕ) where
    abbrev pub hands_after : Vec (Option ℕ) Global
    hands_after = with_item k.hands w o

    pub hand_set : (v : ℕ) → ((w ≡ v) × (hand_of hands_after.items v ≡ o)) ⊎ ((w ≢ v) × (hand_of hands_after.items v ≡ hand_of k.hands.items v))
    hand_set v =
        elim (eqb_tells w v) [
          | inl h ↦ inl (h.1, subst (λ x. hand_of hands_after.items x ≡ o) h.1 (get_or-set_same k.hands.items w o None within))
          | inr h ↦ inr (h.1, get_or-set_other k.hands.items w v o None (λ e. h.1 (sym e)))
        ]

    -- nobody else is affected
    pub others_stay : (s : ℕ) → s ≢ slot → o ≢ Some s → (v : ℕ) → (hand_of k.hands.items v ≡ Some s) ↔ (hand_of hands_after.items v ≡ Some s)
    others_stay s away other v =
        elim (hand_set v) [
          | inl h ↦ ((λ e. absurd (away (let x : Some slot ≡ Some s = sym hand ∙ subst (λ y. hand_of k.hands.items y ≡ Some s) (sym h.0) e in let y : slot ≡ s = cc in sym y))), λ e. absurd (other (sym h.1 ∙ e)))
          | inr h ↦ ((λ e. h.1 ∙ e), λ e. sym h.1 ∙ e)
        ]

    -- the slot has no worker where it isn't the one taken up
    pub let_go : o ≢ Some slot → (v : ℕ) → hand_of hands_after.items v ≢ Some slot
    let_go other v e = elim (hand_set v) [ inl h ↦ other (sym h.1 ∙ e) | inr h ↦ h.0 (own_hand v (sym h.1 ∙ e)) ]

    -- the one taken up has this worker, where nobody ran it
    pub taken_up : (s : ℕ) → o ≡ Some s → ((v : ℕ) → w ≢ v → hand_of k.hands.items v ≢ Some s) → (v : ℕ) → (Some w ≡ Some v) ↔ (hand_of hands_after.items v ≡ Some s)
    taken_up s is free v =
        elim (hand_set v) [
          | inl h ↦ ((λ e. h.1 ∙ is), λ e. ap Some h.0)
          | inr h ↦ ((λ e. absurd (h.0 (let x : Some w ≡ Some v = e in cc))), λ e. absurd (free v h.0 (sym h.1 ∙ e)))
        ]

    module _ (frames : Frames Activation) where
      pub seen_then : (q : Option Path) → seen_at frames o ≡ q → ((s : ℕ) (n : Node Activation) → s ≢ slot → node_at k.cactus s ≡ Some n → (x : Node Activation) × (node_at frames s ≡ Some x) × (x.path ≡ n.path)) →
          (v : ℕ) → running.with_hand m.hands w q v ≡ hands_of frames hands_after.items v
      seen_then q is still v =
          elim (eqb_tells w v) [
            | inl h ↦ ap (λ b. cond b q (m.hands v)) h.0 ∙ (sym is ∙ sym (ap (seen_at frames) (subst (λ x. hand_of hands_after.items x ≡ o) h.1 (get_or-set_same k.hands.items w o None within))))
            | inr h ↦
                ap (λ b. cond b q (m.hands v)) h.0
                ∙ (shown.shows.hands v
                ∙ (same_place (λ e. h.1 (own_hand v e)) (hand_of k.hands.items v) refl
                ∙ sym (ap (seen_at frames) (get_or-set_other k.hands.items w v o None (λ e. h.1 (sym e))))))
          ]
        where
          seen_some : (s : ℕ) (n : Node Activation) → node_at k.cactus s ≡ Some n → (x : Node Activation) × (node_at frames s ≡ Some x) × (x.path ≡ n.path) → option_map place_of (node_at k.cactus s) ≡ option_map place_of (node_at frames s)
          seen_some s n here (x, now, path) = ap (option_map place_of) here ∙ (ap (λ p. Some (reverse p.numbers)) (sym path) ∙ sym (ap (option_map place_of) now))

          there : (s : ℕ) → s ≢ slot → (o2 : Option (Node Activation)) → node_at k.cactus s ≡ o2 → IsSome o2 → option_map place_of (node_at k.cactus s) ≡ option_map place_of (node_at frames s)
          there s away None e lives = absurd (cc)
          there s away (Some n) e lives = seen_some s n e (still s n away e)

          same_place : (hand_of k.hands.items v ≢ Some slot) → (h : Option ℕ) → hand_of k.hands.items v ≡ h → seen_at k.cactus h ≡ seen_at frames h
          same_place other None e = refl
          same_place other (Some s) e = there s (λ x. other (e ∙ ap Some x)) (node_at k.cactus s) refl (shown.agrees.held v s e)

      pub held_then : ((s : ℕ) → o ≡ Some s → Lives frames s) → ((s : ℕ) (n : Node Activation) → s ≢ slot → node_at k.cactus s ≡ Some n → (x : Node Activation) × (node_at frames s ≡ Some x) × (x.path ≡ n.path)) →
          (v s : ℕ) → hand_of hands_after.items v ≡ Some s → Lives frames s
      held_then own still v s e =
          elim (hand_set v) [
            | inl h ↦ own s (sym h.1 ∙ e)
            | inr h ↦ lives (λ x. h.0 (own_hand v (sym h.1 ∙ e ∙ ap Some x))) (node_at k.cactus s) refl (shown.agrees.held v s (sym h.1 ∙ e))
          ]
        where
          lives : s ≢ slot → (o2 : Option (Node Activation)) → node_at k.cactus s ≡ o2 → IsSome o2 → Lives frames s
          lives away None e2 is = absurd (cc)
          lives away (Some n) e2 is = let (x, now, path) = still s n away e2 in rw now refl
