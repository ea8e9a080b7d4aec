-- The ready tops that a walk over slots finds are those of the definitions.
use Rattle.std.proofs.Common.{◌≡◌, ◌≢◌, ◌∙◌, ◌⊎◌, ℕ, zero, suc, List, [], ◌∷◌, ◌++◌, append-nil, append_assoc, reverse, Option, Some, None, inl, inr, refl, sym, ap, subst}
use Rattle.std.specs.Prelude.{option_and_then}
use Rattle.std.proofs.lemmas.Option.{same_Some}
use Rattle.semantics.specs.Paths.{Path as RunningPath}
use Rattle.semantics.specs.Events as running
use Rattle.semantics.specs.Events.{Machine}
use Rattle.cactus.specs.declared.node.Node.{Node}
use Rattle.cactus.specs.Frames.{Frames, HasPath, node_at}
use Rattle.cactus.proofs.FramesLemmas.{node_of_use-own}
use Rattle.schedule_workers.specs.declared.activation.Activation.{Activation}
use Rattle.schedule_workers.specs.Scheduling.{hand_of}
use Rattle.schedule_workers.specs.RunShown.{CalleeStands, place_of}
use Rattle.schedule_workers.proofs.Stealing.{ready_standing, standing_is}
use Rattle.schedule_workers.proofs.Topmost.{holder_is}
use Rattle.schedule_core.specs.declared.ready.Ticket.{Ticket}
use Rattle.schedule_core.specs.declared.stage.Stage.{Stage}
use Rattle.schedule_core.specs.ReadyBelow.{AreReadyBelow, AreReadyFrom, AreReadyUnder, IsNotReady, IsReadyTop, IsSpotOf, Notes, maker_of}
use Rattle.schedule_core.specs.Stages.{IsState, program_of, workers_of}
use Rattle.schedule_core.specs.Viewed.{IsReadyAt}
use Rattle.schedule_core.proofs.Firsts.{ready_status}
use Rattle.schedule_core.proofs.Spots.{same_node}
use Rattle.schedule_core.proofs.TaskPlaces.{below_place, here_at, top_of_slots}
use Rattle.schedule_core.proofs.Views.{hand_is, hand_lives, no_hand}

-- ---- a walk

abbrev pub FoundBy : Frames Activation → (Option ℕ → List Ticket → Type 0) → Option ℕ → List Ticket → Type 0
FoundBy frames below slot spots =
    ((s : ℕ) × (spot : Ticket) × (rest : List Ticket) × (slot ≡ Some s) × IsSpotOf frames s spot × (spots ≡ spot ∷ rest) × below slot rest) ⊎
    (((s : ℕ) → slot ≡ Some s → IsNotReady frames s) × below slot spots)

-- what is found of so many frames below the slot's
abbrev pub AreFoundUnder : Frames Activation → ℕ → Option ℕ → List Ticket → Type 0
AreFoundUnder frames zero slot spots = spots ≡ []
AreFoundUnder frames (suc n) slot spots = FoundBy frames (AreFoundUnder frames n) (maker_of frames slot) spots

-- with what is found of so many frames more it is all
abbrev pub Walks : Frames Activation → ℕ → Option ℕ → ℕ → Option ℕ → List Ticket → Type 0
Walks frames all start left slot found = (rest : List Ticket) → AreFoundUnder frames left slot rest → AreFoundUnder frames all start (found ++ rest)

pub walk_one : (frames : Frames Activation) (all left n : ℕ) (start slot : Option ℕ) (found more : List Ticket) → left ≡ suc n → Walks frames all start left slot found → Notes frames (maker_of frames slot) found more →
    Walks frames all start n (maker_of frames slot) more
walk_one frames all left n start slot found more is walk notes = on (subst (λ k. Walks frames all start k slot found) is walk) notes
  where
    on : Walks frames all start (suc n) slot found → Notes frames (maker_of frames slot) found more → Walks frames all start n (maker_of frames slot) more
    on walk (inl (s, spot, at, has, new)) rest below =
        subst (λ (l : List Ticket). AreFoundUnder frames all start l) (sym (ap (λ (l : List Ticket). l ++ rest) new ∙ append_assoc found (spot ∷ []) rest)) (walk (spot ∷ rest) (inl (s, spot, rest, at, has, refl, below)))
    on walk (inr (off, same)) rest below = subst (λ (l : List Ticket). AreFoundUnder frames all start (l ++ rest)) (sym same) (walk rest (inr (off, below)))

pub walked : (frames : Frames Activation) (all left : ℕ) (start slot : Option ℕ) (found : List Ticket) → left ≡ 0 → Walks frames all start left slot found → AreFoundUnder frames all start found
walked frames all left start slot found over walk =
    subst (λ (l : List Ticket). AreFoundUnder frames all start l) (append-nil found) (walk [] (subst (λ k. AreFoundUnder frames k slot []) (sym over) refl))

none_under : (frames : Frames Activation) (n : ℕ) (spots : List Ticket) → AreFoundUnder frames n None spots → spots ≡ []
none_under frames zero spots e = e
none_under frames (suc n) spots (inl h) = absurd (let e : None ≡ Some h.0 = h.3 in cc)
none_under frames (suc n) spots (inr h) = none_under frames n spots h.1

-- ---- in the definitions

module _ (stage : Stage) (m : Machine) (state : IsState stage m) where
  pub ready_top : (slot : ℕ) (node : Node Activation) → node_at stage.run.cactus slot ≡ Some node → (spot : Ticket) → IsSpotOf stage.run.cactus slot spot → IsReadyTop stage m (place_of node) spot
  ready_top slot node stands spot p =
      let none : p.top.frame.callee ≡ None = subst (λ w. CalleeStands stage.run.cactus p.top w p.top.frame.callee) p.ready.free (state.shown.agrees.nodes slot p.top p.stands).callee in
      let at : IsReadyAt stage.run.cactus slot p.lowest.path =
      record { top = p.top; stands = p.stands; ready = p.ready; task = record { low = spot.slot; below = p.below; lowest = p.lowest; stands = p.lives; named = refl } } in
      record {
        path = p.lowest.path;
        named = subst (λ g. HasPath stage.run.cactus spot.slot g p.lowest.path) (sym p.generation) (rw (node_of_use-own stage.run.cactus spot.slot p.lowest p.lives) refl);
        ready = ready_status stage m state slot p.lowest.path at;
        is_top = top_of_slots stage m state slot spot.slot p.below p.top p.lowest p.stands p.lives none ∙ ap place_of (same_node (node_at stage.run.cactus slot) p.top node p.stands stands);
      }

  pub unready : (slot : ℕ) (node : Node Activation) → node_at stage.run.cactus slot ≡ Some node → IsNotReady stage.run.cactus slot → running.top_status (workers_of stage) m (place_of node) ≢ Some running.Ready
  unready slot node stands off status =
      let here = here_at stage m state slot node stands in
      let is : running.status_at (Some here.frame) node.frame.runner ≡ Some running.Ready =
      ap (λ o. running.status_at o node.frame.runner) (sym here.is)
      ∙ (ap (λ o. running.status_at (m.core.frames (place_of node)) o) (sym (holder_is (program_of stage) stage.places m stage.run state.shown slot node stands)) ∙ status) in
      let free = ready_standing node.frame.runner node.frame.frame.waits (sym (standing_is here.frame node.frame.runner node.frame.frame.waits here.waits) ∙ is) in
      off (rw stands (record { unheld = free.0; free = free.1 }))

  -- ---- frames below a frame

  abbrev frames : Frames Activation
  frames = stage.run.cactus

  under : (n slot : ℕ) (node : Node Activation) → node_at stage.run.cactus slot ≡ Some node → (spots : List Ticket) → AreFoundUnder stage.run.cactus n (Some slot) spots → AreReadyUnder stage m n (place_of node) spots
  under zero slot node stands spots found = found
  under (suc n) slot node stands spots found =
      by node.parent refl (subst (λ o. FoundBy frames (AreFoundUnder frames n) o spots) (ap (λ o. option_and_then (λ (x : Node Activation). x.parent) o) stands) found) (under n)
    where
      by : (o : Option ℕ) → node.parent ≡ o → FoundBy stage.run.cactus (AreFoundUnder stage.run.cactus n) o spots →
          ((s : ℕ) (above : Node Activation) → node_at stage.run.cactus s ≡ Some above → (more : List Ticket) → AreFoundUnder stage.run.cactus n (Some s) more → AreReadyUnder stage m n (place_of above) more) →
          AreReadyUnder stage m (suc n) (place_of node) spots
      by None none has lower =
          let root : place_of node ≡ [] = ap (λ (l : List ℕ). reverse l) (state.shown.agrees.tree.root slot node stands none) in
          subst (λ (p : RunningPath). AreReadyUnder stage m (suc n) p spots) (sym root) (elim has [ inl h ↦ absurd (let e : None ≡ Some h.0 = h.3 in cc) | inr h ↦ none_under frames n spots h.1 ])
      by (Some parent) is has lower =
          let (above, number, there, place) = below_place stage m state slot parent node stands is in
          subst (λ (p : RunningPath). AreReadyUnder stage m (suc n) p spots) (sym place)
          (elim has [
            | inl h ↦ inl (h.1, h.2, ready_top parent above there h.1 (subst (λ s. IsSpotOf frames s h.1) (sym (same_Some parent h.0 h.3)) h.4), h.5, lower parent above there h.2 h.6)
            | inr h ↦ inr (unready parent above there (h.0 parent refl), lower parent above there spots h.1)
          ])

  -- the same of a worker's frame
  pub ready_below : (worker n : ℕ) (spots : List Ticket) → AreFoundUnder stage.run.cactus n (hand_of stage.run.hands.items worker) spots → AreReadyBelow stage m worker n spots
  ready_below worker n spots found = by (hand_of stage.run.hands.items worker) refl found
    where
      by : (o : Option ℕ) → hand_of stage.run.hands.items worker ≡ o → AreFoundUnder stage.run.cactus n o spots → AreReadyBelow stage m worker n spots
      by None none has = subst (λ o. AreReadyFrom stage m n o spots) (sym (no_hand stage m state worker none)) (none_under frames n spots has)
      by (Some slot) at has =
          let (node, stands) = hand_lives stage m state worker slot at in
          subst (λ o. AreReadyFrom stage m n o spots) (sym (hand_is stage m state worker slot node at stands)) (under n slot node stands spots has)
