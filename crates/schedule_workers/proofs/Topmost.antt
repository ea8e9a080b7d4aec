-- The top of a task, by slots and by paths.
use Rattle.std.proofs.Common.{◌≡◌, ◌≢◌, ℕ, zero, suc, ◌<◌, List, [], ◌∷◌, ◌++◌, length, reverse, Option, Some, None, Bool, true, false, cond, inl, inr, refl, sym, ap, ◌∙◌, subst, arith}
use Rattle.std.specs.Prelude.{option_and_then}
use Rattle.std.specs.Option.{option_map}
use Rattle.std.proofs.lemmas.List.{reverse-reverse, reverse-append, get_or_past}
use Rattle.std.proofs.lemmas.Bool.Decides.{eqb_tells}
use Rattle.semantics.specs.Paths.{Path}
use Rattle.semantics.specs.Events as running
use Rattle.semantics.specs.Events.{Machine}
use Rattle.semantics.proofs.Actions.{same_path_itself}
use Rattle.semantics.proofs.Machines.{holder_some}
use Rattle.program.specs.declared.function.Program.{Program}
use Rattle.frame.specs.declared.frame.Wait.{Wait}
use Rattle.frame.specs.declared.frame.Wait.TheVariants as wait
use Rattle.frame.specs.Reading.{wait_of}
use Rattle.cactus.specs.declared.node.Node.{Node}
use Rattle.cactus.specs.Frames.{Frames, node_at}
use Rattle.frame_engine.specs.declared.activation.Places.{Places}
use Rattle.schedule_workers.specs.declared.activation.Activation.{Activation}
use Rattle.schedule_workers.specs.declared.run.Run.{Run}
use Rattle.schedule_workers.specs.Scheduling.{hand_of}
use Rattle.schedule_workers.specs.Tasks.{by_call, top_within}
use Rattle.schedule_workers.specs.RunShown.{CalleeStands, IsShown, place_of, hands_of}
use Rattle.schedule_workers.proofs.Views.{hand_seen}
use Rattle.schedule_workers.proofs.Onward.{seen}

-- ---- the steps of the search for a top

module _ (frames : Frames Activation) where
  pub absent_top : (n slot : ℕ) → node_at frames slot ≡ None → top_within frames n slot ≡ None
  absent_top zero slot is = rw is refl
  absent_top (suc n) slot is = rw is refl

  pub ended_top : (n slot : ℕ) (node : Node Activation) → node_at frames slot ≡ Some node → node.frame.callee ≡ None → top_within frames n slot ≡ Some slot
  ended_top zero slot node is none = rw (is, none) refl
  ended_top (suc n) slot node is none = rw (is, none) refl

  pub over_top : (n m slot callee : ℕ) (node : Node Activation) → n ≡ suc m → node_at frames slot ≡ Some node → node.frame.callee ≡ Some callee → top_within frames n slot ≡ top_within frames m callee
  over_top n m slot callee node one is some = rw (one, is, some) refl

  pub spent_top : (n slot callee : ℕ) (node : Node Activation) → n ≡ 0 → node_at frames slot ≡ Some node → node.frame.callee ≡ Some callee → top_within frames n slot ≡ None
  spent_top n slot callee node none is some = rw (none, is, some) refl

-- ---- hands

hand_below : (hands : List (Option ℕ)) (worker slot : ℕ) → hand_of hands worker ≡ Some slot → worker < length hands
hand_below hands worker slot has = grind (arith, get_or_past)

hand_place : (frames : Frames Activation) (o : Option ℕ) (x : Path) → option_and_then (λ slot. option_map place_of (node_at frames slot)) o ≡ Some x → (slot : ℕ) × (node : Node Activation) × (o ≡ Some slot) × (node_at frames slot ≡ Some node) × (place_of node ≡ x)
hand_place frames None x e = absurd (cc)
hand_place frames (Some slot) x e = from (node_at frames slot) refl e
  where
    from : (o : Option (Node Activation)) → node_at frames slot ≡ o → option_map place_of o ≡ Some x → (s : ℕ) × (node : Node Activation) × (Some slot ≡ Some s) × (node_at frames s ≡ Some node) × (place_of node ≡ x)
    from None is e2 = absurd (cc)
    from (Some node) is e2 = (slot, node, refl, is, (let e3 : Some (place_of node) ≡ Some x = e2 in cc))

pub hand_found : (frames : Frames Activation) (hands : List (Option ℕ)) (worker : ℕ) (x : Path) → hands_of frames hands worker ≡ Some x → (slot : ℕ) × (node : Node Activation) × (hand_of hands worker ≡ Some slot) × (node_at frames slot ≡ Some node) × (place_of node ≡ x)
hand_found frames hands worker x e = hand_place frames (hand_of hands worker) x e

is_place_of : (o : Option Path) (x : Path) → o ≡ Some x → running.is_place o x ≡ true
is_place_of o x e = rw e (same_path_itself x)

holder_found : (n : ℕ) (hands : ℕ → Option Path) (x : Path) (w : ℕ) → w < n → hands w ≡ Some x → running.holder n hands x ≡ None → ⊥
holder_found zero hands x w lt has none = absurd (omega arith)
holder_found (suc n) hands x w lt has none = from (running.is_place (hands n) x) refl none (λ lower. holder_found n hands x w lower has)
  where
    from : (b : Bool) → running.is_place (hands n) x ≡ b → cond b (Some n) (running.holder n hands x) ≡ None → (w < n → running.holder n hands x ≡ None → ⊥) → ⊥
    from true is e rest = let f : Some n ≡ None = e in cc
    from false is e rest =
        elim (eqb_tells w n) [
          | inl h ↦ let t : running.is_place (hands n) x ≡ true = is_place_of (hands n) x (subst (λ v. hands v ≡ Some x) h.1 has) in cc
          | inr h ↦ let differ : w ≢ n = h.1 in rest (omega arith) e
        ]

holder_nobody : (n : ℕ) (hands : ℕ → Option Path) (x : Path) → ((w : ℕ) → hands w ≢ Some x) → running.holder n hands x ≡ None
holder_nobody n hands x none = from (running.holder n hands x) refl
  where
    from : (o : Option ℕ) → running.holder n hands x ≡ o → running.holder n hands x ≡ None
    from None e = e
    from (Some w) e = absurd (none w (holder_some n hands x w e))

pub reverse_last : (l : List ℕ) (k : ℕ) → reverse (l ++ k ∷ []) ≡ k ∷ reverse l
reverse_last l k = reverse-append l (k ∷ [])

abbrev pub ended_at : ℕ → Option ℕ → Option ℕ
ended_at slot callee = by_call (λ c. None) slot callee

-- ---- as it is shown

module _ (prog : Program) (places : Places) (m : Machine) (k : Run) (shown : IsShown prog places m k) where
  -- one slot for a path
  pub same_place : (slot other : ℕ) (node twin : Node Activation) → node_at k.cactus slot ≡ Some node → node_at k.cactus other ≡ Some twin → place_of node ≡ place_of twin → slot ≡ other
  same_place slot other node twin here there same = shown.agrees.tree.distinct slot other node twin here there (sym (reverse-reverse node.path.numbers) ∙ (ap reverse same ∙ reverse-reverse twin.path.numbers))

  -- who runs a frame
  pub holder_is : (slot : ℕ) (node : Node Activation) → node_at k.cactus slot ≡ Some node → running.holder (length k.hands.items) m.hands (place_of node) ≡ node.frame.runner
  holder_is slot node stands = ap (λ (h : ℕ → Option Path). running.holder (length k.hands.items) h (place_of node)) (λ i v. shown.shows.hands v i) ∙ from node.frame.runner refl
    where
      hands : ℕ → Option Path
      hands = hands_of k.cactus k.hands.items

      unheld : node.frame.runner ≡ None → (w : ℕ) → hands w ≢ Some (place_of node)
      unheld free w has =
          let (s, n, hand, there, place) = hand_found k.cactus k.hands.items w (place_of node) has in
          let same : s ≡ slot = same_place s slot n node there stands place in
          let runs : node.frame.runner ≡ Some w = (shown.agrees.runners slot w node stands).1 (subst (λ t. hand_of k.hands.items w ≡ Some t) same hand) in
          cc

      from : (o : Option ℕ) → node.frame.runner ≡ o → running.holder (length k.hands.items) hands (place_of node) ≡ node.frame.runner
      from None is = holder_nobody (length k.hands.items) hands (place_of node) (unheld is) ∙ sym is
      from (Some worker) is = held (running.holder (length k.hands.items) hands (place_of node)) refl
        where
          hand : hand_of k.hands.items worker ≡ Some slot
          hand = (shown.agrees.runners slot worker node stands).0 is

          held : (o : Option ℕ) → running.holder (length k.hands.items) hands (place_of node) ≡ o → running.holder (length k.hands.items) hands (place_of node) ≡ node.frame.runner
          held None e = absurd (holder_found (length k.hands.items) hands (place_of node) worker (hand_below k.hands.items worker slot hand) (hand_seen k.cactus k.hands.items worker slot node hand stands) e)
          held (Some w) e =
              let has : hands w ≡ Some (place_of node) = holder_some (length k.hands.items) hands (place_of node) w e in
              let (s, n, at, there, place) = hand_found k.cactus k.hands.items w (place_of node) has in
              let same : s ≡ slot = same_place s slot n node there stands place in
              e ∙ sym ((shown.agrees.runners slot w node stands).1 (subst (λ t. hand_of k.hands.items w ≡ Some t) same at))

  -- the top that the definitions find stands in this slot
  pub record TopIs (n : ℕ) (p : Path) (found : Option ℕ) : Type 0 where
    pub slot : ℕ
    pub node : Node Activation
    pub stands : node_at k.cactus slot ≡ Some node
    pub place : running.top_within n m.core p ≡ place_of node
    pub last : found ≡ ended_at slot node.frame.callee

  abbrev TopFrom : ℕ → ℕ → Node Activation → Type 0
  TopFrom n slot node = TopIs n (place_of node) (top_within k.cactus n slot)

  -- one step of the definitions' search
  one_up : (n slot : ℕ) (node : Node Activation) → node_at k.cactus slot ≡ Some node → (w : Wait) → node.frame.frame.waits ≡ w →
      running.top_within (suc n) m.core (place_of node) ≡ running.on_wait (λ j. running.top_within n m.core (j ∷ place_of node)) (place_of node) (wait_of w)
  one_up n slot node stands w is =
      let g = seen prog places k slot node node.frame stands m shown in
      ap (running.on_frame (λ j. running.top_within n m.core (j ∷ place_of node)) (place_of node)) g.is
      ∙ ap (running.on_wait (λ j. running.top_within n m.core (j ∷ place_of node)) (place_of node)) (g.shows.waits ∙ ap wait_of is)

  pub top_is : (n slot : ℕ) (node : Node Activation) → node_at k.cactus slot ≡ Some node → TopFrom n slot node
  top_is zero slot node stands = record { slot = slot; node = node; stands = stands; place = refl; last = rw stands refl }
  top_is (suc n) slot node stands = from node.frame.frame.waits refl (shown.agrees.nodes slot node stands).callee (λ c called there. top_is n c called there)
    where
      from : (w : Wait) → node.frame.frame.waits ≡ w → CalleeStands k.cactus node w node.frame.callee → ((c : ℕ) (called : Node Activation) → node_at k.cactus c ≡ Some called → TopFrom n c called) → TopFrom (suc n) slot node
      from wait.Nothing is none rest = record { slot = slot; node = node; stands = stands; place = one_up n slot node stands wait.Nothing is; last = rw (stands, none) refl }
      from (wait.Region region) is none rest = record { slot = slot; node = node; stands = stands; place = one_up n slot node stands (wait.Region region) is; last = rw (stands, none) refl }
      from (wait.Call child register) is calls rest =
          let (c, called, callee, there, numbers) = calls in
          let deeper : TopFrom n c called = rest c called there in
          let place : place_of called ≡ child ∷ place_of node = ap reverse numbers ∙ reverse_last node.path.numbers child in
          record {
            slot = deeper.slot;
            node = deeper.node;
            stands = deeper.stands;
            place = one_up n slot node stands (wait.Call child register) is ∙ (ap (running.top_within n m.core) (sym place) ∙ deeper.place);
            last = subst (λ (o : Option ℕ). o ≡ ended_at deeper.slot deeper.node.frame.callee) (sym (rw (stands, callee) refl)) deeper.last;
          }
