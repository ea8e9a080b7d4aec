-- The outcome of a frame, taken apart by the frame's action: what its first instruction leaves, and the outcomes that it is made of.
use Rattle.std.proofs.Common.{◌≡◌, ℕ, zero, suc, ◌≤◌, max, List, ◌∷◌, Option, Some, None, ap, sym, ◌∙◌, subst, arith, ℤ}
use Rattle.semantics.specs.Paths.{Path}
use Rattle.semantics.specs.Cells.{Memory}
use Rattle.semantics.specs.Frames.{Value, Registers, Frame}
use Rattle.semantics.specs.Effect.{Effect, Action, Plain, Detach, Reattach, Sync, Call, Return, action_of}
use Rattle.semantics.specs.State.{went, detached, continued, synced, called, waiting, resumed}
use Rattle.semantics.specs.SerialMeaning.{Left, Gave, Outcome, written, cleared, by_action, meaning}
use Rattle.semantics.specs.SerialMeaning.{one_more, both_outcomes, at_last}
use Rattle.semantics.proofs.Outcomes.{counted_is, joined_is, from_effect, from_child, from_call, from_last}
use Rattle.linear.specs.declared.form.RegisterId.{RegisterId}
use Rattle.program.specs.declared.function.Program.{Program}
use Rattle.serial_stack.proofs.Walks.{ComesTo}

-- ---- each outcome has a frame

module _ (prog : Program) (n : ℕ) (before : (p : Path) (f : Frame) (m : Memory) (o : Outcome) → meaning prog n p f m ≡ Some o → 1 ≤ o.depth) (p : Path) (f : Frame) (m : Memory) (u : Outcome) where
  deep_by : (a : Action) → by_action (meaning prog n) p f m a ≡ Some u → 1 ≤ u.depth
  deep_by (Plain e) is =
      let (fine, next) = from_effect (meaning prog n) p f m e e.trap u is in
      let (v, there, same) = counted_is (meaning prog n p (went f e) (written e m)) u next in
      subst (λ (o : Outcome). 1 ≤ o.depth) same (before p (went f e) (written e m) v there)
  deep_by (Sync r b rs) is =
      let (v, there, same) = counted_is (meaning prog n p (synced f r b rs) m) u is in
      subst (λ (o : Outcome). 1 ≤ o.depth) same (before p (synced f r b rs) m v there)
  deep_by (Detach r body next) is =
      let (c, found, left, rest) = from_child (meaning prog n) p (continued f next) (meaning prog n (f.made ∷ p) (detached f r body next) m) u is in
      let (v, there, same) = joined_is c (meaning prog n p (continued f next) c.memory) u rest in
      subst (λ (o : Outcome). 1 ≤ o.depth) same (joined_deep c.depth v.depth)
    where
      joined_deep : (a b : ℕ) → 1 ≤ max (suc a) b
      joined_deep a b = omega arith
  deep_by (Call d g vs) is =
      let (c, found, v, gave, rest) = from_call (meaning prog n) p (waiting f d) d (meaning prog n (f.made ∷ p) (called p f g vs) m) u is in
      let (w, there, same) = joined_is c (meaning prog n p (resumed (waiting f d) d v) c.memory) u rest in
      subst (λ (o : Outcome). 1 ≤ o.depth) same (joined_deep c.depth w.depth)
    where
      joined_deep : (a b : ℕ) → 1 ≤ max (suc a) b
      joined_deep a b = omega arith
  deep_by (Reattach r) is = subst (λ (o : Outcome). 1 ≤ o.depth) (from_last Left m u is) (omega arith)
  deep_by (Return v) is = subst (λ (o : Outcome). 1 ≤ o.depth) (from_last (Gave v) (cleared p m) u is) (omega arith)

outcome_deep : (prog : Program) (n : ℕ) (p : Path) (f : Frame) (m : Memory) (o : Outcome) → meaning prog n p f m ≡ Some o → 1 ≤ o.depth
outcome_deep prog zero p f m o is = absurd (cc)
outcome_deep prog (suc n) p f m o is = deep_by prog n (outcome_deep prog n) p f m o (action_of prog p f m) is

pub meaning_means : (prog : Program) (n : ℕ) (p : Path) (f : Frame) (m : Memory) (o : Outcome) → meaning prog n p f m ≡ Some o → ComesTo prog p f m o
meaning_means prog n p f m o is = record { within = n; meets = is; deep = outcome_deep prog n p f m o is }

-- ---- by the action

module _ (prog : Program) (p : Path) (f : Frame) (m : Memory) where
  unfolds : (n : ℕ) (o : Outcome) → meaning prog n p f m ≡ Some o → (a : Action) → action_of prog p f m ≡ a → (k : ℕ) × (by_action (meaning prog k) p f m a ≡ Some o)
  unfolds zero o is a act = absurd (cc)
  unfolds (suc k) o is a act = (k, ap (by_action (meaning prog k) p f m) (sym act) ∙ is)

  pub plain_apart : (e : Effect) → action_of prog p f m ≡ Plain e → (o : Outcome) → ComesTo prog p f m o → (e.trap ≡ None) × (v : Outcome) × ComesTo prog p (went f e) (written e m) v × (one_more v ≡ o)
  plain_apart e act o h =
      let (k, is) = unfolds h.within o h.meets (Plain e) act in
      let (fine, next) = from_effect (meaning prog k) p f m e e.trap o is in
      let (v, there, same) = counted_is (meaning prog k p (went f e) (written e m)) o next in
      (fine, v, meaning_means prog k p (went f e) (written e m) v there, same)

  pub sync_apart : (r b : ℕ) (rs : Registers) → action_of prog p f m ≡ Sync r b rs → (o : Outcome) → ComesTo prog p f m o → (v : Outcome) × ComesTo prog p (synced f r b rs) m v × (one_more v ≡ o)
  sync_apart r b rs act o h =
      let (k, is) = unfolds h.within o h.meets (Sync r b rs) act in
      let (v, there, same) = counted_is (meaning prog k p (synced f r b rs) m) o is in
      (v, meaning_means prog k p (synced f r b rs) m v there, same)

  pub detach_apart : (r body next : ℕ) → action_of prog p f m ≡ Detach r body next → (o : Outcome) → ComesTo prog p f m o →
      (c : Outcome) × ComesTo prog (f.made ∷ p) (detached f r body next) m c × (c.ending ≡ Left) × (v : Outcome) × ComesTo prog p (continued f next) c.memory v × (both_outcomes c v ≡ o)
  detach_apart r body next act o h =
      let (k, is) = unfolds h.within o h.meets (Detach r body next) act in
      let (c, found, left, rest) = from_child (meaning prog k) p (continued f next) (meaning prog k (f.made ∷ p) (detached f r body next) m) o is in
      let (v, there, same) = joined_is c (meaning prog k p (continued f next) c.memory) o rest in
      (c, meaning_means prog k (f.made ∷ p) (detached f r body next) m c found, left, v, meaning_means prog k p (continued f next) c.memory v there, same)

  pub call_apart : (d : Option RegisterId) (g : ℕ) (vs : List Value) → action_of prog p f m ≡ Call d g vs → (o : Outcome) → ComesTo prog p f m o →
      (c : Outcome) × ComesTo prog (f.made ∷ p) (called p f g vs) m c × (v : Option ℤ) × (c.ending ≡ Gave v) × (w : Outcome) × ComesTo prog p (resumed (waiting f d) d v) c.memory w × (both_outcomes c w ≡ o)
  call_apart d g vs act o h =
      let (k, is) = unfolds h.within o h.meets (Call d g vs) act in
      let (c, found, v, gave, rest) = from_call (meaning prog k) p (waiting f d) d (meaning prog k (f.made ∷ p) (called p f g vs) m) o is in
      let (w, there, same) = joined_is c (meaning prog k p (resumed (waiting f d) d v) c.memory) o rest in
      (c, meaning_means prog k (f.made ∷ p) (called p f g vs) m c found, v, gave, w, meaning_means prog k p (resumed (waiting f d) d v) c.memory w there, same)

  pub reattach_apart : (r : ℕ) → action_of prog p f m ≡ Reattach r → (o : Outcome) → ComesTo prog p f m o → at_last Left m ≡ o
  reattach_apart r act o h = let (k, is) = unfolds h.within o h.meets (Reattach r) act in from_last Left m o is

  pub return_apart : (v : Option ℤ) → action_of prog p f m ≡ Return v → (o : Outcome) → ComesTo prog p f m o → at_last (Gave v) (cleared p m) ≡ o
  return_apart v act o h = let (k, is) = unfolds h.within o h.meets (Return v) act in from_last (Gave v) (cleared p m) o is
