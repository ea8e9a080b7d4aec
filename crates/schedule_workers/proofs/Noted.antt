-- Where frames are stalled after a step of the worker whose frame is in a slot.
use Rattle.std.proofs.Common.{◌≡◌, ◌≢◌, ℕ, reverse, Option, Some, None, true, cond, inl, inr, refl, sym, ap, ◌∙◌, subst}
use Rattle.std.proofs.lemmas.Bool.Decides.{eqb_tells}
use Rattle.std.specs.Option.{option_map}
use Rattle.std.proofs.lemmas.List.{reverse-reverse}
use Rattle.std.proofs.lemmas.Option.{same_Some}
use Rattle.linear.specs.declared.form.RegisterId.{RegisterId}
use Rattle.semantics.specs.Paths.{Path}
use Rattle.semantics.specs.Events as running
use Rattle.semantics.specs.Events.{Machine}
use Rattle.semantics.proofs.Actions.{same_path_itself}
use Rattle.semantics.proofs.Places.{same_path_apart}
use Rattle.program.specs.declared.function.Program.{Program}
use Rattle.program.specs.declared.identifier.BlockId.{BlockId}
use Rattle.frame.specs.declared.frame.Wait.TheVariants as wait
use Rattle.cactus.specs.declared.node.Node.{Node}
use Rattle.cactus.specs.Frames.{AddsChild, Frames, IsRemoved, node_at}
use Rattle.cactus.specs.Lending.{with_frame}
use Rattle.frame_engine.specs.declared.activation.Places.{Places}
use Rattle.schedule_workers.specs.declared.activation.Activation.{Activation}
use Rattle.schedule_workers.specs.declared.run.Run.{Run}
use Rattle.schedule_workers.specs.Scheduling.{hand_of}
use Rattle.schedule_workers.specs.RunShown.{IsShown, place_of}
use Rattle.schedule_workers.specs.Stalls.{Blocks, IsStalledIn, KeepsStalls, NotesStalls, block_of, noted}
use Rattle.schedule_workers.proofs.Onward.{seen}
use Rattle.schedule_workers.proofs.Uses.{added_is, found, remains}
use Rattle.schedule_workers.proofs.Views.{hand_seen}

-- ---- which frames are not stalled

-- whatever block is asked for
abbrev pub IsFree : Activation → Type 0
IsFree a = (last : Option ℕ) → IsStalledIn last a

pub run_free : (a : Activation) (worker : ℕ) → a.runner ≡ Some worker → IsFree a
run_free a worker runs last region unheld waits = absurd (let e : None ≡ Some worker = sym unheld ∙ runs in cc)

pub ready_free : (a : Activation) → a.frame.waits ≡ wait.Nothing → IsFree a
ready_free a ready last region unheld waits = absurd (let e : wait.Nothing ≡ wait.Region region = sym ready ∙ waits in cc)

pub calling_free : (a : Activation) (child : ℕ) (register : Option RegisterId) → a.frame.waits ≡ wait.Call child register → IsFree a
calling_free a child register calls last region unheld waits = absurd (let e : wait.Call child register ≡ wait.Region region = sym calls ∙ waits in cc)

-- it is stalled where the other is
pub record IsStalledAlike (a b : Activation) : Type 0 where
  pub runner : b.runner ≡ a.runner
  pub waits : b.frame.waits ≡ a.frame.waits
  pub block : b.stalled_in ≡ a.stalled_in

pub stalled_alike : (a b : Activation) → IsStalledAlike a b → (last : Option ℕ) → IsStalledIn last a → IsStalledIn last b
stalled_alike a b same last h region unheld waits = ap (option_map (λ (block : BlockId). block.0)) same.block ∙ h region (sym same.runner ∙ unheld) (sym same.waits ∙ waits)

-- ---- after the worker's step

module _ (prog : Program) (places : Places) (k : Run) (slot : ℕ) (node : Node Activation) (stands : node_at k.cactus slot ≡ Some node) (m : Machine) (shown : IsShown prog places m k) (w : ℕ) (hand : hand_of k.hands.items w ≡ Some slot) where
  abbrev p : Path
  p = place_of node

  -- why a frame is stalled, if it is, where the step left it so
  pub data IsTold (n : Node Activation) : Type 0 where
    free : IsFree n.frame → IsTold n
    -- the worker's own frame is so in the block in which it stood
    own : place_of n ≡ place_of node → IsStalledIn (Some node.frame.frame.place.block.0) n.frame → IsTold n
    other : (s : ℕ) (was : Node Activation) → s ≢ slot → node_at k.cactus s ≡ Some was → was.path ≡ n.path → ((last : Option ℕ) → IsStalledIn last was.frame → IsStalledIn last n.frame) → IsTold n

  abbrev pub AreTold : Frames Activation → Type 0
  AreTold frames = (s : ℕ) (n : Node Activation) → node_at frames s ≡ Some n → IsTold n

  has : m.hands w ≡ Some p
  has = shown.shows.hands w ∙ hand_seen k.cactus k.hands.items w slot node hand stands

  noted_here : (last : Blocks) → noted (running.Step w) m last p ≡ Some node.frame.frame.place.block.0
  noted_here last =
      let g = seen prog places k slot node node.frame stands m shown in
      ap (λ o. cond (running.is_place o p) (block_of (m.core.frames p)) (last p)) has
      ∙ (ap (λ b. cond b (block_of (m.core.frames p)) (last p)) (same_path_itself p)
      ∙ (ap block_of g.is ∙ ap Some g.shows.shown.block))

  noted_off : (last : Blocks) (q : Path) → p ≢ q → noted (running.Step w) m last q ≡ last q
  noted_off last q away =
      ap (λ o. cond (running.is_place o q) (block_of (m.core.frames q)) (last q)) has
      ∙ ap (λ b. cond b (block_of (m.core.frames q)) (last q)) (same_path_apart p q away)

  pub told_notes : (new : Frames Activation) → AreTold new → NotesStalls (running.Step w) m k.cactus new true
  told_notes new told last agree s n here = from (told s n here)
    where
      from : IsTold n → IsStalledIn (noted (running.Step w) m last (place_of n)) n.frame
      from (free h) = h (noted (running.Step w) m last (place_of n))
      from (own place h) = subst (λ q. IsStalledIn (noted (running.Step w) m last q) n.frame) (sym place) (subst (λ o. IsStalledIn o n.frame) (sym (noted_here last)) h)
      from (other x was away stood path like) =
          let apart : p ≢ place_of n = λ e. away (sym (shown.agrees.tree.distinct slot x node was stands stood (sym (reverse-reverse node.path.numbers) ∙ (ap reverse (e ∙ ap (λ t. reverse t.numbers) (sym path)) ∙ reverse-reverse was.path.numbers)))) in
          subst (λ o. IsStalledIn o n.frame) (sym (noted_off last (place_of n) apart))
          (like (last (place_of n)) (subst (λ t. IsStalledIn (last (reverse t.numbers)) was.frame) path (agree x was stood)))

  -- ---- what became of the slots

  told_other : (s : ℕ) (n : Node Activation) → s ≢ slot → node_at k.cactus s ≡ Some n → IsTold n
  told_other s n away here = other s n away here refl (λ last h. h)

  pub told_old : AreTold k.cactus
  told_old s n here =
      elim (eqb_tells slot s) [
        | inl h ↦
            let same : node ≡ n = same_Some node n (sym stands ∙ subst (λ x. node_at k.cactus x ≡ Some n) (sym h.1) here) in
            subst IsTold same (free (run_free node.frame w ((shown.agrees.runners slot w node stands).1 hand)))
        | inr h ↦ told_other s n (λ e. h.1 (sym e)) here
      ]

  pub told_added : (mid : Frames Activation) (parent number : ℕ) (b : Activation) (s : ℕ) → AddsChild k.cactus mid parent number b s → IsFree b → AreTold mid
  told_added mid parent number b s adds begins x n here =
      elim (eqb_tells s x) [
        | inl h ↦
            let is = added_is k.cactus mid parent number b s adds n (subst (λ y. node_at mid y ≡ Some n) (sym h.1) here) in
            free (subst (λ (y : Node Activation). IsFree y.frame) is begins)
        | inr h ↦ told_old x n (sym (adds.added.change.others x (λ e. h.1 (sym e))) ∙ here)
      ]

  pub told_removed : (mid : Frames Activation) (s : ℕ) → IsRemoved k.cactus mid s → AreTold mid
  told_removed mid s removed x n here = told_old x n (remains k.cactus mid s removed x n here).1

  pub told_written : (mid : Frames Activation) → AreTold mid → (at : ℕ) (c : Activation) → ((n : Node Activation) → node_at mid at ≡ Some n → IsTold (record n { frame = c })) → AreTold (with_frame mid at c)
  told_written mid told at c now s n here =
      elim (found mid at c s n here) [
        | inl h ↦ subst IsTold h.is (now h.was h.stood)
        | inr h ↦ told s n h
      ]

  -- the worker's frame alone changes
  pub own_notes : (c : Activation) → IsStalledIn (Some node.frame.frame.place.block.0) c → NotesStalls (running.Step w) m k.cactus (with_frame k.cactus slot c) true
  own_notes c h = told_notes (with_frame k.cactus slot c) (told_written k.cactus told_old slot c (λ n here. let same = same_Some node n (sym stands ∙ here) in own (ap (λ (x : Node Activation). place_of x) (sym same)) h))

  told_like : (n : Node Activation) (c : Activation) → ((last : Option ℕ) → IsStalledIn last n.frame → IsStalledIn last c) → IsTold n → IsTold (record n { frame = c })
  told_like n c like (free h) = free (λ last. like last (h last))
  told_like n c like (own place h) = own place (like (Some node.frame.frame.place.block.0) h)
  told_like n c like (other s was away stood path h) = other s was away stood path (λ last x. like last (h last x))

  -- a child begins, and its parent goes on or waits for it
  pub child_notes : (mid : Frames Activation) (parent number : ℕ) (b : Activation) (s : ℕ) → AddsChild k.cactus mid parent number b s → IsFree b → (at : ℕ) (c : Activation) → IsFree c → NotesStalls (running.Step w) m k.cactus (with_frame mid at c) true
  child_notes mid parent number b s adds begins at c goes = told_notes (with_frame mid at c) (told_written mid (told_added mid parent number b s adds begins) at c (λ n here. free goes))

  -- a frame ends, and another learns of it
  pub end_notes : (mid : Frames Activation) (s : ℕ) → IsRemoved k.cactus mid s → (at : ℕ) (c : Activation) → ((n : Node Activation) → node_at mid at ≡ Some n → (last : Option ℕ) → IsStalledIn last n.frame → IsStalledIn last c) → NotesStalls (running.Step w) m k.cactus (with_frame mid at c) true
  end_notes mid s removed at c like = told_notes (with_frame mid at c) (told_written mid (told_removed mid s removed) at c (λ n here. told_like n c (like n here) (told_removed mid s removed at n here)))

  pub last_notes : (mid : Frames Activation) (s : ℕ) → IsRemoved k.cactus mid s → NotesStalls (running.Step w) m k.cactus mid true
  last_notes mid s removed = told_notes mid (told_removed mid s removed)

-- ---- a frame is written that is stalled where it was

pub written_keeps : (frames : Frames Activation) (slot : ℕ) (c : Activation) → ((n : Node Activation) → node_at frames slot ≡ Some n → (last : Option ℕ) → IsStalledIn last n.frame → IsStalledIn last c) → KeepsStalls frames (with_frame frames slot c)
written_keeps frames slot c like last agree s n here =
    elim (found frames slot c s n here) [
      | inl h ↦ subst (λ (x : Node Activation). IsStalledIn (last (place_of x)) x.frame) h.is (like h.was h.stood (last (place_of h.was)) (agree slot h.was h.stood))
      | inr h ↦ agree s n h
    ]

pub written_keeps_one : (frames : Frames Activation) (slot : ℕ) (node : Node Activation) → node_at frames slot ≡ Some node → (c : Activation) → IsStalledAlike node.frame c → KeepsStalls frames (with_frame frames slot c)
written_keeps_one frames slot node stands c like =
    written_keeps frames slot c (λ n here. let same = same_Some node n (sym stands ∙ here) in subst (λ (x : Node Activation). (last : Option ℕ) → IsStalledIn last x.frame → IsStalledIn last c) same (stalled_alike node.frame c like))
