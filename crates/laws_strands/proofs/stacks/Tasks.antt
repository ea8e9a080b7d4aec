-- The tasks that a strand leaves.
use Rattle.std.proofs.Common.{◌≡◌, ℕ, zero, suc, ◌<◌, ◌≤◌, List, [], ◌∷◌, length, Option, Some, None, ◌≢◌, Bool, true, false, cond, inl, inr, refl, sym, ap, ◌∙◌, subst, arith, eq-eqb}
use Rattle.std.proofs.lemmas.Bool.Decides.{eqb_tells}
use Rattle.std.proofs.lemmas.List.Elements.{All-nil, All-cons}
use Rattle.std.specs.List.{All}
use Rattle.semantics.specs.Paths.{Path, same_path}
use Rattle.semantics.specs.Frames.{Free, Frame}
use Rattle.semantics.specs.Events.{Machine, is_place, holder, Running, Ready, waiting_status, status_at, with_hand}
use Rattle.semantics.proofs.Actions.{same_path_itself}
use Rattle.semantics.proofs.Places.{same_path_is, same_path_apart}
use Rattle.laws_strands.specs.stacks.Strands.{Placed, Strand}
use Rattle.laws_strands.specs.stacks.Law.{IsOrderly, Runs, with_frames, StrandsLeaveTasks}
use Rattle.laws_strands.proofs.stacks.Rising.{Rises, rises}
use Rattle.laws_strands.proofs.stacks.Moving.{holder_free, others}

-- the only worker that has a frame holds it
holder_is : (n : ℕ) (hands : ℕ → Option Path) (x : Path) (w : ℕ) → w < n → hands w ≡ Some x → ((v : ℕ) → w ≢ v → hands v ≢ Some x) → holder n hands x ≡ Some w
holder_is zero hands x w lt has alone = absurd (omega arith)
holder_is (suc n) hands x w lt has alone =
    elim (eqb_tells w n) [
      | inl h ↦
          let here : hands n ≡ Some x = subst (λ v. hands v ≡ Some x) h.1 has in
          rw (here, same_path_itself x) (ap (λ v. Some v) (sym h.1))
      | inr h ↦ let differ = h.1 in from (hands n) refl (alone n h.1) (holder_is n hands x w (omega arith) has alone)
    ]
  where
    by_place : (y : Path) (b : Bool) → hands n ≡ Some y → same_path y x ≡ b → hands n ≢ Some x → holder n hands x ≡ Some w → cond b (Some n) (holder n hands x) ≡ Some w
    by_place y true there is not rest = absurd (not (there ∙ ap (λ z. Some z) (same_path_is y x is)))
    by_place y false there is not rest = rest

    from : (o : Option Path) → hands n ≡ o → hands n ≢ Some x → holder n hands x ≡ Some w → cond (is_place o x) (Some n) (holder n hands x) ≡ Some w
    from None there not rest = rest
    from (Some y) there not rest = by_place y (same_path y x) there refl not rest

module _ (m : Machine) (w : ℕ) (workers : ℕ) (d : Strand) (runs : Runs m w d) (orderly : IsOrderly m) where
  abbrev hands : ℕ → Option Path
  hands = with_hand m.hands w (Some d.top.path)

  abbrev frames : Path → Option Frame
  frames = with_frames (d.top ∷ d.below) m.core.frames

  -- a frame of the strand is in the worker's hand, or in none
  in_hand : (t : Placed) (below : List Placed) → Rises d.base t below → (v : ℕ) → hands v ≡ Some t.path → (w ≡ v) × (d.top.path ≡ t.path)
  in_hand t below r v e =
      elim (eqb_tells w v) [
        | inl h ↦ (h.1, (let same : Some d.top.path ≡ Some t.path = rw h.0 at e in cc))
        | inr h ↦ absurd (others m w d.base orderly runs.hand runs.frame t below r v h.1 (rw h.0 at e))
      ]

  top_runs : w < workers → Rises d.base d.top d.below → status_at (frames d.top.path) (holder workers hands d.top.path) ≡ Some (Running w)
  top_runs lt r =
      let mine : hands w ≡ Some d.top.path = rw (eq-eqb w w refl) in
      ap (λ o. status_at (frames d.top.path) o) (holder_is workers hands d.top.path w lt mine (λ v differ has. differ (in_hand d.top d.below r v has).0))

  abbrev IsReady : Placed → Type 0
  IsReady g = g.frame.waits ≡ Free → status_at (frames g.path) (holder workers hands g.path) ≡ Some Ready

  ready : (t : Placed) (below : List Placed) → Rises d.base t below → length t.path ≤ length d.top.path → ((x : Path) → length x ≤ length t.path → frames x ≡ with_frames (t ∷ below) m.core.frames x) → All IsReady below
  ready t [] r high same = All-nil IsReady
  ready t (g ∷ rest) (k, is, next, new, more) high same =
      let up : length t.path ≡ suc (length g.path) = ap length is in
      All-cons IsReady g rest (λ free. here up free) (ready g rest more (omega arith) (λ x low. lower up x low))
    where
      lower : length t.path ≡ suc (length g.path) → (x : Path) → length x ≤ length g.path → frames x ≡ with_frames (g ∷ rest) m.core.frames x
      lower up x low = same x (omega arith) ∙ rw (same_path_apart t.path x (λ e. let n : length t.path ≡ length x = ap length e in omega arith))

      here : length t.path ≡ suc (length g.path) → g.frame.waits ≡ Free → status_at (frames g.path) (holder workers hands g.path) ≡ Some Ready
      here up free =
          let there : frames g.path ≡ Some g.frame = lower up g.path (omega arith) ∙ rw (same_path_itself g.path) in
          let none : holder workers hands g.path ≡ None =
          holder_free workers hands g.path (λ v has. let n : length d.top.path ≡ length g.path = ap length (in_hand g rest more v has).1 in absurd (omega arith)) in
          ap (λ o. status_at (frames g.path) o) none ∙ (ap (λ o. status_at o None) there ∙ ap (λ x. waiting_status x) free)

pub strands_leave_tasks : StrandsLeaveTasks
strands_leave_tasks prog workers m w d is runs orderly lt =
    let r = rises prog d is in
    record {
      runs = top_runs m w workers d runs orderly lt r;
      ready = ready m w workers d runs orderly d.top d.below r (omega arith) (λ x low. refl);
    }
