-- Workers and tasks after each step: who holds a frame can go on with it, and what nobody holds is parked.
use Rattle.std.proofs.Common.{◌≡◌, ℕ, zero, suc, ◌<◌, [], ◌∷◌, Option, Some, None, ◌≢◌, Bool, true, false, cond, not, ◌&&◌, eqb, eq-eqb, eqb-true, ◌⊎◌, inl, inr, refl, sym, ap, ◌∙◌, subst}
use Rattle.std.proofs.lemmas.Bool.Decides.{eqb_tells}
use Rattle.semantics.specs.Paths.{Path, same_path}
use Rattle.semantics.specs.Frames.{Free, OnRegion, OnCall, Role, Child, Body, Frame}
use Rattle.semantics.specs.State.{State, Change, apply, only, both, all_below, none_within, outside, outside_role}
use Rattle.semantics.specs.Tree.{Tree}
use Rattle.semantics.specs.Events.{is_place, with_hand, caller_of}
use Rattle.semantics.proofs.Actions.{same_path_itself}
use Rattle.semantics.proofs.Places.{same_path_tells, same_path_apart, only_here, both_first, both_second, no_own_child, all_below_kept}
use Rattle.semantics.proofs.Steps.{Does}
use Rattle.semantics.proofs.Diamond.{Goes, spot, Spot, is_moved, is_gone, is_fresh, is_above, goes_stays, stands, left_alone, same_frame}
use Rattle.semantics.proofs.TreeKept.{step_keeps_tree}
use Rattle.program.specs.linear.declared.form.RegisterId.{RegisterId}
use Rattle.program.specs.declared.function.Program.{Program}

-- no worker has this frame
abbrev pub Unheld : (ℕ → Option Path) → Path → Type 0
Unheld hands x = (w : ℕ) → hands w ≢ Some x

-- a frame with no worker: it waits for a call, its newest child lives, or a child lives in the region that it is stalled on
pub data Parked (s : State) (p : Path) (f : Frame) : Type 0 where
  calls : (k : ℕ) (d : Option RegisterId) → f.waits ≡ OnCall k d → Parked s p f
  ready : (k : ℕ) (c : Frame) → f.waits ≡ Free → f.made ≡ suc k → s.frames (k ∷ p) ≡ Some c → Parked s p f
  stalled : (r k n : ℕ) (c : Frame) → f.waits ≡ OnRegion r → s.frames (k ∷ p) ≡ Some c → c.role ≡ Child r n → Parked s p f

pub record Manned (workers : ℕ) (s : State) (hands : ℕ → Option Path) : Type 0 where
  pub tree : Tree s
  pub below : (w : ℕ) (p : Path) → hands w ≡ Some p → w < workers
  pub alone : (v w : ℕ) (p : Path) → hands v ≡ Some p → hands w ≡ Some p → v ≡ w
  pub goers : (w : ℕ) (p : Path) → hands w ≡ Some p → Goes s p
  pub parked : (p : Path) (f : Frame) → s.frames p ≡ Some f → Unheld hands p → Parked s p f

place_tells : (o : Option Path) (x : Path) → ((is_place o x ≡ true) × (o ≡ Some x)) ⊎ (is_place o x ≡ false)
place_tells None x = inr refl
place_tells (Some y) x = elim (same_path_tells y x) [ inl h ↦ inl (h.0, ap (λ z. Some z) h.1) | inr h ↦ inr h.0 ]

pub some_below : (n : ℕ) (f : ℕ → Bool) → all_below n f ≡ false → (k : ℕ) × (f k ≡ false)
some_below zero f e = absurd (cc)
some_below (suc n) f e = from (f n) refl e (some_below n f)
  where
    from : (b : Bool) → f n ≡ b → b && all_below n f ≡ false → (all_below n f ≡ false → (k : ℕ) × (f k ≡ false)) → (k : ℕ) × (f k ≡ false)
    from true is h rest = rest h
    from false is h rest = (n, is)

inside_role : (r : ℕ) (role : Role) → outside_role r role ≡ false → (n : ℕ) × (role ≡ Child r n)
inside_role r (Child q n) e = from (eqb r q) refl e
  where
    from : (b : Bool) → eqb r q ≡ b → not b ≡ false → (m : ℕ) × (Child q n ≡ Child r m)
    from true is h = (n, ap (λ x. Child x n) (sym (eqb-true r q is)))
    from false is h = absurd (cc)
inside_role r Body e = absurd (cc)

pub inside_frame : (r : ℕ) (o : Option Frame) → outside r o ≡ false → (f : Frame) × (n : ℕ) × (o ≡ Some f) × (f.role ≡ Child r n)
inside_frame r None e = absurd (cc)
inside_frame r (Some f) e = let (n, role) = inside_role r f.role e in (f, n, refl, role)

pub not_place : (x y : Path) → same_path y x ≡ false → y ≢ x
not_place x y e same = let h : same_path y x ≡ true = subst (λ z. same_path y z ≡ true) same (same_path_itself y) in cc

module _ (prog : Program) (workers : ℕ) (s : State) (hands : ℕ → Option Path) (man : Manned workers s hands) (w : ℕ) (p : Path) (here : hands w ≡ Some p) (c : Change) (dp : Does prog s p c) where
  module _ (next : Option Path) (lands : (y : Path) → next ≡ Some y → ((y ≡ p) ⊎ Unheld hands y) × Goes (apply c s) y)
      (leaves : (x : Path) (g : Frame) → (apply c s).frames x ≡ Some g → is_place next x ≡ false → ((x ≡ p) ⊎ Unheld hands x) → Parked (apply c s) x g) where
    hand_after : (v : ℕ) (x : Path) → with_hand hands w next v ≡ Some x → ((w ≡ v) × (next ≡ Some x)) ⊎ ((w ≢ v) × (hands v ≡ Some x))
    hand_after v x e = elim (eqb_tells w v) [ inl h ↦ inl (h.1, rw h.0 at e) | inr h ↦ inr (h.1, rw h.0 at e) ]

    hand_new : with_hand hands w next w ≡ next
    hand_new = rw (eq-eqb w w refl)

    hand_kept : (v : ℕ) → w ≢ v → with_hand hands w next v ≡ hands v
    hand_kept v apart = elim (eqb_tells w v) [ inl h ↦ absurd (apart h.1) | inr h ↦ rw h.0 ]

    below_next : (v : ℕ) (x : Path) → with_hand hands w next v ≡ Some x → v < workers
    below_next v x e = elim (hand_after v x e) [ inl h ↦ subst (λ n. n < workers) h.0 (man.below w p here) | inr h ↦ man.below v x h.1 ]

    -- nobody else has what the worker goes on with
    not_shared : (v : ℕ) (x : Path) → next ≡ Some x → w ≢ v → hands v ≡ Some x → ⊥
    not_shared v x to apart has = elim (lands x to).0 [ inl same ↦ apart (man.alone w v p here (subst (λ y. hands v ≡ Some y) same has)) | inr free ↦ free v has ]

    alone_next : (u v : ℕ) (x : Path) → with_hand hands w next u ≡ Some x → with_hand hands w next v ≡ Some x → u ≡ v
    alone_next u v x e h =
        elim (hand_after u x e) [
          | inl a ↦ elim (hand_after v x h) [ inl b ↦ sym a.0 ∙ b.0 | inr b ↦ absurd (not_shared v x a.1 b.0 b.1) ]
          | inr a ↦ elim (hand_after v x h) [ inl b ↦ absurd (not_shared u x b.1 a.0 a.1) | inr b ↦ man.alone u v x a.1 b.1 ]
        ]

    goers_next : (v : ℕ) (x : Path) → with_hand hands w next v ≡ Some x → Goes (apply c s) x
    goers_next v x e =
        elim (hand_after v x e) [
          | inl h ↦ (lands x h.1).1
          | inr h ↦ goes_stays man.tree (λ same. h.0 (man.alone w v p here (subst (λ y. hands v ≡ Some y) (sym same) h.1))) dp (man.goers v x h.1)
        ]

    parked_next : (x : Path) (g : Frame) → (apply c s).frames x ≡ Some g → Unheld (with_hand hands w next) x → Parked (apply c s) x g
    parked_next x g is free =
        elim (place_tells next x) [
          | inl h ↦ absurd (free w (hand_new ∙ h.1))
          | inr off ↦ elim (same_path_tells p x) [
            | inl k ↦ leaves x g is off (inl (sym k.1))
            | inr k ↦ leaves x g is off (inr (λ v has. elim (eqb_tells w v) [ inl e ↦ k.1 (let mine : hands v ≡ Some p = subst (λ n. hands n ≡ Some p) e.1 here in cc) | inr e ↦ free v (hand_kept v e.1 ∙ has) ]))
          ]
        ]

    pub manned_next : Manned workers (apply c s) (with_hand hands w next)
    manned_next = record { tree = step_keeps_tree man.tree dp; below = below_next; alone = alone_next; goers = goers_next; parked = parked_next }

  free_name : (x : Path) → s.frames x ≡ None → Unheld hands x
  free_name x none v e = let g = man.goers v x e in let is = g.is in cc

  waiting_unheld : (x : Path) (f : Frame) (k : ℕ) (d : Option RegisterId) → s.frames x ≡ Some f → f.waits ≡ OnCall k d → Unheld hands x
  waiting_unheld x f k d is waits v e = stands (man.goers v x e) f k d is waits

  -- a parked frame that the step leaves stays parked, unless it was parked for the frame that goes
  pub parked_stays : (x : Path) (g : Frame) → Unheld hands x → c.frames x ≡ None → (apply c s).frames x ≡ Some g →
      ((k : ℕ) → p ≡ k ∷ x → c.frames p ≡ Some None → g.waits ≡ Free → g.made ≡ suc k → Parked (apply c s) x g) →
      ((k r n : ℕ) (f : Frame) → p ≡ k ∷ x → c.frames p ≡ Some None → g.waits ≡ OnRegion r → s.frames p ≡ Some f → f.role ≡ Child r n → Parked (apply c s) x g) →
      Parked (apply c s) x g
  parked_stays x g none same now by_ready by_stalled = from (man.parked x g old none)
    where
      old : s.frames x ≡ Some g
      old = sym (left_alone c s x same) ∙ now

      new : (y : Path) (o : Option Frame) → c.frames y ≡ Some o → (apply c s).frames y ≡ o
      new y o e = rw e

      gone_here : (k : ℕ) (o : Option Frame) → k ∷ x ≡ p → c.frames (k ∷ x) ≡ Some o → o ≡ None → c.frames p ≡ Some None
      gone_here k o at e none = subst (λ y. c.frames y ≡ Some None) at (e ∙ ap (λ z. Some z) none)

      ready_spot : (k : ℕ) (o : Option Frame) → g.waits ≡ Free → g.made ≡ suc k → c.frames (k ∷ x) ≡ Some o → (d : Frame) → s.frames (k ∷ x) ≡ Some d → Spot s p c.frames (k ∷ x) o → Parked (apply c s) x g
      ready_spot k o free made e d lives (is_moved f h at was now2 role m cs) = ready k h free made (new _ o e ∙ now2)
      ready_spot k o free made e d lives (is_gone f at was now2 no_child hands) = by_ready k (sym at) (gone_here k o at e now2) free made
      ready_spot k o free made e d lives (is_fresh j f h at was now2 fr up m cs) = absurd (cc)
      ready_spot k o free made e d lives (is_above j dd f h at was wt now2 role m fr up) = ready k h free made (new _ o e ∙ now2)

      stalled_spot : (r k n : ℕ) (o : Option Frame) → g.waits ≡ OnRegion r → c.frames (k ∷ x) ≡ Some o → (d : Frame) → s.frames (k ∷ x) ≡ Some d → d.role ≡ Child r n → Spot s p c.frames (k ∷ x) o → Parked (apply c s) x g
      stalled_spot r k n o wait e d lives in_r (is_moved f h at was now2 role m cs) = stalled r k n h wait (new _ o e ∙ now2) (role ∙ ap (λ y. y.role) (same_frame _ f d was lives) ∙ in_r)
      stalled_spot r k n o wait e d lives in_r (is_gone f at was now2 no_child hands) = by_stalled k r n d (sym at) (gone_here k o at e now2) wait (subst (λ y. s.frames y ≡ Some d) at lives) in_r
      stalled_spot r k n o wait e d lives in_r (is_fresh j f h at was now2 fr up m cs) = absurd (cc)
      stalled_spot r k n o wait e d lives in_r (is_above j dd f h at was wt now2 role m fr up) = stalled r k n h wait (new _ o e ∙ now2) (role ∙ ap (λ y. y.role) (same_frame _ f d was lives) ∙ in_r)

      from : Parked s x g → Parked (apply c s) x g
      from (calls k d wait) = calls k d wait
      from (ready k d free made lives) = by_at (c.frames (k ∷ x)) refl
        where
          by_at : (o : Option (Option Frame)) → c.frames (k ∷ x) ≡ o → Parked (apply c s) x g
          by_at None e = ready k d free made (left_alone c s _ e ∙ lives)
          by_at (Some o) e = ready_spot k o free made e d lives (spot man.tree dp _ o e)
      from (stalled r k n d wait lives in_r) = by_at (c.frames (k ∷ x)) refl
        where
          by_at : (o : Option (Option Frame)) → c.frames (k ∷ x) ≡ o → Parked (apply c s) x g
          by_at None e = stalled r k n d wait (left_alone c s _ e ∙ lives) in_r
          by_at (Some o) e = stalled_spot r k n o wait e d lives in_r (spot man.tree dp _ o e)

  -- where the frame of the step does not go, the others stay parked
  others_stay : (h : Frame) → c.frames p ≡ Some (Some h) → (x : Path) (g : Frame) → Unheld hands x → c.frames x ≡ None → (apply c s).frames x ≡ Some g → Parked (apply c s) x g
  others_stay h stays x g none same now = parked_stays x g none same now (λ k up gone free made. absurd (cc)) (λ k r n f up gone wait is in_r. absurd (cc))

  pub left_place : (o : Option Frame) (x : Path) → p ≢ x → only p o x ≡ None
  left_place o x apart = rw (same_path_apart p x apart)

  left_both : (q : Path) (o u : Option Frame) (x : Path) → p ≢ x → q ≢ x → both p o q u x ≡ None
  left_both q o u x apart apart2 = rw (same_path_apart p x apart, same_path_apart q x apart2)

  unheld : (x : Path) → p ≢ x → ((x ≡ p) ⊎ Unheld hands x) → Unheld hands x
  unheld x apart h = elim h [ inl e ↦ absurd (apart (sym e)) | inr e ↦ e ]

  free_goes : (x : Path) (f : Frame) → c.frames x ≡ Some (Some f) → f.waits ≡ Free → Goes (apply c s) x
  free_goes x f at free = record { frame = f; is = rw at; may = rw free }

  -- the frame at p as it stands after the step
  now_at : (h g : Frame) (x : Path) → c.frames p ≡ Some (Some h) → p ≡ x → (apply c s).frames x ≡ Some g → Parked (apply c s) p h → Parked (apply c s) x g
  now_at h g x mine e is parked =
      let now : (apply c s).frames p ≡ Some h = rw mine in
      let there : (apply c s).frames p ≡ Some g = subst (λ z. (apply c s).frames z ≡ Some g) (sym e) is in
      let same : h ≡ g = cc in
      subst (λ z. Parked (apply c s) z g) e (subst (λ (z : Frame). Parked (apply c s) p z) same parked)

  pub plain_manned : (f : Frame) → c.frames ≡ only p (Some f) → f.waits ≡ Free → Manned workers (apply c s) (with_hand hands w (Some p))
  plain_manned f at free =
      let mine : c.frames p ≡ Some (Some f) = ap (λ m. m p) at ∙ only_here p (Some f) in
      manned_next (Some p)
      (λ y e. let same : p ≡ y = cc in (inl (sym same), subst (λ z. Goes (apply c s) z) same (free_goes p f mine free)))
      (λ x g is off h. let apart = not_place x p off in others_stay f mine x g (unheld x apart h) (ap (λ m. m x) at ∙ left_place (Some f) x apart) is)

  -- a child is made, and the worker goes on with it
  pub child_manned : (k : ℕ) (f d : Frame) → c.frames ≡ both p (Some f) (k ∷ p) (Some d) → s.frames (k ∷ p) ≡ None → d.waits ≡ Free → Parked (apply c s) p f → Manned workers (apply c s) (with_hand hands w (Some (k ∷ p)))
  child_manned k f d at none free parked =
      let mine : c.frames p ≡ Some (Some f) = ap (λ m. m p) at ∙ both_first p (k ∷ p) _ _ in
      let child : c.frames (k ∷ p) ≡ Some (Some d) = ap (λ m. m (k ∷ p)) at ∙ both_second p (k ∷ p) _ _ (λ e. no_own_child k p (sym e)) in
      manned_next (Some (k ∷ p))
      (λ y e. let same : k ∷ p ≡ y = cc in (inr (subst (λ z. Unheld hands z) same (free_name (k ∷ p) none)), subst (λ z. Goes (apply c s) z) same (free_goes (k ∷ p) d child free)))
      (λ x g is off h.
      elim (same_path_tells p x) [
        | inl e ↦ now_at f g x mine e.1 is parked
        | inr e ↦ others_stay f mine x g (unheld x e.1 h) (ap (λ m. m x) at ∙ left_both (k ∷ p) (Some f) (Some d) x e.1 (not_place x (k ∷ p) off)) is
      ])

  -- the frame goes, and the worker goes on above it or is idle
  pub gone_manned : c.frames p ≡ Some None → (next : Option Path) → ((y : Path) → next ≡ Some y → Unheld hands y × Goes (apply c s) y) →
      ((x : Path) (g : Frame) → (apply c s).frames x ≡ Some g → p ≢ x → Unheld hands x → is_place next x ≡ false → Parked (apply c s) x g) → Manned workers (apply c s) (with_hand hands w next)
  gone_manned at next lands leaves =
      manned_next next
      (λ y e. let (none, go) = lands y e in (inr none, go))
      (λ x g is off h.
      elim (same_path_tells p x) [
        | inl e ↦
            let now : (apply c s).frames p ≡ None = rw at in
            let there : (apply c s).frames p ≡ Some g = subst (λ z. (apply c s).frames z ≡ Some g) (sym e.1) is in
            absurd (cc)
        | inr e ↦ leaves x g is e.1 (unheld x e.1 h) off
      ])

  -- a change of p alone leaves its children
  below_alone : (o : Option Frame) → c.frames ≡ only p o → (k : ℕ) → (apply c s).frames (k ∷ p) ≡ s.frames (k ∷ p)
  below_alone o at k = left_alone c s (k ∷ p) (ap (λ m. m (k ∷ p)) at ∙ left_place o (k ∷ p) (λ e. no_own_child k p (sym e)))

  -- a step of the frame alone, after which it is parked
  parked_manned : (h : Frame) → c.frames ≡ only p (Some h) → Parked (apply c s) p h → Manned workers (apply c s) (with_hand hands w None)
  parked_manned h at parked =
      let mine : c.frames p ≡ Some (Some h) = ap (λ m. m p) at ∙ only_here p (Some h) in
      manned_next None
      (λ y e. absurd (cc))
      (λ x g is off k.
      elim (same_path_tells p x) [
        | inl e ↦ now_at h g x mine e.1 is parked
        | inr e ↦ others_stay h mine x g (unheld x e.1 k) (ap (λ m. m x) at ∙ left_place (Some h) x e.1) is
      ])

  pub sync_manned : (made r : ℕ) (after : Frame) → c.frames ≡ only p (Some after) → after.waits ≡ OnRegion r → after.made ≡ made → (t : Bool) → none_within s p made r ≡ t → Manned workers (apply c s) (with_hand hands w (cond t (Some p) None))
  sync_manned made r after at wait same_made true passes =
      let mine : c.frames p ≡ Some (Some after) = ap (λ m. m p) at ∙ only_here p (Some after) in
      manned_next (Some p)
      (λ y e. let same : p ≡ y = cc in
      (inl (sym same), subst (λ z. Goes (apply c s) z) same (record { frame = after; is = rw mine; may = rw (wait, same_made) (all_below_kept made _ _ (λ k lt h. rw (below_alone (Some after) at k) h) passes) })))
      (λ x g is off h. let apart = not_place x p off in others_stay after mine x g (unheld x apart h) (ap (λ m. m x) at ∙ left_place (Some after) x apart) is)
  sync_manned made r after at wait same_made false stalls =
      let (k, inside) = some_below made _ stalls in
      let (d, n, lives, role) = inside_frame r (s.frames (k ∷ p)) inside in
      parked_manned after at (stalled r k n d wait (below_alone (Some after) at k ∙ lives) role)

  pub return_manned : (k : ℕ) (above : Path) (g h : Frame) (j : ℕ) (d : Option RegisterId) → c.frames ≡ both p None above (Some h) → h.waits ≡ Free → p ≡ k ∷ above → s.frames above ≡ Some g → g.waits ≡ OnCall j d → Manned workers (apply c s) (with_hand hands w (caller_of p))
  return_manned k above g h j d at free up is waits =
      let apart : p ≢ above = (λ e. no_own_child k above (sym up ∙ e)) in
      let top : c.frames above ≡ Some (Some h) = ap (λ m. m above) at ∙ both_second p above _ _ apart in
      let next : caller_of p ≡ Some above = ap caller_of up in
      gone_manned (ap (λ m. m p) at ∙ both_first p above _ _) (caller_of p)
      (λ y e. let same : above ≡ y = cc in (subst (λ z. Unheld hands z) same (waiting_unheld above g j d is waits), subst (λ z. Goes (apply c s) z) same (free_goes above h top free)))
      (λ x u now off none away.
      let not_above : above ≢ x = not_place x above (rw next at away) in
      parked_stays x u none (ap (λ m. m x) at ∙ left_both above None (Some h) x off not_above) now (λ m e gone free made. absurd (not_above (cc))) (λ m r n f e gone wait fs in_r. absurd (not_above (cc))))

  pub end_manned : c.frames ≡ only p None → p ≡ [] → Manned workers (apply c s) (with_hand hands w (caller_of p))
  end_manned at root =
      let next : caller_of p ≡ None = ap caller_of root in
      gone_manned (ap (λ m. m p) at ∙ only_here p None) (caller_of p)
      (λ y e. absurd (cc))
      (λ x h now off none away. parked_stays x h none (ap (λ m. m x) at ∙ left_place None x off) now (λ m e gone free made. absurd (cc)) (λ m r n f e gone wait fs in_r. absurd (cc)))
