-- Each event that does not trap keeps what is known of workers and tasks.
use Rattle.std.proofs.Common.{◌≡◌, ℕ, zero, suc, ◌<◌, [], ◌∷◌, Option, Some, None, ◌≢◌, Bool, true, false, cond, ◌&&◌, ltb-true, eqb, eq-eqb, ◌⊎◌, inl, inr, refl, sym, ap, ◌∙◌, subst, arith, is_none}
use Rattle.std.proofs.lemmas.Bool.Decides.{eqb_tells}
use Rattle.std.proofs.lemmas.Bool.{and_parts}
use Rattle.semantics.specs.Paths.{Path}
use Rattle.semantics.specs.Arithmetic.{Trap}
use Rattle.semantics.specs.Frames.{Wait, Free, OnRegion, OnCall, Halted, Child, Frame}
use Rattle.semantics.specs.Effect.{Action, Plain, Detach, Reattach, Sync, Call, Return, action_of}
use Rattle.semantics.specs.State.{State, Change, apply, none_within, may_go, wait_after, went, detached, continued, synced, called, waiting, resumed, reattach_change}
use Rattle.semantics.specs.Events.{Machine, Steal, is_place, holder, Status, Running, Ready, Stalled, waiting_status, unheld_status, status_at, top_status, top_of, status_of, with_hand, unless_held, may_be_taken, after_reattach, next_hand, if_ready, stolen, sound_event}
use Rattle.semantics.proofs.Places.{same_path_is, only_here, both_second, no_own_child}
use Rattle.semantics.proofs.Steps.{Does, plain, detach, reattach, sync, call, ret, end}
use Rattle.semantics.proofs.Diamond.{Goes, left_alone, same_frame, next_free}
use Rattle.semantics.proofs.Workers.{Unheld, Parked, calls, ready, stalled, Manned, some_below, inside_frame, not_place, parked_stays, left_place, plain_manned, child_manned, gone_manned, sync_manned, return_manned, end_manned}
use Rattle.program.specs.declared.function.Program.{Program}

-- ---- who holds a frame

place_is : (o : Option Path) (x : Path) → is_place o x ≡ true → o ≡ Some x
place_is None x e = absurd (cc)
place_is (Some y) x e = ap (λ z. Some z) (same_path_is y x e)

place_here : (o : Option Path) (x : Path) → o ≡ Some x → is_place o x ≡ false → ⊥
place_here o x e off =
    let t : is_place (Some x) x ≡ false = subst (λ z. is_place z x ≡ false) e off in
    not_place x x t refl

pub holder_some : (n : ℕ) (hands : ℕ → Option Path) (x : Path) (w : ℕ) → holder n hands x ≡ Some w → hands w ≡ Some x
holder_some zero hands x w e = absurd (cc)
holder_some (suc n) hands x w e = from (is_place (hands n) x) refl e (holder_some n hands x w)
  where
    from : (b : Bool) → is_place (hands n) x ≡ b → cond b (Some n) (holder n hands x) ≡ Some w → (holder n hands x ≡ Some w → hands w ≡ Some x) → hands w ≡ Some x
    from true is h rest = let same : n ≡ w = cc in subst (λ v. hands v ≡ Some x) same (place_is (hands n) x is)
    from false is h rest = rest h

holder_none : (n : ℕ) (hands : ℕ → Option Path) (x : Path) → holder n hands x ≡ None → (w : ℕ) → w < n → hands w ≡ Some x → ⊥
holder_none zero hands x e w lt has = absurd (omega arith)
holder_none (suc n) hands x e w lt has = from (is_place (hands n) x) refl e (holder_none n hands x)
  where
    from : (b : Bool) → is_place (hands n) x ≡ b → cond b (Some n) (holder n hands x) ≡ None → (holder n hands x ≡ None → (v : ℕ) → v < n → hands v ≡ Some x → ⊥) → ⊥
    from true is h rest = absurd (let f : Some n ≡ None = h in cc)
    from false is h rest =
        elim (eqb_tells w n) [
          | inl k ↦ place_here (hands n) x (subst (λ v. hands v ≡ Some x) k.1 has) is
          | inr k ↦ let differ = k.1 in rest h w (omega arith) has
        ]

pub unheld_by : (workers : ℕ) (s : State) (hands : ℕ → Option Path) → Manned workers s hands → (x : Path) → holder workers hands x ≡ None → Unheld hands x
unheld_by workers s hands man x none w has = holder_none workers hands x none w (man.below w x has) has

-- ---- a step

module _ (prog : Program) (workers : ℕ) (m : Machine) (man : Manned workers m.core m.hands) (w : ℕ) (p : Path) (here : m.hands w ≡ Some p) where
  -- the parent of the child that went, where it is not taken: it was not waiting for that child alone
  module _ (k : ℕ) (above : Path) (region n : ℕ) (f g : Frame) (dp : Does prog m.core p (reattach_change p)) (up : p ≡ k ∷ above) (is : m.core.frames p ≡ Some f) (role : f.role ≡ Child region n) (over : m.core.frames above ≡ Some g) where
    abbrev new : State
    new = apply (reattach_change p) m.core

    gone_now : (reattach_change p).frames p ≡ Some None
    gone_now = only_here p None

    not_above : p ≢ above
    not_above e = no_own_child k above (sym up ∙ e)

    above_now : new.frames above ≡ Some g
    above_now = left_alone (reattach_change p) m.core above (left_place prog workers m.core m.hands man w p here (reattach_change p) dp None above not_above) ∙ over

    taken_goes : (x : Wait) → g.waits ≡ x → may_be_taken new k above region g x ≡ true → may_go new above g.made g.waits ≡ true
    taken_goes Free e t = rw e
    taken_goes (OnRegion r) e t = rw e ((and_parts (eqb r region) _ t).1)
    taken_goes (OnCall j d) e t = absurd (cc)
    taken_goes Halted e t = absurd (cc)

    other_newest : (j : ℕ) → may_be_taken new k above region g g.waits ≡ false → p ≡ j ∷ above → g.waits ≡ Free → g.made ≡ suc j → ⊥
    other_newest j t e free made =
        let same : k ≡ j = cc in
        let t2 : eqb g.made (suc k) ≡ false = rw free at t in
        let t3 : eqb g.made (suc k) ≡ true = eq-eqb g.made (suc k) (made ∙ ap (λ x. suc x) (sym same)) in
        cc

    other_child : (r i : ℕ) (e : Frame) → may_be_taken new k above region g g.waits ≡ false → g.waits ≡ OnRegion r → m.core.frames p ≡ Some e → e.role ≡ Child r i → Parked new above g
    other_child r i e t wait there in_r =
        let same : f ≡ e = same_frame (m.core.frames p) f e is there in
        let roles : Child region n ≡ Child r i = sym role ∙ ap (λ y. y.role) same ∙ in_r in
        let one : r ≡ region = cc in
        let t2 : eqb r region && none_within new above g.made r ≡ false = rw wait at t in
        let t3 : none_within new above g.made r ≡ false = rw (eq-eqb r region one) at t2 in
        let (j, inside) = some_below g.made _ t3 in
        let (d, l, lives, role2) = inside_frame r (new.frames (j ∷ above)) inside in
        stalled r j l d wait lives role2

    nobody : {A : Type 0} (y : Path) → None ≡ Some y → A
    nobody y e = absurd (let f : None ≡ Some y = e in cc)

    -- the frame above as it stands after the step
    at_above : (x : Path) (h : Frame) → x ≡ above → new.frames x ≡ Some h → h ≡ g
    at_above x h same now = same_frame (new.frames above) h g (subst (λ z. new.frames z ≡ Some h) same now) above_now

    join_manned : (o : Option ℕ) (t : Bool) → holder workers m.hands above ≡ o → may_be_taken new k above region g g.waits ≡ t → Manned workers new (with_hand m.hands w (unless_held o t above))
    join_manned (Some v) t held taken =
        gone_manned prog workers m.core m.hands man w p here (reattach_change p) dp gone_now None (λ y e. nobody y e)
        (λ x h now off none away.
        parked_stays prog workers m.core m.hands man w p here (reattach_change p) dp x h none (left_place prog workers m.core m.hands man w p here (reattach_change p) dp None x off) now
        (λ j e gone free made. absurd (let same : above ≡ x = cc in none v (subst (λ z. m.hands v ≡ Some z) same (holder_some workers m.hands above v held))))
        (λ j r i u e gone wait us in_r. absurd (let same : above ≡ x = cc in none v (subst (λ z. m.hands v ≡ Some z) same (holder_some workers m.hands above v held)))))
    join_manned None true held taken =
        gone_manned prog workers m.core m.hands man w p here (reattach_change p) dp gone_now (Some above)
        (λ y e. let same : above ≡ y = cc in
        (subst (λ z. Unheld m.hands z) same (unheld_by workers m.core m.hands man above held), subst (λ z. Goes new z) same (record { frame = g; is = above_now; may = taken_goes g.waits refl taken })))
        (λ x h now off none away.
        let apart = not_place x above away in
        parked_stays prog workers m.core m.hands man w p here (reattach_change p) dp x h none (left_place prog workers m.core m.hands man w p here (reattach_change p) dp None x off) now
        (λ j e gone free made. absurd (apart (cc)))
        (λ j r i u e gone wait us in_r. absurd (apart (cc))))
    join_manned None false held taken =
        gone_manned prog workers m.core m.hands man w p here (reattach_change p) dp gone_now None (λ y e. nobody y e)
        (λ x h now off none away.
        parked_stays prog workers m.core m.hands man w p here (reattach_change p) dp x h none (left_place prog workers m.core m.hands man w p here (reattach_change p) dp None x off) now
        (λ j e gone free made.
        let same : x ≡ above = cc in
        let h_is : h ≡ g = at_above x h same now in
        absurd (other_newest j taken (subst (λ z. p ≡ j ∷ z) same e) (sym (ap (λ y. y.waits) h_is) ∙ free) (sym (ap (λ y. y.made) h_is) ∙ made)))
        (λ j r i u e gone wait us in_r.
        let same : x ≡ above = cc in
        let h_is : h ≡ g = at_above x h same now in
        subst (λ z. Parked new z h) (sym same) (subst (λ (z : Frame). Parked new above z) (sym h_is) (other_child r i u taken (sym (ap (λ y. y.waits) h_is) ∙ wait) us in_r))))

  reattach_manned : (f : Frame) (r n : ℕ) → Does prog m.core p (reattach_change p) → m.core.frames p ≡ Some f → f.role ≡ Child r n → (x : Path) → p ≡ x →
      Manned workers (apply (reattach_change p) m.core) (with_hand m.hands w (after_reattach workers m (apply (reattach_change p) m.core) x r))
  reattach_manned f r n dp is in_r [] up =
      gone_manned prog workers m.core m.hands man w p here (reattach_change p) dp (only_here p None) None
      (λ y e. absurd (cc))
      (λ x h now off none away. parked_stays prog workers m.core m.hands man w p here (reattach_change p) dp x h none (left_place prog workers m.core m.hands man w p here (reattach_change p) dp None x off) now (λ j e gone free made. absurd (cc)) (λ j q i u e gone wait us in_q. absurd (cc)))
  reattach_manned f r n dp is in_r (k ∷ above) up =
      let (g, over, lt) = man.tree.has_parent k above f (subst (λ y. m.core.frames y ≡ Some f) up is) in
      rw over (join_manned k above r n f g dp up is in_r over (holder workers m.hands above) _ refl refl)

  abbrev After : Change → Frame → Action → Type 0
  After c f a = Manned workers (apply c m.core) (with_hand m.hands w (next_hand workers m (apply c m.core) p f a))

  -- the frame of the step is the one that stands there
  as_done : (c : Change) (f g : Frame) (a : Action) → m.core.frames p ≡ Some f → m.core.frames p ≡ Some g → action_of prog p f m.core.memory ≡ a → After c f a → After c g (action_of prog p g m.core.memory)
  as_done c f g a is is2 at done =
      let same : f ≡ g = same_frame (m.core.frames p) f g is is2 in
      subst (λ (z : Frame). After c z (action_of prog p z m.core.memory)) same (subst (λ x. After c f x) (sym at) done)

  free_after : (o : Option Trap) → o ≡ None → wait_after o ≡ Free
  free_after None e = refl
  free_after (Some t) e = absurd (cc)

  -- the step of the frame that is held, by cases
  pub step_manned : (c : Change) → Does prog m.core p c → c.trap ≡ None → (g : Frame) → m.core.frames p ≡ Some g → After c g (action_of prog p g m.core.memory)
  step_manned c (plain f e is go at) fine g is2 =
      as_done c f g (Plain e) is is2 at (plain_manned prog workers m.core m.hands man w p here c (plain f e is go at) (went f e) refl (free_after e.trap fine))
  step_manned c (detach f r b n is go at) fine g is2 =
      as_done c f g (Detach r b n) is is2 at
      (child_manned prog workers m.core m.hands man w p here c (detach f r b n is go at) f.made (continued f n) (detached f r b n) refl (next_free man.tree p f is) refl
      (ready f.made (detached f r b n) refl refl (rw (both_second p (f.made ∷ p) (Some (continued f n)) (Some (detached f r b n)) (λ e. no_own_child f.made p (sym e))))))
  step_manned c (reattach f r n is go at none role) fine g is2 =
      as_done c f g (Reattach r) is is2 at (reattach_manned f r n (reattach f r n is go at none role) is role p refl)
  step_manned c (sync f r b rs is go at) fine g is2 =
      as_done c f g (Sync r b rs) is is2 at (sync_manned prog workers m.core m.hands man w p here c (sync f r b rs is go at) f.made r (synced f r b rs) refl refl refl (none_within m.core p f.made r) refl)
  step_manned c (call f d callee vs is go at) fine g is2 =
      as_done c f g (Call d callee vs) is is2 at
      (child_manned prog workers m.core m.hands man w p here c (call f d callee vs is go at) f.made (waiting f d) (called p f callee vs) refl (next_free man.tree p f is) refl (calls f.made d refl))
  step_manned c (ret f v k above u j d is go at none role up over waits) fine g is2 =
      as_done c f g (Return v) is is2 at (return_manned prog workers m.core m.hands man w p here c (ret f v k above u j d is go at none role up over waits) k above u (resumed u d v) j d refl refl up over waits)
  step_manned c (end f v is go at none role up) fine g is2 =
      as_done c f g (Return v) is is2 at (end_manned prog workers m.core m.hands man w p here c (end f v is go at none role up) refl up)

-- ---- a steal

free_wait : (w : Wait) → waiting_status w ≡ Some Ready → w ≡ Free
free_wait Free e = refl
free_wait (OnRegion r) e = absurd (let f : Some (Stalled r) ≡ Some Ready = e in cc)
free_wait (OnCall k d) e = absurd (cc)
free_wait Halted e = absurd (cc)

unheld_ready : (o : Option Frame) → unheld_status o ≡ Some Ready → (f : Frame) × (o ≡ Some f) × (f.waits ≡ Free)
unheld_ready None e = absurd (cc)
unheld_ready (Some f) e = (f, refl, free_wait f.waits e)

ready_at : (f : Option Frame) (o : Option ℕ) → status_at f o ≡ Some Ready → (o ≡ None) × (unheld_status f ≡ Some Ready)
ready_at f None e = (refl, e)
ready_at f (Some w) e = absurd (let g : Some (Running w) ≡ Some Ready = e in cc)

cond_true : {A : Type 0} (t : Bool) (o : Option A) (a : A) → cond t o None ≡ Some a → (t ≡ true) × (o ≡ Some a)
cond_true true o a e = (refl, e)
cond_true false o a e = absurd (cc)

pub is_none_true : {A : Type 0} (o : Option A) → is_none o ≡ true → o ≡ None
is_none_true None e = refl
is_none_true (Some a) e = absurd (cc)

ready_is : (m after : Machine) (o : Option Status) → if_ready m o ≡ Some after → (o ≡ Some Ready) × (m ≡ after)
ready_is m after None e = absurd (cc)
ready_is m after (Some Ready) e = (refl, cc)
ready_is m after (Some (Running w)) e = absurd (cc)
ready_is m after (Some (Stalled r)) e = absurd (cc)

module _ (workers : ℕ) (m : Machine) (man : Manned workers m.core m.hands) where
  steal_manned : (w : ℕ) (x : Path) (f : Frame) → w < workers → m.hands w ≡ None → m.core.frames x ≡ Some f → f.waits ≡ Free → Unheld m.hands x → Manned workers m.core (with_hand m.hands w (Some x))
  steal_manned w x f lt idle is free none =
      record {
        tree = man.tree;
        below = λ v y e. elim (hand_after v y e) [ inl h ↦ subst (λ n. n < workers) h.0 lt | inr h ↦ man.below v y h.1 ];
        alone = λ u v y e h.
            elim (hand_after u y e) [
              | inl a ↦ elim (hand_after v y h) [ inl b ↦ sym a.0 ∙ b.0 | inr b ↦ absurd (none v (subst (λ z. m.hands v ≡ Some z) (sym a.1) b.1)) ]
              | inr a ↦ elim (hand_after v y h) [ inl b ↦ absurd (none u (subst (λ z. m.hands u ≡ Some z) (sym b.1) a.1)) | inr b ↦ man.alone u v y a.1 b.1 ]
            ];
        goers = λ v y e. elim (hand_after v y e) [ inl h ↦ subst (λ z. Goes m.core z) h.1 (record { frame = f; is = is; may = rw free }) | inr h ↦ man.goers v y h.1 ];
        parked = λ y g e n. man.parked y g e (λ v has.
            elim (eqb_tells w v) [
              | inl h ↦ let i : m.hands v ≡ None = subst (λ k. m.hands k ≡ None) h.1 idle in cc
              | inr h ↦ n v (rw h.0 has)
            ]);
      }
    where
      hand_after : (v : ℕ) (y : Path) → with_hand m.hands w (Some x) v ≡ Some y → ((w ≡ v) × (x ≡ y)) ⊎ ((w ≢ v) × (m.hands v ≡ Some y))
      hand_after v y e = elim (eqb_tells w v) [ inl h ↦ inl (h.1, (let e2 = rw h.0 at e in cc)) | inr h ↦ inr (h.1, rw h.0 at e) ]

  -- what a steal that is enabled finds
  pub record Found (w : ℕ) (t : Path) (after : Machine) : Type 0 where
    pub top : Frame
    pub within : w < workers
    pub idle : m.hands w ≡ None
    pub is : m.core.frames (top_of m.core t) ≡ Some top
    pub free : top.waits ≡ Free
    pub unheld : Unheld m.hands (top_of m.core t)
    pub made : stolen m w t ≡ after

  pub found : (prog : Program) (w : ℕ) (t : Path) (after : Machine) → sound_event prog workers (Steal w t) m ≡ Some after → Found w t after
  found prog w t after e =
      let (test, then) = cond_true _ _ after e in
      let (lt, idle) = and_parts _ _ test in
      let (status, made) = ready_is (stolen m w t) after (status_of workers m t) then in
      let (task, top) = cond_true _ (top_status workers m (top_of m.core t)) Ready status in
      let (none, free) = ready_at (m.core.frames (top_of m.core t)) (holder workers m.hands (top_of m.core t)) top in
      let (f, is, waits) = unheld_ready (m.core.frames (top_of m.core t)) free in
      record { top = f; within = ltb-true w workers lt; idle = is_none_true _ idle; is = is; free = waits; unheld = unheld_by workers m.core m.hands man _ none; made = made }

  pub stolen_manned : (w : ℕ) (t : Path) (after : Machine) → Found w t after → Manned workers m.core (stolen m w t).hands
  stolen_manned w t after f = steal_manned w (top_of m.core t) f.top f.within f.idle f.is f.free f.unheld
