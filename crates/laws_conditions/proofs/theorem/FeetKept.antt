-- Each step leaves frames that keep to their zones.
use Rattle.std.proofs.Common.{◌≡◌, ℕ, ◌∷◌, Option, Some, None, ◌≢◌, cond, ◌⊎◌, inl, inr, refl, sym, ap, ◌∙◌, subst}
use Rattle.semantics.specs.Paths.{Path, same_path}
use Rattle.semantics.specs.Frames.{Free, OnRegion, OnCall, Halted, Child, Frame}
use Rattle.semantics.specs.State.{State, Change, apply, went, detached, continued, synced, called, waiting, resumed}
use Rattle.semantics.specs.Tree.{Tree}
use Rattle.laws_conditions.specs.theorem.Conditions.{Zone, Covers, Clear, PassesZonesOn}
use Rattle.semantics.proofs.Actions.{same_path_itself}
use Rattle.semantics.proofs.Places.{same_path_apart, only_at, both_at}
use Rattle.semantics.proofs.Steps.{Does, plain, detach, reattach, sync, call, ret, end}
use Rattle.semantics.proofs.Diamond.{Goes, same_frame, next_free, left_alone, no_call_after, no_trap_after}
use Rattle.laws_conditions.proofs.theorem.Feet.{Footed, covers_all, covers_itself, clear_back, clear_within, not_waiting, alive, not_halted, going_child, alive_now, going_now}
use Rattle.linear.specs.declared.form.RegisterId.{RegisterId}
use Rattle.program.specs.declared.function.Program.{Program}

module _ {ℓ} (Z : Type ℓ) (zone : Z → Zone) (prog : Program) (fits : Path → Frame → Z → Type 0) (pending : Path → Frame → ℕ → Z) (expects : Frame → Z → Type 0) (passes : PassesZonesOn Z zone prog fits pending expects) (s : State) (tree : Tree s) (feet : Path → Z) (footed : Footed Z zone fits pending expects s feet) where
  abbrev Cover : Z → Z → Type 0
  Cover z y = Covers (zone z) (zone y)

  abbrev Apart : Z → Z → Type 0
  Apart z y = Clear (zone z) (zone y)

  -- what stands after the step of p, whose next child is k, with zone y if it is made
  -- what a frame that waits for a call relies on
  data Relied (p : Path) (f : Frame) (y : Z) (x : Path) (g : Frame) (k : ℕ) : Type 0 where
    was_called : (d : Frame) → s.frames (k ∷ x) ≡ Some d → expects g (feet (k ∷ x)) → Relied p f y x g k
    now_called : k ∷ x ≡ f.made ∷ p → expects g y → Relied p f y x g k

  data After (p : Path) (c : Change) (f : Frame) (y : Z) (x : Path) (g : Frame) : Type 0 where
    old : (e : Frame) → s.frames x ≡ Some e → (g.waits ≢ Halted → fits x g (feet x)) → g.role ≡ e.role → ((q : ℕ) → g.waits ≢ OnRegion q → g.waits ≢ Halted → Cover (pending x g q) (pending x e q)) →
        ((q j n : ℕ) (d : Frame) → s.frames (j ∷ x) ≡ Some d → d.role ≡ Child q n → g.waits ≢ OnRegion q → g.waits ≢ Halted → (e.waits ≢ OnRegion q) × (e.waits ≢ Halted)) → ((k : ℕ) (d : Option RegisterId) → g.waits ≡ OnCall k d → Relied p f y x g k) → After p c f y x g
    new : x ≡ f.made ∷ p → fits x g y → Cover (feet p) y → ((q : ℕ) → Apart y (pending p f q)) → ((r n : ℕ) (h : Frame) → g.role ≡ Child r n → (apply c s).frames p ≡ Some h → Cover (pending p h r) y) → g.waits ≡ Free → After p c f y x g

  feet_after : Path → Frame → Z → Path → Z
  feet_after p f y x = cond (same_path (f.made ∷ p) x) y (feet x)

  module _ (p : Path) (c : Change) (go : Goes s p) (y : Z) (afters : (x : Path) (g : Frame) → (apply c s).frames x ≡ Some g → After p c go.frame y x g) where
    -- a living frame's zone stays
    foot_kept : (x : Path) (g : Frame) → s.frames x ≡ Some g → feet_after p go.frame y x ≡ feet x
    unfolding feet_after
    foot_kept x g is = rw (same_path_apart (go.frame.made ∷ p) x (λ e. let none : s.frames (go.frame.made ∷ p) ≡ None = next_free tree p go.frame go.is in let some : s.frames (go.frame.made ∷ p) ≡ Some g = subst (λ z. s.frames z ≡ Some g) (sym e) is in cc))

    foot_new : (x : Path) → x ≡ go.frame.made ∷ p → feet_after p go.frame y x ≡ y
    unfolding feet_after
    foot_new x e = rw (e, same_path_itself (go.frame.made ∷ p))

    name_free : (j : ℕ) (x : Path) (g : Frame) → s.frames (j ∷ x) ≡ Some g → x ≡ go.frame.made ∷ p → ⊥
    name_free j x g is e =
        let (h, at, lt) = tree.has_parent j x g is in
        let none : s.frames (go.frame.made ∷ p) ≡ None = next_free tree p go.frame go.is in
        let some : s.frames (go.frame.made ∷ p) ≡ Some h = subst (λ z. s.frames z ≡ Some h) e at in
        cc

    own_after : (x : Path) (g : Frame) → (apply c s).frames x ≡ Some g → g.waits ≢ Halted → fits x g (feet_after p go.frame y x)
    own_after x g is on = from (afters x g is)
      where
        from : After p c go.frame y x g → fits x g (feet_after p go.frame y x)
        from (old e was fit role cover awake calls) = subst (λ z. fits x g z) (sym (foot_kept x e was)) (fit on)
        from (new here fit cover clear pend free) = subst (λ z. fits x g z) (sym (foot_new x here)) fit

    nested_after : (j : ℕ) (x : Path) (d : Frame) → (apply c s).frames (j ∷ x) ≡ Some d → Cover (feet_after p go.frame y x) (feet_after p go.frame y (j ∷ x))
    nested_after j x d is = from (afters (j ∷ x) d is)
      where
        from : After p c go.frame y (j ∷ x) d → Cover (feet_after p go.frame y x) (feet_after p go.frame y (j ∷ x))
        from (old e was fit role cover awake calls) =
            let (h, at, lt) = tree.has_parent j x e was in
            rw (foot_kept x h at, foot_kept (j ∷ x) e was) (footed.nested j x e was)
        from (new here fit cover clear pend free) =
            let up : x ≡ p = cc in
            rw (foot_new (j ∷ x) here) (subst (λ z. Cover (feet_after p go.frame y z) y) (sym up) (rw (foot_kept p go.frame go.is) cover))

    waited_after : (j r n : ℕ) (x : Path) (g d : Frame) → (apply c s).frames x ≡ Some g → (apply c s).frames (j ∷ x) ≡ Some d → d.role ≡ Child r n → g.waits ≢ OnRegion r → g.waits ≢ Halted → Cover (pending x g r) (feet_after p go.frame y (j ∷ x))
    waited_after j r n x g d top is in_r awake_now on = from (afters (j ∷ x) d is)
      where
        by_top : (e : Frame) → s.frames (j ∷ x) ≡ Some e → e.role ≡ Child r n → After p c go.frame y x g → Cover (pending x g r) (feet (j ∷ x))
        by_top e was role2 (old u up fit role cover awake calls) = let (waits, not_over) = awake r j n e was role2 awake_now on in covers_all _ _ _ (cover r awake_now on) (footed.waited j r n x u e up was role2 waits not_over)
        by_top e was role2 (new here fit cover clear pend free) = absurd (name_free j x e was here)

        from : After p c go.frame y (j ∷ x) d → Cover (pending x g r) (feet_after p go.frame y (j ∷ x))
        from (old e was fit role cover awake calls) = rw (foot_kept (j ∷ x) e was) (by_top e was (sym role ∙ in_r) (afters x g top))
        from (new here fit cover clear pend free) =
            let up : x ≡ p = cc in
            rw (foot_new (j ∷ x) here) (subst (λ (w : Path). Cover (pending w g r) y) (sym up) (pend r n g in_r (subst (λ z. (apply c s).frames z ≡ Some g) up top)))

    -- the new child and an older one
    new_sibling : (j : ℕ) (d : Frame) → s.frames (j ∷ p) ≡ Some d → ((q : ℕ) → Apart y (pending p go.frame q)) → Apart y (feet (j ∷ p))
    new_sibling j d was clear =
        let (r, n, role) = going_child tree go d j was in
        clear_within _ _ _ _ (clear r) (covers_itself (zone y)) (footed.waited j r n p go.frame d go.is was role (not_waiting tree go go.frame d j r n go.is was role) (alive go go.frame go.is))

    siblings_after : (i j : ℕ) (x : Path) (d e : Frame) → i ≢ j → (apply c s).frames (i ∷ x) ≡ Some d → (apply c s).frames (j ∷ x) ≡ Some e → Apart (feet_after p go.frame y (i ∷ x)) (feet_after p go.frame y (j ∷ x))
    siblings_after i j x d e differ is is2 = from (afters (i ∷ x) d is) (afters (j ∷ x) e is2)
      where
        from : After p c go.frame y (i ∷ x) d → After p c go.frame y (j ∷ x) e → Apart (feet_after p go.frame y (i ∷ x)) (feet_after p go.frame y (j ∷ x))
        from (old u was fit role cover awake calls) (old v was2 fit2 role2 cover2 awake2 calls2) = rw (foot_kept (i ∷ x) u was, foot_kept (j ∷ x) v was2) (footed.siblings i j x u v differ was was2)
        from (old u was fit role cover awake calls) (new here fit2 cover2 clear pend free2) =
            let up : x ≡ p = cc in
            rw (foot_kept (i ∷ x) u was, foot_new (j ∷ x) here) (clear_back _ _ (subst (λ z. Apart y (feet (i ∷ z))) (sym up) (new_sibling i u (subst (λ z. s.frames (i ∷ z) ≡ Some u) up was) clear)))
        from (new here fit cover clear pend free) (old v was2 fit2 role2 cover2 awake2 calls2) =
            let up : x ≡ p = cc in
            rw (foot_new (i ∷ x) here, foot_kept (j ∷ x) v was2) (subst (λ z. Apart y (feet (j ∷ z))) (sym up) (new_sibling j v (subst (λ z. s.frames (j ∷ z) ≡ Some v) up was2) clear))
        from (new here fit cover clear pend free) (new here2 fit2 cover2 clear2 pend2 free2) = absurd (differ (cc))

    expected_after : (k : ℕ) (d : Option RegisterId) (x : Path) (g : Frame) → (apply c s).frames x ≡ Some g → g.waits ≡ OnCall k d → expects g (feet_after p go.frame y (k ∷ x))
    expected_after k d x g is wait = from (afters x g is)
      where
        relied : Relied p go.frame y x g k → expects g (feet_after p go.frame y (k ∷ x))
        relied (was_called e there so) = subst (λ z. expects g z) (sym (foot_kept (k ∷ x) e there)) so
        relied (now_called here so) = subst (λ z. expects g z) (sym (foot_new (k ∷ x) here)) so

        from : After p c go.frame y x g → expects g (feet_after p go.frame y (k ∷ x))
        from (old e was fit role cover awake calls) = relied (calls k d wait)
        from (new here fit cover clear pend free) = absurd (cc)

    footed_after : Footed Z zone fits pending expects (apply c s) (feet_after p go.frame y)
    footed_after = record { own = own_after; nested = nested_after; waited = waited_after; siblings = siblings_after; expected = expected_after }

  -- a frame that the step leaves
  left_after : (p : Path) (c : Change) (f : Frame) (y : Z) (x : Path) (g : Frame) → c.frames x ≡ None → (apply c s).frames x ≡ Some g → After p c f y x g
  left_after p c f y x g at is =
      let was : s.frames x ≡ Some g = sym (left_alone c s x at) ∙ is in
      old g was (footed.own x g was) refl (λ q w on. covers_itself _) (λ q j n d there role w on. (w, on)) (λ k d w. let (e, there, role) = tree.lives k d x g was w in was_called e there (footed.expected k d x g was w))

  -- the frame of the step itself
  moved_after : (p : Path) (c : Change) (go : Goes s p) (y : Z) (g : Frame) → (g.waits ≢ Halted → fits p g (feet p)) → g.role ≡ go.frame.role → ((q : ℕ) → g.waits ≢ OnRegion q → g.waits ≢ Halted → Cover (pending p g q) (pending p go.frame q)) → ((k : ℕ) (d : Option RegisterId) → g.waits ≡ OnCall k d → Relied p go.frame y p g k) → After p c go.frame y p g
  moved_after p c go y g fit role cover calls = old go.frame go.is fit role cover (λ q j n d there in_r w on. (not_waiting tree go go.frame d j q n go.is there in_r, alive go go.frame go.is)) calls

  now_is : (c : Change) (x : Path) (o : Option Frame) (g : Frame) → c.frames x ≡ Some o → (apply c s).frames x ≡ Some g → o ≡ Some g
  now_is c x o g at is = let e : (apply c s).frames x ≡ o = rw at in sym e ∙ is

  -- what a step that changes its own frame alone leaves
  alone_after : (p : Path) (c : Change) (go : Goes s p) (y : Z) (h : Frame) → ((x : Path) (o : Option Frame) → c.frames x ≡ Some o → (x ≡ p) × (o ≡ Some h)) →
      (h.waits ≢ Halted → fits p h (feet p)) → h.role ≡ go.frame.role → ((q : ℕ) → h.waits ≢ OnRegion q → h.waits ≢ Halted → Cover (pending p h q) (pending p go.frame q)) → ((k : ℕ) (d : Option RegisterId) → h.waits ≡ OnCall k d → Relied p go.frame y p h k) →
      (x : Path) (g : Frame) → (apply c s).frames x ≡ Some g → After p c go.frame y x g
  alone_after p c go y h at fit role cover calls x g is = from (c.frames x) refl
    where
      from : (o : Option (Option Frame)) → c.frames x ≡ o → After p c go.frame y x g
      from None e = left_after p c go.frame y x g e is
      from (Some o) e =
          let (here, same) = at x o e in
          let now = now_is c x o g e is in
          let h_is : h ≡ g = cc in
          subst (λ z. After p c go.frame y z g) (sym here) (subst (λ (z : Frame). After p c go.frame y p z) h_is (moved_after p c go y h fit role cover calls))

  -- a step by which its frame goes, and which changes no other
  gone_after : (p : Path) (c : Change) (go : Goes s p) (y : Z) → ((x : Path) (o : Option Frame) → c.frames x ≡ Some o → (x ≡ p) × (o ≡ None)) →
      (x : Path) (g : Frame) → (apply c s).frames x ≡ Some g → After p c go.frame y x g
  gone_after p c go y at x g is = from (c.frames x) refl
    where
      from : (o : Option (Option Frame)) → c.frames x ≡ o → After p c go.frame y x g
      from None e = left_after p c go.frame y x g e is
      from (Some o) e = let (here, same) = at x o e in let now = now_is c x o g e is in absurd (cc)

  -- a step that makes a child
  child_after : (p : Path) (c : Change) (go : Goes s p) (y : Z) (h d : Frame) → ((x : Path) (o : Option Frame) → c.frames x ≡ Some o → ((x ≡ p) × (o ≡ Some h)) ⊎ ((x ≡ go.frame.made ∷ p) × (o ≡ Some d))) → (apply c s).frames p ≡ Some h →
      (h.waits ≢ Halted → fits p h (feet p)) → h.role ≡ go.frame.role → ((q : ℕ) → h.waits ≢ OnRegion q → h.waits ≢ Halted → Cover (pending p h q) (pending p go.frame q)) → ((k : ℕ) (d : Option RegisterId) → h.waits ≡ OnCall k d → Relied p go.frame y p h k) →
      fits (go.frame.made ∷ p) d y → Cover (feet p) y → ((q : ℕ) → Apart y (pending p go.frame q)) → ((r n : ℕ) → d.role ≡ Child r n → Cover (pending p h r) y) → d.waits ≡ Free →
      (x : Path) (g : Frame) → (apply c s).frames x ≡ Some g → After p c go.frame y x g
  child_after p c go y h d at top fit role cover calls fit_child keeps clear pend free x g is = from (c.frames x) refl
    where
      by_place : (o : Option Frame) → o ≡ Some g → ((x ≡ p) × (o ≡ Some h)) ⊎ ((x ≡ go.frame.made ∷ p) × (o ≡ Some d)) → After p c go.frame y x g
      by_place o now (inl a) =
          let h_is : h ≡ g = same_frame o h g a.1 now in
          subst (λ z. After p c go.frame y z g) (sym a.0) (subst (λ (z : Frame). After p c go.frame y p z) h_is (moved_after p c go y h fit role cover calls))
      by_place o now (inr a) =
          let d_is : d ≡ g = same_frame o d g a.1 now in
          new a.0 (subst (λ (w : Path). fits w g y) (sym a.0) (subst (λ (z : Frame). fits (go.frame.made ∷ p) z y) d_is fit_child)) keeps clear
          (λ r n u in_r top2. subst (λ (z : Frame). Cover (pending p z r) y) (same_frame ((apply c s).frames p) h u top top2) (pend r n (ap (λ (z : Frame). z.role) d_is ∙ in_r))) (subst (λ (z : Frame). z.waits ≡ Free) d_is free)

      from : (o : Option (Option Frame)) → c.frames x ≡ o → After p c go.frame y x g
      from None e = left_after p c go.frame y x g e is
      from (Some o) e = by_place o (now_is c x o g e is) (at x o e)

  -- a step by which a call hands over to its caller
  handed_after : (p : Path) (c : Change) (go : Goes s p) (y : Z) (above : Path) (u h : Frame) (k : ℕ) (d : Option RegisterId) → ((x : Path) (o : Option Frame) → c.frames x ≡ Some o → ((x ≡ p) × (o ≡ None)) ⊎ ((x ≡ above) × (o ≡ Some h))) →
      s.frames above ≡ Some u → u.waits ≡ OnCall k d → fits above h (feet above) → h.role ≡ u.role → ((q : ℕ) → Cover (pending above h q) (pending above u q)) → h.waits ≡ Free →
      (x : Path) (g : Frame) → (apply c s).frames x ≡ Some g → After p c go.frame y x g
  handed_after p c go y above u h k d at over waits fit role cover free x g is = from (c.frames x) refl
    where
      by_place : (o : Option Frame) → o ≡ Some g → ((x ≡ p) × (o ≡ None)) ⊎ ((x ≡ above) × (o ≡ Some h)) → After p c go.frame y x g
      by_place o now (inl a) = absurd (let n = a.1 in cc)
      by_place o now (inr a) =
          let h_is : h ≡ g = same_frame o h g a.1 now in
          subst (λ z. After p c go.frame y z g) (sym a.0)
          (subst (λ (z : Frame). After p c go.frame y above z) h_is (old u over (λ on. fit) role (λ q w on. cover q) (λ q j n e there in_r w on. ((λ wait. absurd (cc)), not_halted u.waits k d waits)) (λ m n w. absurd (cc))))

      from : (o : Option (Option Frame)) → c.frames x ≡ o → After p c go.frame y x g
      from None e = left_after p c go.frame y x g e is
      from (Some o) e = by_place o (now_is c x o g e is) (at x o e)

  -- each step leaves frames that keep to their zones
  pub step_footed : (p : Path) (c : Change) → Does prog s p c → (next : Path → Z) × Footed Z zone fits pending expects (apply c s) next
  step_footed p c (plain f e is go at) =
      let stand : Goes s p = record { frame = f; is = is; may = go } in
      let ok = passes.plain_ok p f (feet p) s.memory e (footed.own p f is (alive_now s p f is go)) (going_now s p f go) at in (
        feet_after p f (feet p),
        footed_after p c stand (feet p) (alone_after p c stand (feet p) (went f e) (λ x o h. only_at p x _ o h) (λ on. (ok (no_trap_after e.trap on)).0) refl (λ q w on. (ok (no_trap_after e.trap on)).1 q) (λ k d w. absurd (no_call_after e.trap k d w))),
      )
  step_footed p c (detach f r b n is go at) =
      let stand : Goes s p = record { frame = f; is = is; may = go } in
      let (y, keeps, clear, fit_child, fit, cover, pend) = passes.detach_ok p f (feet p) s.memory r b n (footed.own p f is (alive_now s p f is go)) (going_now s p f go) at in (
        feet_after p f y,
        footed_after p c stand y (child_after p c stand y (continued f n) (detached f r b n) (λ x o h. both_at p (f.made ∷ p) x _ _ o h) (rw (same_path_itself p)) (λ on. fit) refl (λ q w on. cover q) (λ k d w. absurd (cc)) fit_child keeps clear
            (λ q m e. let number : r ≡ q = cc in subst (λ (z : ℕ). Cover (pending p (continued f n) z) y) number pend) refl),
      )
  step_footed p c (reattach f r n is go at none role) =
      let stand : Goes s p = record { frame = f; is = is; may = go } in
      (feet_after p f (feet p), footed_after p c stand (feet p) (gone_after p c stand (feet p) (λ x o h. only_at p x _ o h)))
  step_footed p c (sync f r b rs is go at) =
      let stand : Goes s p = record { frame = f; is = is; may = go } in
      let ok = passes.sync_ok p f (feet p) s.memory r b rs (footed.own p f is (alive_now s p f is go)) (going_now s p f go) at in
      (feet_after p f (feet p), footed_after p c stand (feet p) (alone_after p c stand (feet p) (synced f r b rs) (λ x o h. only_at p x _ o h) (λ on. ok.0) refl (λ q w on. ok.1 q (λ e. w (ap (λ n. OnRegion n) (sym e)))) (λ k d w. absurd (cc))))
  step_footed p c (call f d g vs is go at) =
      let stand : Goes s p = record { frame = f; is = is; may = go } in
      let (y, keeps, clear, fit_child, fit, cover, expect) = passes.call_ok p f (feet p) s.memory d g vs (footed.own p f is (alive_now s p f is go)) (going_now s p f go) at in (
        feet_after p f y,
        footed_after p c stand y (child_after p c stand y (waiting f d) (called p f g vs) (λ x o h. both_at p (f.made ∷ p) x _ _ o h) (rw (same_path_itself p)) (λ on. fit) refl (λ q w on. cover q)
            (λ k e w. let number : f.made ≡ k = cc in now_called (ap (λ m. m ∷ p) (sym number)) expect) fit_child keeps clear (λ q m e. absurd (cc)) refl),
      )
  step_footed p c (ret f v k above u j d is go at none role here over waits) =
      let stand : Goes s p = record { frame = f; is = is; may = go } in
      let made = passes.return_ok p f (feet p) s.memory v (footed.own p f is (alive_now s p f is go)) (going_now s p f go) at in
      let (g2, d2, over2, waits2) = tree.awaited k above f (subst (λ y. s.frames y ≡ Some f) here is) role in
      let same : g2 ≡ u = same_frame (s.frames above) g2 u over2 over in
      let number : OnCall k d2 ≡ OnCall j d = sym waits2 ∙ ap (λ (y : Frame). y.waits) same ∙ waits in
      let child : j ≡ k = cc in
      let path : j ∷ above ≡ p = ap (λ n. n ∷ above) child ∙ sym here in
      let ok = passes.resume_ok above u (feet above) (feet p) j d v (footed.own above u over (not_halted u.waits j d waits)) waits (subst (λ y. expects u (feet y)) path (footed.expected j d above u over waits)) made in
      (feet_after p f (feet p), footed_after p c stand (feet p) (handed_after p c stand (feet p) above u (resumed u d v) j d (λ x o h. both_at p above x _ _ o h) over waits ok.0 refl (λ q. ok.1 q) refl))
  step_footed p c (end f v is go at none role here) =
      let stand : Goes s p = record { frame = f; is = is; may = go } in
      (feet_after p f (feet p), footed_after p c stand (feet p) (gone_after p c stand (feet p) (λ x o h. only_at p x _ o h)))
