-- What holds in every state that is reached, and what one finished run says of all others.
use Rattle.std.proofs.Common.{◌≡◌, ℕ, zero, suc, ◌+◌, ◌≤◌, max, List, [], ◌∷◌, length, Option, Some, None, ◌≢◌, true, inl, inr, refl, sym, ap, ◌∙◌, subst, arith}
use Rattle.semantics.specs.Paths.{Path, same_path}
use Rattle.semantics.specs.Frames.{Halted, Frame}
use Rattle.semantics.specs.State.{State, Change, apply, may_go, change_of}
use Rattle.semantics.specs.CoreSteps.{applied, core_step}
use Rattle.semantics.specs.Tree.{Tree}
use Rattle.laws_conditions.specs.theorem.Conditions.{Zone, StaysInZone, PassesZonesOn}
use Rattle.semantics.proofs.Confluence.{Stepper, Run, Over, Kept, Commutes, Tells, ends_alike, after_run, within_run, Within, kept_by_run}
use Rattle.semantics.proofs.Places.{same_path_tells}
use Rattle.semantics.proofs.Steps.{Does, does}
use Rattle.semantics.proofs.Diamond.{diamond, Goes, goes, Spot, is_moved, is_gone, is_fresh, is_above, spot, same_frame, left_alone}
use Rattle.semantics.proofs.TreeKept.{step_keeps_tree}
use Rattle.laws_conditions.proofs.theorem.Feet.{Footed, steps_apart}
use Rattle.laws_conditions.proofs.theorem.FeetKept.{step_footed}
use Rattle.semantics.proofs.Deep.{Deep, deep_kept}
use Rattle.program.specs.declared.function.Program.{Program}

-- a step and its change
pub changed : (prog : Program) (p : Path) (s t : State) → core_step prog p s ≡ Some t → (c : Change) × (change_of prog s p ≡ Some c) × (t ≡ apply c s)
changed prog p s t e = from (change_of prog s p) refl e
  where
    from : (o : Option Change) → change_of prog s p ≡ o → applied s o ≡ Some t → (c : Change) × (change_of prog s p ≡ Some c) × (t ≡ apply c s)
    from None h k = absurd (cc)
    from (Some c) h k = (c, h, cc)

paths_told : Tells same_path
paths_told p q = elim (same_path_tells p q) [ inl h ↦ (λ e. h.1, λ e. absurd (let a = h.0 in cc)) | inr h ↦ (λ e. absurd (let a = h.0 in cc), λ e. h.1) ]

-- a frame that trapped stays
halted_here : {prog : Program} (s : State) (q p : Path) (c : Change) (f : Frame) → Tree s → Does prog s q c → s.frames p ≡ Some f → f.waits ≡ Halted → (apply c s).frames p ≡ Some f
halted_here s q p c f tree dq is waits = from (c.frames p) refl
  where
    goes_not : (g : Goes s q) → p ≡ q → ⊥
    goes_not g e =
        let same : g.frame ≡ f = same_frame (s.frames p) g.frame f (subst (λ x. s.frames x ≡ Some g.frame) (sym e) g.is) is in
        let w : g.frame.waits ≡ Halted = ap (λ x. x.waits) same ∙ waits in
        let m : may_go s q g.frame.made Halted ≡ true = subst (λ x. may_go s q g.frame.made x ≡ true) w g.may in
        cc

    of_spot : (o : Option Frame) → Spot s q c.frames p o → c.frames p ≡ None
    of_spot o (is_moved e g at was new role made calls) = absurd (goes_not (goes dq) at)
    of_spot o (is_gone e at was new none hands) = absurd (goes_not (goes dq) at)
    of_spot o (is_fresh k g h at none new free up made calls) = absurd (cc)
    of_spot o (is_above k d e g at was wait new role made free up) = absurd (let w : e.waits ≡ f.waits = ap (λ x. x.waits) (same_frame (s.frames p) e f was is) in cc)

    from : (o : Option (Option Frame)) → c.frames p ≡ o → (apply c s).frames p ≡ Some f
    from None e = left_alone c s p e ∙ is
    from (Some o) e = left_alone c s p (of_spot o (spot tree dq p o e)) ∙ is

module _ {ℓ} (Z : Type ℓ) (zone : Z → Zone) (prog : Program) (fits : Path → Frame → Z → Type 0) (pending : Path → Frame → ℕ → Z) (expects : Frame → Z → Type 0) (inside : StaysInZone Z zone prog fits pending) (passes : PassesZonesOn Z zone prog fits pending expects) where
  abbrev pub steps : Stepper Path State
  steps p s = core_step prog p s

  -- what holds of every state of a run
  pub record Sound (s : State) : Type ℓ where
    pub tree : Tree s
    pub feet : Path → Z
    pub footed : Footed Z zone fits pending expects s feet
    pub deep : Deep s

  pub sound_kept : Kept steps Sound
  sound_kept p s t sound e =
      let (c, ch, is) = changed prog p s t e in
      let dp = does prog s p c ch in
      let (next, footed) = step_footed Z zone prog fits pending expects passes s sound.tree sound.feet sound.footed p c dp in
      subst Sound (sym is) (record { tree = step_keeps_tree sound.tree dp; feet = next; footed = footed; deep = deep_kept s p c sound.tree dp sound.deep })

  sound_commutes : Commutes steps Sound
  sound_commutes p q s t u sound differ e h =
      let (c, ch, is) = changed prog p s t e in
      let (d, dh, is2) = changed prog q s u h in
      let apart = steps_apart Z zone prog fits pending expects inside s sound.tree sound.feet sound.footed p q c d differ (does prog s p c ch) (does prog s q d dh) in
      let (v, a, b) = diamond prog s p q c d sound.tree differ ch dh apart in
      (v, subst (λ x. core_step prog q x ≡ Some v) (sym is) a, subst (λ x. core_step prog p x ≡ Some v) (sym is2) b)

  done_counts : (ps : List Path) (s t : State) → Run steps ps s t → t.done ≡ s.done + length ps
  done_counts [] s t e = let d : s.done ≡ t.done = ap (λ x. x.done) e in omega arith
  done_counts (p ∷ ps) s t (mid, e, rest) =
      let (c, ch, is) = changed prog p s mid e in
      let d : mid.done ≡ suc s.done = ap (λ x. x.done) is in
      let r : t.done ≡ mid.done + length ps = done_counts ps mid t rest in
      omega arith

  peak_grows : (p : Path) (s t : State) → core_step prog p s ≡ Some t → s.peak ≤ t.peak
  peak_grows p s t e = let (c, ch, is) = changed prog p s t e in let d : t.peak ≡ max s.peak c.depth = ap (λ x. x.peak) is in omega arith

  -- the end is no lower than what leads to it
  peak_below : (n : ℕ) (s t : State) → Within steps Sound same_path paths_told sound_kept sound_commutes n s t → s.peak ≤ t.peak
  peak_below zero s t e = let d : s.peak ≡ t.peak = ap (λ x. x.peak) e in omega arith
  peak_below (suc n) s t (p, mid, e, rest) = let a : s.peak ≤ mid.peak = peak_grows p s mid e in let b : mid.peak ≤ t.peak = peak_below n mid t rest in omega arith

  -- what trapped is there at the end
  halted_stays : (n : ℕ) (s t : State) → Sound s → Within steps Sound same_path paths_told sound_kept sound_commutes n s t → (p : Path) (f : Frame) → s.frames p ≡ Some f → f.waits ≡ Halted → t.frames p ≡ Some f
  halted_stays zero s t sound e p f is waits = subst (λ x. x.frames p ≡ Some f) e is
  halted_stays (suc n) s t sound (q, mid, e, rest) p f is waits =
      let (c, ch, same) = changed prog q s mid e in
      let now : (apply c s).frames p ≡ Some f = halted_here s q p c f sound.tree (does prog s q c ch) is waits in
      halted_stays n mid t (sound_kept q s mid sound e) rest p f (subst (λ x. x.frames p ≡ Some f) (sym same) now) waits

  -- without the root there is no frame, and nothing goes on
  no_root : (s : State) → Tree s → s.frames [] ≡ None → (p : Path) → s.frames p ≡ None
  no_root s tree none [] = none
  no_root s tree none (k ∷ p) = from (s.frames (k ∷ p)) refl (no_root s tree none p)
    where
      from : (o : Option Frame) → s.frames (k ∷ p) ≡ o → s.frames p ≡ None → s.frames (k ∷ p) ≡ None
      from None e up = e
      from (Some c) e up = let (f, at, lt) = tree.has_parent k p c e in absurd (cc)

  ended_over : (s : State) → Tree s → s.frames [] ≡ None → Over steps s
  ended_over s tree none p = rw (no_root s tree none p)

  -- against one finished run of the core, as the serial one
  pub record Bounded (start end : State) (n : ℕ) (s : State) : Type ℓ where
    pub sound : Sound s
    pub safe : (p : Path) (f : Frame) → s.frames p ≡ Some f → f.waits ≢ Halted
    pub budget : s.done ≤ start.done + n
    pub peak : s.peak ≤ end.peak
    pub ended : s.frames [] ≡ None → (s ≡ end) × (s.done ≡ start.done + n)

  pub bounded : (start : State) → Sound start → (serial : List Path) (end : State) → Run steps serial start end → end.frames [] ≡ None →
      (labels : List Path) (s : State) → Run steps labels start s → Bounded start end (length serial) s
  bounded start sound serial end run none labels s other =
      let over : Over steps end = ended_over end (kept_by_run steps Sound sound_kept serial start end sound run).tree none in
      let far = after_run steps Sound same_path paths_told sound_kept sound_commutes labels (length serial) start s end sound over
      (within_run steps Sound same_path paths_told sound_kept sound_commutes serial start end run) other in
      let alike = ends_alike steps Sound same_path paths_told sound_kept sound_commutes serial start end sound run over labels s other in
      let here = kept_by_run steps Sound sound_kept labels start s sound other in
      let short : length labels ≤ length serial = alike.0 in
      let count : s.done ≡ start.done + length labels = done_counts labels start s other in
      let end_bare = no_root end (kept_by_run steps Sound sound_kept serial start end sound run).tree none in
      record {
        sound = here;
        safe = λ p f is waits.
            let there : end.frames p ≡ Some f = halted_stays far.0 s end here far.2 p f is waits in
            let gone : end.frames p ≡ None = end_bare p in
            cc;
        budget = omega arith;
        peak = peak_below far.0 s end far.2;
        ended = λ gone. let (same, long) = alike.1 (ended_over s here.tree gone) in (same, count ∙ ap (λ x. start.done + x) long);
      }
