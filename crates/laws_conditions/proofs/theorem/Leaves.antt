-- Every frame without children is held by a worker, so the living frames are at most the workers times the greatest depth.
use Rattle.std.proofs.Common.{◌≡◌, ℕ, zero, suc, ◌+◌, ◌*◌, ◌≤◌, ◌<◌, List, [], ◌∷◌, ◌++◌, length, length-append, Option, Some, None, Bool, true, false, ◌⊎◌, inl, inr, refl, sym, ap, ◌∙◌, subst, arith, is_none}
use Rattle.std.proofs.lemmas.Bool.Decides.{eqb_tells}
use Rattle.std.specs.Prelude.{◌||◌}
use Rattle.std.specs.Cmp.{IsEquivalence}
use Rattle.std.specs.List.{IsDistinct}
use Rattle.std.specs.Set.{is_member}
use Rattle.std.proofs.lemmas.Map.Made.{length-le_from_is_member}
use Rattle.std.proofs.lemmas.Bool.{or_right}
use Rattle.semantics.specs.Paths.{Path, same_path}
use Rattle.semantics.specs.Frames.{Frame}
use Rattle.semantics.specs.State.{State, childless}
use Rattle.semantics.specs.Tree.{Tree}
use Rattle.semantics.specs.Events.{holder}
use Rattle.semantics.proofs.Actions.{same_path_itself}
use Rattle.semantics.proofs.Places.{same_path_tells, same_path_apart, same_path_is, all_below_at}
use Rattle.semantics.proofs.Diamond.{same_frame}
use Rattle.semantics.proofs.Deep.{Deep}
use Rattle.semantics.proofs.Workers.{Manned, Parked, calls, ready, stalled, some_below}
use Rattle.semantics.proofs.Machines.{holder_some, unheld_by}

nat_tells : (a b : ℕ) → (a ≡ b) ⊎ ((a ≡ b) → ⊥)
nat_tells a b = elim (eqb_tells a b) [ inl h ↦ inl h.1 | inr h ↦ inr h.1 ]

path_laws : IsEquivalence same_path
path_laws = record { refl = same_path_itself; symm = symm; congr = λ x y z e. rw (same_path_is x y e) }
  where
    symm : (x y : Path) → same_path x y ≡ same_path y x
    symm x y = elim (same_path_tells x y) [ inl h ↦ rw h.1 | inr h ↦ h.0 ∙ sym (same_path_apart y x (λ e. h.1 (sym e))) ]

-- a frame and those above it
pub tails : Path → List Path
tails [] = [] ∷ []
tails (k ∷ p) = (k ∷ p) ∷ tails p

length-tails : (p : Path) → length (tails p) ≡ length p + 1
unfolding tails
length-tails [] = refl
length-tails (k ∷ p) = let e : length (tails p) ≡ length p + 1 = length-tails p in omega arith

tails_self : (p : Path) → is_member same_path (tails p) p ≡ true
unfolding tails
tails_self [] = refl
tails_self (k ∷ p) = rw (same_path_itself (k ∷ p))

tails_up : (k : ℕ) (x y : Path) → is_member same_path (tails y) (k ∷ x) ≡ true → is_member same_path (tails y) x ≡ true
unfolding tails
tails_up k x [] e = absurd (cc)
tails_up k x (j ∷ y) e = from (same_path (k ∷ x) (j ∷ y)) refl e (tails_up k x y)
  where
    from : (b : Bool) → same_path (k ∷ x) (j ∷ y) ≡ b → ◌||◌ b (is_member same_path (tails y) (k ∷ x)) ≡ true → (is_member same_path (tails y) (k ∷ x) ≡ true → is_member same_path (tails y) x ≡ true) →
        ◌||◌ (same_path x (j ∷ y)) (is_member same_path (tails y) x) ≡ true
    from true is h rest =
        let whole : k ∷ x ≡ j ∷ y = same_path_is (k ∷ x) (j ∷ y) is in
        let same : x ≡ y = cc in
        or_right (same_path x (j ∷ y)) _ (subst (λ z. is_member same_path (tails y) z ≡ true) (sym same) (tails_self y))
    from false is h rest = or_right (same_path x (j ∷ y)) _ (rest h)

some_frame : (o : Option Frame) → is_none o ≡ false → (f : Frame) × (o ≡ Some f)
some_frame None e = absurd (cc)
some_frame (Some f) e = (f, refl)

-- below each frame stands one without children
pub leaf_below : (s : State) → Tree s → Deep s → (n : ℕ) (x : Path) (f : Frame) → s.frames x ≡ Some f → s.peak ≤ n + length x →
    (y : Path) × (g : Frame) × (s.frames y ≡ Some g) × (childless s y g.made ≡ true) × (is_member same_path (tails y) x ≡ true)
unfolding Deep
leaf_below s tree deep zero x f is room = let d : length x + 1 ≤ s.peak = deep x f is in absurd (omega arith)
leaf_below s tree deep (suc n) x f is room = from (childless s x f.made) refl (λ k c there. leaf_below s tree deep n (k ∷ x) c there (omega arith))
  where
    from : (b : Bool) → childless s x f.made ≡ b →
        ((k : ℕ) (c : Frame) → s.frames (k ∷ x) ≡ Some c → (y : Path) × (g : Frame) × (s.frames y ≡ Some g) × (childless s y g.made ≡ true) × (is_member same_path (tails y) (k ∷ x) ≡ true)) →
        (y : Path) × (g : Frame) × (s.frames y ≡ Some g) × (childless s y g.made ≡ true) × (is_member same_path (tails y) x ≡ true)
    from true none rest = (x, f, is, none, tails_self x)
    from false some rest =
        let (k, there) = some_below f.made (λ j. is_none (s.frames (j ∷ x))) some in
        let (c, at) = some_frame (s.frames (k ∷ x)) there in
        let (y, g, is_y, none, member) = rest k c at in
        (y, g, is_y, none, tails_up k x y member)

module _ (workers : ℕ) (s : State) (hands : ℕ → Option Path) (man : Manned workers s hands) where
  no_child : (p : Path) (f c : Frame) (k : ℕ) → s.frames p ≡ Some f → childless s p f.made ≡ true → s.frames (k ∷ p) ≡ Some c → ⊥
  no_child p f c k is none there =
      let (g, at, lt) = man.tree.has_parent k p c there in
      let same : g.made ≡ f.made = ap (λ y. y.made) (same_frame (s.frames p) g f at is) in
      let gone : is_none (s.frames (k ∷ p)) ≡ true = all_below_at f.made (λ j. is_none (s.frames (j ∷ p))) none k (omega arith) in
      cc

  -- each frame without children is the top of a task that a worker runs
  pub busy : (p : Path) (f : Frame) → s.frames p ≡ Some f → childless s p f.made ≡ true → (w : ℕ) × (w < workers) × (hands w ≡ Some p)
  busy p f is none = from (holder workers hands p) refl
    where
      by_parked : Parked s p f → ⊥
      by_parked (calls k d wait) = let (c, there, role) = man.tree.lives k d p f is wait in no_child p f c k is none there
      by_parked (ready k c free made there) = no_child p f c k is none there
      by_parked (stalled r k n c wait there role) = no_child p f c k is none there

      from : (o : Option ℕ) → holder workers hands p ≡ o → (w : ℕ) × (w < workers) × (hands w ≡ Some p)
      from None e = absurd (by_parked (man.parked p f is (unheld_by workers s hands man p e)))
      from (Some w) e = let h = holder_some workers hands p w e in (w, man.below w p h, h)

  tails_of : Option Path → List Path
  tails_of None = []
  tails_of (Some p) = tails p

  -- all frames on the way to a worker's
  places : ℕ → List Path
  places zero = []
  places (suc n) = tails_of (hands n) ++ places n

  short_tails : Deep s → (n : ℕ) (o : Option Path) → hands n ≡ o → length (tails_of o) ≤ s.peak
  unfolding tails_of Deep
  short_tails deep n None e = omega arith
  short_tails deep n (Some p) e =
      let go = man.goers n p e in
      let d : length p + 1 ≤ s.peak = deep p go.frame go.is in
      rw (length-tails p) d

  few_places : Deep s → (n : ℕ) → length (places n) ≤ n * s.peak
  unfolding places
  few_places deep zero = omega arith
  few_places deep (suc n) =
      let rest : length (places n) ≤ n * s.peak = few_places deep n in
      let here : length (tails_of (hands n)) ≤ s.peak = short_tails deep n (hands n) refl in
      rw (length-append (tails_of (hands n)) (places n)) (omega arith)

  member_append : (x : Path) (ys zs : List Path) → ((is_member same_path ys x ≡ true) ⊎ (is_member same_path zs x ≡ true)) → is_member same_path (ys ++ zs) x ≡ true
  member_append x [] zs (inl e) = absurd (cc)
  member_append x [] zs (inr e) = e
  member_append x (y ∷ ys) zs h = from (same_path x y) refl h (member_append x ys zs)
    where
      from : (t : Bool) → same_path x y ≡ t → ((◌||◌ t (is_member same_path ys x) ≡ true) ⊎ (is_member same_path zs x ≡ true)) →
          (((is_member same_path ys x ≡ true) ⊎ (is_member same_path zs x ≡ true)) → is_member same_path (ys ++ zs) x ≡ true) → ◌||◌ (same_path x y) (is_member same_path (ys ++ zs) x) ≡ true
      from true is k rest = rw is
      from false is k rest = rw is (rest k)

  in_places : (n w : ℕ) (x y : Path) → w < n → hands w ≡ Some y → is_member same_path (tails y) x ≡ true → is_member same_path (places n) x ≡ true
  unfolding places tails_of
  in_places zero w x y lt here member = absurd (omega arith)
  in_places (suc n) w x y lt here member = elim (nat_tells w n) [ inl e ↦ last e | inr e ↦ member_append x (tails_of (hands n)) (places n) (inr (in_places n w x y (omega arith) here member)) ]
    where
      last : w ≡ n → is_member same_path (places (suc n)) x ≡ true
      last e =
          let top : hands n ≡ Some y = subst (λ v. hands v ≡ Some y) e here in
          member_append x (tails_of (hands n)) (places n) (inl (rw top member))

  pub few_frames : Deep s → (ps : List Path) → IsDistinct same_path ps → ((x : Path) → is_member same_path ps x ≡ true → (f : Frame) × (s.frames x ≡ Some f)) → length ps ≤ workers * s.peak
  few_frames deep ps distinct live =
      length_bound (length-le_from_is_member path_laws ps (places workers) distinct (λ x member.
      let (f, is) = live x member in
      let (y, g, there, none, below) = leaf_below s man.tree deep s.peak x f is (omega arith) in
      let (w, lt, held) = busy y g there none in
      in_places workers w x y lt held below))
    where
      length_bound : length ps ≤ length (places workers) → length ps ≤ workers * s.peak
      length_bound h = let r : length (places workers) ≤ workers * s.peak = few_places deep workers in omega arith
