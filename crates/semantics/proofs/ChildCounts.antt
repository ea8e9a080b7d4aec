-- A step changes the numbers of living children as it changes the counts.
use Rattle.std.proofs.Common.{◌≡◌, ◌≢◌, ℕ, zero, suc, ◌<◌, [], ◌∷◌, Option, Some, None, Bool, true, false, cond, not, ◌&&◌, eqb, eq-eqb, inl, inr, refl, sym, ap, ◌∙◌, subst, arith, is_none}
use Rattle.std.proofs.lemmas.Bool.Decides.{eqb_tells}
use Rattle.semantics.specs.Paths.{Path}
use Rattle.semantics.specs.Frames.{Child, Body, Frame}
use Rattle.semantics.specs.Effect.{Action, action_of}
use Rattle.semantics.specs.State.{State, Change, apply, only, both, none_within, outside, childless, went, detached}
use Rattle.semantics.specs.State.{continued, synced, called, waiting, resumed, detach_change, reattach_change}
use Rattle.semantics.specs.CoreSteps.{children_within}
use Rattle.semantics.specs.Tree.{Tree}
use Rattle.semantics.specs.Counts.{lowered, changed_at, left_by, counts_after, count_of}
use Rattle.semantics.proofs.Places.{same_path_tells, same_path_apart, no_own_child, only_off, both_off}
use Rattle.semantics.proofs.Actions.{same_path_itself}
use Rattle.semantics.proofs.Steps.{Does, plain, detach, reattach, sync, call, ret, end}
use Rattle.semantics.proofs.Diamond.{next_free, same_frame}
use Rattle.program.specs.declared.function.Program.{Program}

-- ---- counting

-- children that are told alike are counted alike
counted_alike : (s t : State) (q : Path) (r n : ℕ) → ((k : ℕ) → k < n → outside r (t.frames (k ∷ q)) ≡ outside r (s.frames (k ∷ q))) → children_within t q n r ≡ children_within s q n r
counted_alike s t q r zero same = refl
counted_alike s t q r (suc n) same = rw (same n (omega arith), counted_alike s t q r n (λ k lt. same k (omega arith)))

-- all but one, which is gone
counted_less : (s t : State) (q : Path) (r k n : ℕ) → k < n → ((j : ℕ) → j ≢ k → outside r (t.frames (j ∷ q)) ≡ outside r (s.frames (j ∷ q))) → outside r (t.frames (k ∷ q)) ≡ true → outside r (s.frames (k ∷ q)) ≡ false →
    children_within s q n r ≡ suc (children_within t q n r)
counted_less s t q r k zero lt same gone was = absurd (omega arith)
counted_less s t q r k (suc n) lt same gone was =
    elim (eqb_tells n k) [
      | inl e ↦
          let is : n ≡ k = e.1 in
          let now : outside r (t.frames (n ∷ q)) ≡ true = subst (λ j. outside r (t.frames (j ∷ q)) ≡ true) (sym is) gone in
          let before : outside r (s.frames (n ∷ q)) ≡ false = subst (λ j. outside r (s.frames (j ∷ q)) ≡ false) (sym is) was in
          rw (now, before) (ap (λ x. suc x) (sym (counted_alike s t q r n (λ j less. same j (λ h. absurd (omega arith))))))
      | inr e ↦ let off : n ≢ k = e.1 in by_here off (outside r (s.frames (n ∷ q))) refl (same n off) (counted_less s t q r k n (omega arith) same gone was)
    ]
  where
    by_here : n ≢ k → (b : Bool) → outside r (s.frames (n ∷ q)) ≡ b → outside r (t.frames (n ∷ q)) ≡ outside r (s.frames (n ∷ q)) → children_within s q n r ≡ suc (children_within t q n r) → children_within s q (suc n) r ≡ suc (children_within t q (suc n) r)
    by_here off true is alike rest = rw (alike, is) rest
    by_here off false is alike rest = rw (alike, is) (ap (λ x. suc x) rest)

outside_none : (r : ℕ) (o : Option Frame) → is_none o ≡ true → outside r o ≡ true
outside_none r None e = refl
outside_none r (Some f) e = absurd (cc)

pub none_counted : (s : State) (q : Path) (r n : ℕ) → none_within s q n r ≡ true → children_within s q n r ≡ 0
none_counted s q r zero e = refl
none_counted s q r (suc n) e = from (outside r (s.frames (n ∷ q))) refl e (none_counted s q r n)
  where
    from : (b : Bool) → outside r (s.frames (n ∷ q)) ≡ b → b && none_within s q n r ≡ true → (none_within s q n r ≡ true → children_within s q n r ≡ 0) → children_within s q (suc n) r ≡ 0
    from true is h rest = rw is (rest h)
    from false is h rest = absurd (cc)

pub counted_none : (s : State) (q : Path) (r n : ℕ) → children_within s q n r ≡ 0 → none_within s q n r ≡ true
counted_none s q r zero e = refl
counted_none s q r (suc n) e = from (outside r (s.frames (n ∷ q))) refl e (counted_none s q r n)
  where
    from : (b : Bool) → outside r (s.frames (n ∷ q)) ≡ b → cond b (children_within s q n r) (suc (children_within s q n r)) ≡ 0 → (children_within s q n r ≡ 0 → none_within s q n r ≡ true) → none_within s q (suc n) r ≡ true
    from true is h rest = rw is (rest h)
    from false is h rest = absurd (omega arith)

pub childless_counted : (s : State) (q : Path) (r n : ℕ) → childless s q n ≡ true → children_within s q n r ≡ 0
childless_counted s q r zero e = refl
childless_counted s q r (suc n) e = from (is_none (s.frames (n ∷ q))) refl e (childless_counted s q r n)
  where
    from : (b : Bool) → is_none (s.frames (n ∷ q)) ≡ b → b && childless s q n ≡ true → (childless s q n ≡ true → children_within s q n r ≡ 0) → children_within s q (suc n) r ≡ 0
    from true is h rest = rw (outside_none r (s.frames (n ∷ q)) is) (rest h)
    from false is h rest = absurd (cc)

-- ---- what a change of one or two frames leaves

pub count_at : (s : State) (q : Path) (f : Frame) (r : ℕ) → s.frames q ≡ Some f → count_of s q r ≡ children_within s q f.made r
count_at s q f r is = rw is refl

count_gone : (s : State) (q : Path) (r : ℕ) → s.frames q ≡ None → count_of s q r ≡ 0
count_gone s q r is = rw is refl

module _ (prog : Program) (s : State) (tree : Tree s) (p : Path) where
  module _ (c : Change) where
    abbrev pub t : State
    t = apply c s

    left : (x : Path) → c.frames x ≡ None → t.frames x ≡ s.frames x
    left x e = rw e

    set : (x : Path) (o : Option Frame) → c.frames x ≡ Some o → t.frames x ≡ o
    set x o e = rw e

    -- a frame with the same children is counted as before
    alike : (q : Path) (r : ℕ) → t.frames q ≡ s.frames q → ((k : ℕ) → outside r (t.frames (k ∷ q)) ≡ outside r (s.frames (k ∷ q))) → count_of t q r ≡ count_of s q r
    alike q r here same = from (s.frames q) here refl
      where
        from : (o : Option Frame) → t.frames q ≡ o → s.frames q ≡ o → count_of t q r ≡ count_of s q r
        from None now was = rw (now, was) refl
        from (Some f) now was = count_at t q f r now ∙ counted_alike s t q r f.made (λ k lt. same k) ∙ sym (count_at s q f r was)

    -- a frame that has moved, but made no child
    moved : (f g : Frame) (q : Path) (r : ℕ) → s.frames q ≡ Some f → t.frames q ≡ Some g → g.made ≡ f.made → ((k : ℕ) → outside r (t.frames (k ∷ q)) ≡ outside r (s.frames (k ∷ q))) → count_of t q r ≡ count_of s q r
    moved f g q r was now made same = count_at t q g r now ∙ ap (λ n. children_within t q n r) made ∙ counted_alike s t q r f.made (λ k lt. same k) ∙ sym (count_at s q f r was)

    gone : (f : Frame) (r : ℕ) → s.frames p ≡ Some f → t.frames p ≡ None → childless s p f.made ≡ true → count_of t p r ≡ count_of s p r
    gone f r was now none = count_gone t p r now ∙ sym (childless_counted s p r f.made none) ∙ sym (count_at s p f r was)

    -- where only the frame at p is changed, and keeps its role and children
    pub moved_alone : (f g : Frame) → c.frames ≡ only p (Some g) → s.frames p ≡ Some f → g.role ≡ f.role → g.made ≡ f.made → (q : Path) (r : ℕ) → count_of t q r ≡ count_of s q r
    moved_alone f g at was role made q r =
        elim (same_path_tells p q) [
          | inl e ↦ moved f g q r (subst (λ x. s.frames x ≡ Some f) e.1 was) (subst (λ x. t.frames x ≡ Some g) e.1 now) made (λ k. told (k ∷ q))
          | inr e ↦ alike q r (left q (ap (λ m. m q) at ∙ only_off p q (Some g) e.1)) (λ k. told (k ∷ q))
        ]
      where
        now : t.frames p ≡ Some g
        now = set p (Some g) (ap (λ m. m p) at ∙ rw (same_path_itself p) refl)

        told : (x : Path) → outside r (t.frames x) ≡ outside r (s.frames x)
        told x =
            elim (same_path_tells p x) [
              | inl e ↦ subst (λ y. outside r (t.frames y) ≡ outside r (s.frames y)) e.1 (rw (now, was, role) refl)
              | inr e ↦ ap (λ o. outside r o) (left x (ap (λ m. m x) at ∙ only_off p x (Some g) e.1))
            ]

    -- where a frame goes that was called
    module _ (f : Frame) (was : s.frames p ≡ Some f) (none : childless s p f.made ≡ true) (role : f.role ≡ Body) where
      body_told : (r : ℕ) → t.frames p ≡ None → outside r (t.frames p) ≡ outside r (s.frames p)
      body_told r now = rw (now, was, role) refl

      ended : c.frames ≡ only p None → (q : Path) (r : ℕ) → count_of t q r ≡ count_of s q r
      ended at q r =
          elim (same_path_tells p q) [
            | inl e ↦ subst (λ x. count_of t x r ≡ count_of s x r) e.1 (gone f r was now none)
            | inr e ↦ alike q r (left q (ap (λ m. m q) at ∙ only_off p q None e.1)) (λ k. told (k ∷ q))
          ]
        where
          now : t.frames p ≡ None
          now = set p None (ap (λ m. m p) at ∙ rw (same_path_itself p) refl)

          told : (x : Path) → outside r (t.frames x) ≡ outside r (s.frames x)
          told x =
              elim (same_path_tells p x) [
                | inl e ↦ subst (λ y. outside r (t.frames y) ≡ outside r (s.frames y)) e.1 (body_told r now)
                | inr e ↦ ap (λ o. outside r o) (left x (ap (λ m. m x) at ∙ only_off p x None e.1))
              ]

      returned : (above : Path) (g h : Frame) → p ≢ above → c.frames ≡ both p None above (Some h) → s.frames above ≡ Some g → h.role ≡ g.role → h.made ≡ g.made → (q : Path) (r : ℕ) → count_of t q r ≡ count_of s q r
      returned above g h apart at over kept made q r =
          elim (same_path_tells p q) [
            | inl e ↦ subst (λ x. count_of t x r ≡ count_of s x r) e.1 (gone f r was now none)
            | inr e ↦ elim (same_path_tells above q) [
              | inl u ↦ moved g h q r (subst (λ x. s.frames x ≡ Some g) u.1 over) (subst (λ x. t.frames x ≡ Some h) u.1 caller) made (λ k. told (k ∷ q))
              | inr u ↦ alike q r (left q (ap (λ m. m q) at ∙ both_off p above q None (Some h) e.1 u.1)) (λ k. told (k ∷ q))
            ]
          ]
        where
          now : t.frames p ≡ None
          now = set p None (ap (λ m. m p) at ∙ rw (same_path_itself p) refl)

          caller : t.frames above ≡ Some h
          caller = set above (Some h) (ap (λ m. m above) at ∙ rw (same_path_apart p above apart, same_path_itself above) refl)

          told : (x : Path) → outside r (t.frames x) ≡ outside r (s.frames x)
          told x =
              elim (same_path_tells p x) [
                | inl e ↦ subst (λ y. outside r (t.frames y) ≡ outside r (s.frames y)) e.1 (body_told r now)
                | inr e ↦ elim (same_path_tells above x) [
                  | inl u ↦ subst (λ y. outside r (t.frames y) ≡ outside r (s.frames y)) u.1 (rw (caller, over, kept) refl)
                  | inr u ↦ ap (λ o. outside r o) (left x (ap (λ m. m x) at ∙ both_off p above x None (Some h) e.1 u.1))
                ]
              ]

    -- where a child is made
    module _ (f g d : Frame) (at : c.frames ≡ both p (Some g) (f.made ∷ p) (Some d)) (was : s.frames p ≡ Some f) (role : g.role ≡ f.role) (made : g.made ≡ suc f.made) (fresh : d.made ≡ 0) where
      apart : p ≢ f.made ∷ p
      apart e = no_own_child f.made p (sym e)

      now : t.frames p ≡ Some g
      now = set p (Some g) (ap (λ m. m p) at ∙ rw (same_path_itself p) refl)

      child : t.frames (f.made ∷ p) ≡ Some d
      child = set (f.made ∷ p) (Some d) (ap (λ m. m (f.made ∷ p)) at ∙ rw (same_path_apart p (f.made ∷ p) apart, same_path_itself (f.made ∷ p)) refl)

      told : (r : ℕ) (x : Path) → x ≢ f.made ∷ p → outside r (t.frames x) ≡ outside r (s.frames x)
      told r x off =
          elim (same_path_tells p x) [
            | inl e ↦ subst (λ y. outside r (t.frames y) ≡ outside r (s.frames y)) e.1 (rw (now, was, role) refl)
            | inr e ↦ ap (λ o. outside r o) (left x (ap (λ m. m x) at ∙ both_off p (f.made ∷ p) x (Some g) (Some d) e.1 (λ h. off (sym h))))
          ]

      same_tail : (k j : ℕ) (x y : Path) → k ∷ x ≡ j ∷ y → x ≡ y
      same_tail k j x y e = cc

      same_head : (k j : ℕ) (x : Path) → k ∷ x ≡ j ∷ x → k ≡ j
      same_head k j x e = cc

      others : (q : Path) (r : ℕ) → p ≢ q → count_of t q r ≡ count_of s q r
      others q r off =
          elim (same_path_tells (f.made ∷ p) q) [
            | inl e ↦ subst (λ x. count_of t x r ≡ count_of s x r) e.1 (count_at t (f.made ∷ p) d r child ∙ ap (λ n. children_within t (f.made ∷ p) n r) fresh ∙ sym (count_gone s (f.made ∷ p) r (next_free tree p f was)))
            | inr e ↦ alike q r (left q (ap (λ m. m q) at ∙ both_off p (f.made ∷ p) q (Some g) (Some d) off e.1)) (λ k. told r (k ∷ q) (λ h. off (sym (same_tail k f.made q p h))))
          ]

      parent : (r : ℕ) → count_of t p r ≡ cond (outside r (Some d)) (count_of s p r) (suc (count_of s p r))
      parent r = count_at t p g r now ∙ ap (λ n. children_within t p n r) made ∙ rw (child, before) refl
        where
          before : children_within t p f.made r ≡ count_of s p r
          before = counted_alike s t p r f.made (λ k lt. told r (k ∷ p) (λ h. let e : k ≡ f.made = same_head k f.made p h in absurd (omega arith))) ∙ sym (count_at s p f r was)

  -- ---- a detach and a reattach

  told_apart : (region r : ℕ) → region ≢ r → eqb region r ≡ false
  told_apart region r off = elim (eqb_tells region r) [ inl h ↦ absurd (off h.1) | inr h ↦ h.0 ]

  -- the count of the detach's region is one more
  with_child : (r region n : ℕ) → cond (not (eqb r region)) n (suc n) ≡ cond (eqb region r) (suc n) n
  with_child r region n = elim (eqb_tells r region) [ inl e ↦ rw (e.0, eq-eqb region r (sym e.1)) refl | inr e ↦ rw (e.0, told_apart region r (λ h. e.1 (sym h))) refl ]

  detach_counts : (f : Frame) (region b n : ℕ) → s.frames p ≡ Some f → (q : Path) (r : ℕ) → count_of (apply (detach_change p f region b n) s) q r ≡ changed_at p region (λ x. suc x) (count_of s) q r
  detach_counts f region b n was q r =
      elim (same_path_tells p q) [
        | inl e ↦ subst (λ x. count_of (apply (detach_change p f region b n) s) x r ≡ changed_at p region (λ y. suc y) (count_of s) x r) e.1
            (parent (detach_change p f region b n) f (continued f n) (detached f region b n) refl was refl refl refl r ∙ with_child r region (count_of s p r) ∙ sym (rw (same_path_itself p) refl))
        | inr e ↦ others (detach_change p f region b n) f (continued f n) (detached f region b n) refl was refl refl refl q r e.1 ∙ sym (rw e.0 refl)
      ]

  module _ (f : Frame) (region n : ℕ) (was : s.frames p ≡ Some f) (role : f.role ≡ Child region n) (none : childless s p f.made ≡ true) where
    abbrev u : State
    u = apply (reattach_change p) s

    now_gone : u.frames p ≡ None
    now_gone = set (reattach_change p) p None (rw (same_path_itself p) refl)

    stays : (x : Path) → p ≢ x → u.frames x ≡ s.frames x
    stays x off = left (reattach_change p) x (only_off p x None off)

    child_gone : (r : ℕ) → count_of u p r ≡ count_of s p r
    child_gone r = gone (reattach_change p) f r was now_gone none

    untouched : (q : Path) (r : ℕ) → p ≢ q → ((k : ℕ) → p ≢ k ∷ q) → count_of u q r ≡ count_of s q r
    untouched q r off not_child = alike (reattach_change p) q r (stays q off) (λ k. ap (λ o. outside r o) (stays (k ∷ q) (not_child k)))

    module _ (k : ℕ) (above : Path) (up : p ≡ k ∷ above) (g : Frame) (over : s.frames above ≡ Some g) (lt : k < g.made) where
      not_above : p ≢ above
      not_above e = no_own_child k above (sym up ∙ e)

      sibling : (j : ℕ) → j ≢ k → p ≢ j ∷ above
      sibling j off e = off (let h : k ∷ above ≡ j ∷ above = sym up ∙ e in cc)

      stays_beside : (r j : ℕ) → j ≢ k → outside r (u.frames (j ∷ above)) ≡ outside r (s.frames (j ∷ above))
      stays_beside r j off = ap (λ o. outside r o) (stays (j ∷ above) (sibling j off))

      now_none : u.frames (k ∷ above) ≡ None
      now_none = subst (λ x. u.frames x ≡ None) up now_gone

      was_there : s.frames (k ∷ above) ≡ Some f
      was_there = subst (λ x. s.frames x ≡ Some f) up was

      above_now : (r : ℕ) → count_of u above r ≡ children_within u above g.made r
      above_now r = count_at u above g r (stays above not_above ∙ over)

      -- in its own region one less
      in_region : (r : ℕ) → region ≡ r → count_of u above r ≡ lowered (count_of s above r)
      in_region r is =
          above_now r ∙ ap lowered
          (sym (count_at s above g r over ∙ counted_less s u above r k g.made lt (λ j off. stays_beside r j off) (rw now_none refl) (rw (was_there, role, eq-eqb r region (sym is)) refl)))

      -- in others as many
      off_region : (r : ℕ) → region ≢ r → count_of u above r ≡ count_of s above r
      off_region r off = above_now r ∙ counted_alike s u above r g.made (λ j less. told j) ∙ sym (count_at s above g r over)
        where
          told : (j : ℕ) → outside r (u.frames (j ∷ above)) ≡ outside r (s.frames (j ∷ above))
          told j =
              elim (eqb_tells k j) [
                | inl e ↦ subst (λ i. outside r (u.frames (i ∷ above)) ≡ outside r (s.frames (i ∷ above))) e.1 (rw (now_none, was_there, role, told_apart r region (λ h. off (sym h))) refl)
                | inr e ↦ stays_beside r j (λ h. e.1 (sym h))
              ]

      parent_left : (r : ℕ) → count_of u above r ≡ changed_at above region lowered (count_of s) above r
      parent_left r = elim (eqb_tells region r) [ inl e ↦ in_region r e.1 ∙ sym (rw (same_path_itself above, e.0) refl) | inr e ↦ off_region r e.1 ∙ sym (rw (same_path_itself above, e.0) refl) ]

      -- elsewhere too
      left_counts : (q : Path) (r : ℕ) → count_of u q r ≡ changed_at above region lowered (count_of s) q r
      left_counts q r =
          elim (same_path_tells above q) [
            | inl e ↦ subst (λ x. count_of u x r ≡ changed_at above region lowered (count_of s) x r) e.1 (parent_left r)
            | inr e ↦ elsewhere e.1 ∙ sym (rw e.0 refl)
          ]
        where
          elsewhere : above ≢ q → count_of u q r ≡ count_of s q r
          elsewhere off =
              elim (same_path_tells p q) [
                | inl e ↦ subst (λ x. count_of u x r ≡ count_of s x r) e.1 (child_gone r)
                | inr e ↦ untouched q r e.1 (λ j h. off (let same : k ∷ above ≡ j ∷ q = sym up ∙ h in cc))
              ]

    reattach_counts : (x : Path) → p ≡ x → (q : Path) (r : ℕ) → count_of u q r ≡ left_by x region (count_of s) q r
    reattach_counts [] up q r =
        elim (same_path_tells p q) [
          | inl e ↦ subst (λ x. count_of u x r ≡ count_of s x r) e.1 (child_gone r)
          | inr e ↦ untouched q r e.1 (λ j h. absurd (let same : [] ≡ j ∷ q = sym up ∙ h in cc))
        ]
    reattach_counts (k ∷ above) up q r =
        let (g, over, lt) = tree.has_parent k above f (subst (λ x. s.frames x ≡ Some f) up was) in
        left_counts k above up g over lt q r

  -- ---- any step

  abbrev Follows : Change → Action → Type 0
  Follows c a = (q : Path) (r : ℕ) → count_of (apply c s) q r ≡ counts_after p a (count_of s) q r

  as_acted : (c : Change) (f g : Frame) (a : Action) → s.frames p ≡ Some f → s.frames p ≡ Some g → action_of prog p f s.memory ≡ a → Follows c a → Follows c (action_of prog p g s.memory)
  as_acted c f g a is is2 at done =
      let same : f ≡ g = same_frame (s.frames p) f g is is2 in
      subst (λ (z : Frame). Follows c (action_of prog p z s.memory)) same (subst (λ x. Follows c x) (sym at) done)

  pub step_counts : (c : Change) → Does prog s p c → (g : Frame) → s.frames p ≡ Some g → Follows c (action_of prog p g s.memory)
  step_counts c (plain f e is go at) g is2 = as_acted c f g _ is is2 at (moved_alone c f (went f e) refl is refl refl)
  step_counts c (detach f region b n is go at) g is2 = as_acted c f g _ is is2 at (detach_counts f region b n is)
  step_counts c (reattach f region n is go at none role) g is2 = as_acted c f g _ is is2 at (reattach_counts f region n is role none p refl)
  step_counts c (sync f region b rs is go at) g is2 = as_acted c f g _ is is2 at (moved_alone c f (synced f region b rs) refl is refl refl)
  step_counts c (call f d callee vs is go at) g is2 =
      as_acted c f g _ is is2 at
      (λ q r.
      elim (same_path_tells p q) [
        | inl e ↦ subst (λ x. count_of (apply c s) x r ≡ count_of s x r) e.1 (parent c f (waiting f d) (called p f callee vs) refl is refl refl refl r)
        | inr e ↦ others c f (waiting f d) (called p f callee vs) refl is refl refl refl q r e.1
      ])
  step_counts c (ret f v k above u2 j d is go at none role up over waits) g is2 =
      as_acted c f g _ is is2 at (returned c f is none role above u2 (resumed u2 d v) (λ e. no_own_child k above (sym up ∙ e)) refl over refl refl)
  step_counts c (end f v is go at none role up) g is2 = as_acted c f g _ is is2 at (ended c f is none role refl)
