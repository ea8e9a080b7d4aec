-- A step keeps the tree of frames.
use Rattle.std.proofs.Common.{◌≡◌, ℕ, suc, ◌<◌, ◌∷◌, Option, Some, None, true, refl, sym, ap, ◌∙◌, subst, arith, is_none}
use Rattle.semantics.specs.Paths.{Path}
use Rattle.semantics.specs.Frames.{Free, OnCall, Body, Frame}
use Rattle.semantics.specs.State.{State, Change, apply}
use Rattle.semantics.specs.Tree.{Tree}
use Rattle.semantics.proofs.Steps.{Does}
use Rattle.semantics.proofs.Places.{all_below_at}
use Rattle.semantics.proofs.Diamond.{Spot, is_moved, is_gone, is_fresh, is_above, Goes, goes, spot, left_alone, stands, same_frame}
use Rattle.program.specs.linear.declared.form.RegisterId.{RegisterId}
use Rattle.program.specs.declared.function.Program.{Program}

module _ (s : State) (p : Path) (c : Change) (tree : Tree s) (gp : Goes s p) (spots : (x : Path) (o : Option Frame) → c.frames x ≡ Some o → Spot s p c.frames x o) where
  -- where a frame of the new state comes from
  pub data Origin (x : Path) (g : Frame) : Type 0 where
    was : (f : Frame) → s.frames x ≡ Some f → g.role ≡ f.role → Origin x g
    born : (k : ℕ) (h : Frame) → c.frames x ≡ Some (Some g) → x ≡ k ∷ p → c.frames p ≡ Some (Some h) → h.made ≡ suc k → g.waits ≡ Free → (g.role ≡ Body → (d : Option RegisterId) × (h.waits ≡ OnCall k d)) → Origin x g

  written : (x : Path) (o : Option Frame) → c.frames x ≡ Some o → (apply c s).frames x ≡ o
  written x o e = rw e

  pub origin : (x : Path) (g : Frame) → (apply c s).frames x ≡ Some g → Origin x g
  origin x g here = from (c.frames x) refl
    where
      of_spot : (o : Option Frame) → c.frames x ≡ Some o → o ≡ Some g → Spot s p c.frames x o → Origin x g
      of_spot o e is (is_moved f h at old new role made calls) = was f old (ap (λ y. y.role) (same_frame o g h is new) ∙ role)
      of_spot o e is (is_gone f at old new none hands) = absurd (cc)
      of_spot o e is (is_fresh k f h at none new free up made calls) =
          let same : f ≡ g = same_frame o f g new is in
          born k h (e ∙ ap Some is) at up made (subst (λ (y : Frame). y.waits ≡ Free) same free) (subst (λ (y : Frame). y.role ≡ Body → (d : Option RegisterId) × (h.waits ≡ OnCall k d)) same calls)
      of_spot o e is (is_above k d f h at old waits new role made free up) = was f old (ap (λ y. y.role) (same_frame o g h is new) ∙ role)

      from : (o : Option (Option Frame)) → c.frames x ≡ o → Origin x g
      from None e = was g (sym (left_alone c s x e) ∙ here) refl
      from (Some o) e = of_spot o e (sym (written x o e) ∙ here) (spots x o e)

  -- a frame with a living child stays
  parent_stays : (k : ℕ) (x : Path) (f child : Frame) → s.frames x ≡ Some f → k < f.made → s.frames (k ∷ x) ≡ Some child → (h : Frame) × ((apply c s).frames x ≡ Some h) × (k < h.made)
  parent_stays k x f child is lt lives = from (c.frames x) refl
    where
      of_spot : (o : Option Frame) → c.frames x ≡ Some o → Spot s p c.frames x o → (h : Frame) × ((apply c s).frames x ≡ Some h) × (k < h.made)
      of_spot o e (is_moved f2 h at old new role made calls) =
          let same : f2.made ≡ f.made = ap (λ y. y.made) (same_frame (s.frames x) f2 f old is) in
          (h, written x o e ∙ new, omega arith)
      of_spot o e (is_gone f2 at old new none hands) =
          let same : f2.made ≡ f.made = ap (λ y. y.made) (same_frame (s.frames x) f2 f old is) in
          let gone : is_none (s.frames (k ∷ p)) ≡ true = all_below_at f2.made (λ j. is_none (s.frames (j ∷ p))) none k (omega arith) in
          let there : s.frames (k ∷ p) ≡ Some child = subst (λ y. s.frames (k ∷ y) ≡ Some child) at lives in
          absurd (cc)
      of_spot o e (is_fresh j g h at none new free up made calls) = absurd (cc)
      of_spot o e (is_above j d f2 h at old waits new role made free up) =
          let same : f2.made ≡ f.made = ap (λ y. y.made) (same_frame (s.frames x) f2 f old is) in
          (h, written x o e ∙ new, omega arith)

      from : (o : Option (Option Frame)) → c.frames x ≡ o → (h : Frame) × ((apply c s).frames x ≡ Some h) × (k < h.made)
      from None e = (f, left_alone c s x e ∙ is, lt)
      from (Some o) e = of_spot o e (spots x o e)

  has_parent_kept : (k : ℕ) (x : Path) (g : Frame) → (apply c s).frames (k ∷ x) ≡ Some g → (h : Frame) × ((apply c s).frames x ≡ Some h) × (k < h.made)
  has_parent_kept k x g here = from (origin (k ∷ x) g here)
    where
      from : Origin (k ∷ x) g → (h : Frame) × ((apply c s).frames x ≡ Some h) × (k < h.made)
      from (was f old role) = let (up, at, lt) = tree.has_parent k x f old in parent_stays k x up f at lt old
      from (born j h made_here at up made free calls) =
          let above : x ≡ p = cc in
          let number : k ≡ j = cc in
          (h, subst (λ y. (apply c s).frames y ≡ Some h) (sym above) (written p (Some h) up), omega arith)

  -- the caller of a living call goes on waiting
  caller_waits : (k : ℕ) (d : Option RegisterId) (x : Path) (f g : Frame) → s.frames x ≡ Some f → f.waits ≡ OnCall k d → (apply c s).frames (k ∷ x) ≡ Some g → (apply c s).frames x ≡ Some f
  caller_waits k d x f g is waits here = from (c.frames x) refl
    where
      of_spot : (o : Option Frame) → c.frames x ≡ Some o → Spot s p c.frames x o → (apply c s).frames x ≡ Some f
      of_spot o e (is_moved f2 h at old new role made calls) = absurd (stands gp f k d (subst (λ y. s.frames y ≡ Some f) at is) waits)
      of_spot o e (is_gone f2 at old new none hands) = absurd (stands gp f k d (subst (λ y. s.frames y ≡ Some f) at is) waits)
      of_spot o e (is_fresh j g h at none new free up made calls) = absurd (cc)
      of_spot o e (is_above j b f2 h at old waits2 new role made free up) =
          let same : f2 ≡ f = same_frame (s.frames x) f2 f old is in
          let w : OnCall j b ≡ OnCall k d = sym waits2 ∙ ap (λ y. y.waits) same ∙ waits in
          let number : j ≡ k = cc in
          let gone : (apply c s).frames (k ∷ x) ≡ None = subst (λ y. (apply c s).frames y ≡ None) (at ∙ ap (λ n. n ∷ x) number) (written p None up) in
          absurd (cc)

      from : (o : Option (Option Frame)) → c.frames x ≡ o → (apply c s).frames x ≡ Some f
      from None e = left_alone c s x e ∙ is
      from (Some o) e = of_spot o e (spots x o e)

  awaited_kept : (k : ℕ) (x : Path) (g : Frame) → (apply c s).frames (k ∷ x) ≡ Some g → g.role ≡ Body → (f : Frame) × (d : Option RegisterId) × ((apply c s).frames x ≡ Some f) × (f.waits ≡ OnCall k d)
  awaited_kept k x g here role = from (origin (k ∷ x) g here)
    where
      from : Origin (k ∷ x) g → (f : Frame) × (d : Option RegisterId) × ((apply c s).frames x ≡ Some f) × (f.waits ≡ OnCall k d)
      from (was f old same) = let (up, d, at, waits) = tree.awaited k x f old (sym same ∙ role) in (up, d, caller_waits k d x up g at waits here, waits)
      from (born j h made_here at up made free calls) =
          let above : x ≡ p = cc in
          let number : j ≡ k = cc in
          let (d, waits) = calls role in
          (h, d, subst (λ y. (apply c s).frames y ≡ Some h) (sym above) (written p (Some h) up), waits ∙ ap (λ n. OnCall n d) number)

  -- a call that is awaited stays, unless it hands over
  call_stays : (k : ℕ) (d : Option RegisterId) (x : Path) (f g : Frame) → c.frames x ≡ None → s.frames x ≡ Some f → s.frames (k ∷ x) ≡ Some g → g.role ≡ Body → (h : Frame) × ((apply c s).frames (k ∷ x) ≡ Some h) × (h.role ≡ Body)
  call_stays k d x f g same is lives role = from (c.frames (k ∷ x)) refl
    where
      of_spot : (o : Option Frame) → c.frames (k ∷ x) ≡ Some o → Spot s p c.frames (k ∷ x) o → (h : Frame) × ((apply c s).frames (k ∷ x) ≡ Some h) × (h.role ≡ Body)
      of_spot o e (is_moved f2 h at old new r made calls) = (h, written _ o e ∙ new, r ∙ ap (λ y. y.role) (same_frame (s.frames (k ∷ x)) f2 g old lives) ∙ role)
      of_spot o e (is_gone f2 at old new none hands) =
          let (u, over) = hands (ap (λ y. y.role) (same_frame (s.frames (k ∷ x)) f2 g old lives) ∙ role) k x (sym at) in
          absurd (cc)
      of_spot o e (is_fresh j u h at none new free up made calls) = absurd (cc)
      of_spot o e (is_above j b f2 h at old waits2 new r made free up) = (h, written _ o e ∙ new, r ∙ ap (λ y. y.role) (same_frame (s.frames (k ∷ x)) f2 g old lives) ∙ role)

      from : (o : Option (Option Frame)) → c.frames (k ∷ x) ≡ o → (h : Frame) × ((apply c s).frames (k ∷ x) ≡ Some h) × (h.role ≡ Body)
      from None e = (g, left_alone c s _ e ∙ lives, role)
      from (Some o) e = of_spot o e (spots _ o e)

  lives_kept : (k : ℕ) (d : Option RegisterId) (x : Path) (f : Frame) → (apply c s).frames x ≡ Some f → f.waits ≡ OnCall k d → (h : Frame) × ((apply c s).frames (k ∷ x) ≡ Some h) × (h.role ≡ Body)
  lives_kept k d x f here waits = from (c.frames x) refl
    where
      of_spot : (o : Option Frame) → c.frames x ≡ Some o → o ≡ Some f → Spot s p c.frames x o → (h : Frame) × ((apply c s).frames (k ∷ x) ≡ Some h) × (h.role ≡ Body)
      of_spot o e is (is_moved f2 g at old new r made calls) =
          let same : f ≡ g = same_frame o f g is new in
          let (h, made2, role) = calls k d (sym (ap (λ y. y.waits) same) ∙ waits) in
          (h, subst (λ y. (apply c s).frames (k ∷ y) ≡ Some h) (sym at) (written (k ∷ p) (Some h) made2), role)
      of_spot o e is (is_gone f2 at old new none hands) = absurd (cc)
      of_spot o e is (is_fresh j g h at none new free up made calls) = absurd (let same : f ≡ g = same_frame o f g is new in let w = ap (λ y. y.waits) same in cc)
      of_spot o e is (is_above j b f2 g at old waits2 new r made free up) = absurd (let same : f ≡ g = same_frame o f g is new in let w = ap (λ y. y.waits) same in cc)

      from : (o : Option (Option Frame)) → c.frames x ≡ o → (h : Frame) × ((apply c s).frames (k ∷ x) ≡ Some h) × (h.role ≡ Body)
      from None e =
          let old : s.frames x ≡ Some f = sym (left_alone c s x e) ∙ here in
          let (g, at, role) = tree.lives k d x f old waits in
          call_stays k d x f g e old at role
      from (Some o) e = of_spot o e (sym (written x o e) ∙ here) (spots x o e)

  pub tree_kept : Tree (apply c s)
  tree_kept = record { has_parent = has_parent_kept; awaited = awaited_kept; lives = lives_kept }

pub step_keeps_tree : {prog : Program} {s : State} {p : Path} {c : Change} → Tree s → Does prog s p c → Tree (apply c s)
step_keeps_tree {s = s} {p = p} {c = c} tree dp = tree_kept s p c tree (goes dp) (spot tree dp)
