-- The frames of a strand stand one on the other, from the base up, at paths that are new to the machine.
use Rattle.std.proofs.Common.{◌≡◌, ℕ, suc, ◌<◌, ◌≤◌, List, [], ◌∷◌, length, Option, Some, None, refl, sym, ap, ◌∙◌, subst, arith}
use Rattle.semantics.specs.Paths.{Path}
use Rattle.semantics.specs.Frames.{Wait, Free, OnCall, Role, Child, Body, Frame}
use Rattle.semantics.specs.State.{State}
use Rattle.semantics.specs.Tree.{Tree}
use Rattle.semantics.proofs.Places.{same_path_apart}
use Rattle.semantics.specs.State.{detached, continued, called, waiting, resumed}
use Rattle.semantics.proofs.Diamond.{same_frame}
use Rattle.laws_strands.specs.stacks.Strands.{Placed, at, Strand, IsStrand, is_loaded, is_filled, is_advanced, is_past_sync, is_detached, is_called, is_reattached, is_returned}
use Rattle.laws_strands.specs.stacks.Law.{with_frames, EndsMatch}
use Rattle.laws_strands.specs.stacks.Footprint.{memory_of}
use Rattle.semantics.proofs.Actions.{return_is_body, reattach_is_child}
use Rattle.linear.specs.declared.form.RegisterId.{RegisterId}
use Rattle.program.specs.declared.function.Program.{Program}

-- a path below p, at a child that p made after so many
pub data IsNew (p : Path) (made : ℕ) : Path → Type 0 where
  new_child : (k : ℕ) → made ≤ k → IsNew p made (k ∷ p)
  new_below : (k : ℕ) (x : Path) → IsNew p made x → IsNew p made (k ∷ x)

-- each frame is the newest child of the one below, and new; the last is the base, which made as many frames as before, or more
abbrev pub Rises : Placed → Placed → List Placed → Type 0
Rises b t [] = (t.path ≡ b.path) × (b.frame.made ≤ t.frame.made)
Rises b t (g ∷ rest) = (k : ℕ) × (t.path ≡ k ∷ g.path) × (g.frame.made ≡ suc k) × IsNew b.path b.frame.made t.path × Rises b g rest

-- only the path and the count of children count
pub rises_kept : (b t u : Placed) (below : List Placed) → u.path ≡ t.path → u.frame.made ≡ t.frame.made → Rises b t below → Rises b u below
rises_kept b t u [] path made (is, le) = (path ∙ is, omega arith)
rises_kept b t u (g ∷ rest) path made (k, is, next, new, more) = (k, path ∙ is, next, subst (λ x. IsNew b.path b.frame.made x) (sym path) new, more)

-- a new frame on top of the one that made it
child_new : (b t : Placed) (below : List Placed) → Rises b t below → IsNew b.path b.frame.made (t.frame.made ∷ t.path)
child_new b t [] (is, le) = subst (λ x. IsNew b.path b.frame.made (t.frame.made ∷ x)) (sym is) (new_child t.frame.made le)
child_new b t (g ∷ rest) (k, is, next, new, more) = new_below t.frame.made t.path new

made_more : (b t u : Placed) (below : List Placed) → u.path ≡ t.path → u.frame.made ≡ suc t.frame.made → Rises b t below → Rises b u below
made_more b t u [] path made (is, le) = (path ∙ is, omega arith)
made_more b t u (g ∷ rest) path made (k, is, next, new, more) = (k, path ∙ is, next, subst (λ x. IsNew b.path b.frame.made x) (sym path) new, more)

pub rises_more : (b t u c : Placed) (below : List Placed) → u.path ≡ t.path → u.frame.made ≡ suc t.frame.made → c.path ≡ t.frame.made ∷ t.path → Rises b t below → Rises b c (u ∷ below)
rises_more b t u c below path made here r =
    (t.frame.made, here ∙ ap (λ x. t.frame.made ∷ x) (sym path), made, subst (λ x. IsNew b.path b.frame.made x) (sym here) (child_new b t below r), made_more b t u below path made r)

pub rises : (prog : Program) (d : Strand) → IsStrand prog d → Rises d.base d.top d.below
rises prog _ (is_loaded p f) = (refl, omega arith)
rises prog _ (is_filled d c v e is here fine reads unheld new) = rises prog d is
rises prog _ (is_advanced d e is here fine holds) = rises_kept d.base d.top _ d.below refl refl (rises prog d is)
rises prog _ (is_past_sync d r b rs is here) = rises_kept d.base d.top _ d.below refl refl (rises prog d is)
rises prog _ (is_detached d r b n is here) = rises_more d.base d.top (at d.top.path (continued d.top.frame n)) (at (d.top.frame.made ∷ d.top.path) (detached d.top.frame r b n)) d.below refl refl refl (rises prog d is)
rises prog _ (is_called d o g vs is here) = rises_more d.base d.top (at d.top.path (waiting d.top.frame o)) (at (d.top.frame.made ∷ d.top.path) (called d.top.path d.top.frame g vs)) d.below refl refl refl (rises prog d is)
rises prog _ (is_reattached d r g rest is here below free) = let (k, up, next, new, more) = subst (λ x. Rises d.base d.top x) below (rises prog d is) in more
rises prog _ (is_returned d v g rest k o is here below waits) =
    let (k, up, next, new, more) = subst (λ x. Rises d.base d.top x) below (rises prog d is) in rises_kept d.base g _ rest refl refl more

-- ---- in a machine where the base lives

module _ (s : State) (tree : Tree s) (b : Placed) (base : s.frames b.path ≡ Some b.frame) where
  none_if : (x : Path) → ((g : Frame) → s.frames x ≡ Some g → ⊥) → s.frames x ≡ None
  none_if x never = from (s.frames x) refl
    where
      from : (o : Option Frame) → s.frames x ≡ o → s.frames x ≡ None
      from None is = is
      from (Some g) is = absurd (never g is)

  -- none lives at a new path
  pub new_is_none : (x : Path) → IsNew b.path b.frame.made x → s.frames x ≡ None
  new_is_none _ (new_child k le) =
      none_if (k ∷ b.path) (λ g is.
      let (f, here, lt) = tree.has_parent k b.path g is in
      let same : f.made ≡ b.frame.made = ap (λ (y : Frame). y.made) (same_frame (s.frames b.path) f b.frame here base) in
      omega arith)
  new_is_none _ (new_below k x new) =
      none_if (k ∷ x) (λ g is.
      let (f, here, lt) = tree.has_parent k x g is in
      let none = new_is_none x new in
      cc)

  -- paths that are longer than that of the top frame are not among the frames
  pub above_top : (t : Placed) (below : List Placed) → Rises b t below → (x : Path) → length t.path < length x → with_frames (t ∷ below) s.frames x ≡ s.frames x
  above_top t [] r x lt = rw (same_path_apart t.path x (λ e. let n : length t.path ≡ length x = ap length e in omega arith))
  above_top t (g ∷ rest) (k, is, next, new, more) x lt =
      let up : length t.path ≡ suc (length g.path) = ap length is in
      rw (same_path_apart t.path x (λ e. let n : length t.path ≡ length x = ap length e in omega arith)) (above_top g rest more x (omega arith))

  -- the top frame's path is not among the frames below it, nor in the machine
  pub top_is_new : (t g : Placed) (rest : List Placed) → Rises b t (g ∷ rest) → with_frames (g ∷ rest) s.frames t.path ≡ None
  top_is_new t g rest (k, is, next, new, more) =
      let up : length t.path ≡ suc (length g.path) = ap length is in
      above_top g rest more t.path (omega arith) ∙ new_is_none t.path new

  -- no child of the top frame lives, but for the base's older ones
  pub top_has_none : (t g : Placed) (rest : List Placed) → Rises b t (g ∷ rest) → (j : ℕ) → with_frames (t ∷ g ∷ rest) s.frames (j ∷ t.path) ≡ None
  top_has_none t g rest (k, is, next, new, more) j =
      above_top t (g ∷ rest) (k, is, next, new, more) (j ∷ t.path) (omega arith) ∙ new_is_none (j ∷ t.path) (new_below j t.path new)

-- ---- what each frame waits for

-- a frame of this role lies on one that waits so
pub data IsBehind : Role → Wait → Type 0 where
  of_call : (k : ℕ) (d : Option RegisterId) → IsBehind Body (OnCall k d)
  of_detach : (r c : ℕ) → IsBehind (Child r c) Free

abbrev pub AreBehind : Placed → List Placed → Type 0
AreBehind t [] = Unit {0}
AreBehind t (g ∷ rest) = IsBehind t.frame.role g.frame.waits × AreBehind g rest

behind_kept : (t u : Placed) (below : List Placed) → u.frame.role ≡ t.frame.role → AreBehind t below → AreBehind u below
behind_kept t u [] role r = tt
behind_kept t u (g ∷ rest) role (here, more) = (subst (λ x. IsBehind x g.frame.waits) (sym role) here, more)

pub behind : (prog : Program) (d : Strand) → IsStrand prog d → AreBehind d.top d.below
behind prog _ (is_loaded p f) = tt
behind prog _ (is_filled d c v e is here fine reads unheld new) = behind prog d is
behind prog _ (is_advanced d e is here fine holds) = behind_kept d.top _ d.below refl (behind prog d is)
behind prog _ (is_past_sync d r b rs is here) = behind_kept d.top _ d.below refl (behind prog d is)
behind prog _ (is_detached d r b n is here) = (of_detach r n, behind_kept d.top (at d.top.path (continued d.top.frame n)) d.below refl (behind prog d is))
behind prog _ (is_called d o g vs is here) = (of_call d.top.frame.made o, behind_kept d.top (at d.top.path (waiting d.top.frame o)) d.below refl (behind prog d is))
behind prog _ (is_reattached d r g rest is here below free) = let (one, more) = subst (λ x. AreBehind d.top x) below (behind prog d is) in more
behind prog _ (is_returned d v g rest k o is here below waits) =
    let (one, more) = subst (λ x. AreBehind d.top x) below (behind prog d is) in behind_kept g (at g.path (resumed g.frame o v)) rest refl more

behind_child : (role : Role) (w : Wait) (r c : ℕ) → IsBehind role w → role ≡ Child r c → w ≡ Free
behind_child Body w r c h e = absurd (cc)
behind_child (Child q n) _ r c (of_detach q2 n2) e = refl

behind_body : (role : Role) (w : Wait) → IsBehind role w → role ≡ Body → (k : ℕ) × (d : Option RegisterId) × (w ≡ OnCall k d)
behind_body _ _ (of_call k d) e = (k, d, refl)
behind_body _ _ (of_detach q n) e = absurd (cc)

pub ends_match : EndsMatch
ends_match prog d g rest is below =
    let (here, more) = subst (λ x. AreBehind d.top x) below (behind prog d is) in (
      λ r act. let (n, role) = reattach_is_child prog d.top.path d.top.frame (memory_of d.footprint) r act in behind_child d.top.frame.role g.frame.waits r n here role,
      λ v act. behind_body d.top.frame.role g.frame.waits here (return_is_body prog d.top.path d.top.frame (memory_of d.footprint) v act),
    )
