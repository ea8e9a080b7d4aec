-- Frames above a living frame live, and stay frames of their functions; so a frame may use what it might before.
use Rattle.std.proofs.Common.{◌≡◌, ◌∙◌, inl, inr, ℕ, ◌≤◌, ◌∷◌, Option, Some, None, sym, refl, ap, subst, arith}
use Rattle.semantics.specs.Paths.{Path}
use Rattle.semantics.specs.Below.{Under, itself, deeper}
use Rattle.semantics.specs.Cells.{Object, Shared, Local}
use Rattle.semantics.specs.Frames.{Frame, cells_of}
use Rattle.semantics.specs.State.{State, Change, apply}
use Rattle.semantics.specs.Tree.{Tree}
use Rattle.semantics.proofs.Diamond.{next_free, left_alone, same_frame}
use Rattle.semantics.proofs.Places.{only_at, both_at}
use Rattle.semantics.proofs.Steps.{Does, plain, detach, reattach, sync, call, ret, end}
use Rattle.semantics.proofs.TreeKept.{step_keeps_tree}
use Rattle.program.specs.declared.function.Program.{Program}
use Rattle.program.specs.declared.identifier.ObjectName.TheVariants as object
use Rattle.laws_schedule.specs.safe.Objects.{HasCells}
use Rattle.semantics.proofs.TaskLaws.{under_trans}

lives_up : (s : State) → Tree s → (x y : Path) (g : Frame) → Under x y → s.frames y ≡ Some g → (f : Frame) × (s.frames x ≡ Some f)
lives_up s tree x y g itself is = (g, is)
lives_up s tree x y g (deeper k {y = z} u) is = let (h, at, lt) = tree.has_parent k z g is in lives_up s tree x z h u at

-- a frame of the same function, with the same home
pub record IsSame (f g : Frame) : Type 0 where
  pub home : g.home ≡ f.home
  pub function : g.function ≡ f.function

-- each frame at x or above it lives on at y or above it
pub record StaysAbove (s t : State) (x y : Path) : Type 0 where
  pub below : Under x y
  pub lives : (z : Path) (f : Frame) → Under z x → s.frames z ≡ Some f → (g : Frame) × (t.frames z ≡ Some g) × IsSame f g

pub less_cells : (prog : Program) (s : State) (p : Path) (m n : ℕ) (o : Object) → m ≤ n → HasCells prog s p n o → HasCells prog s p m o
less_cells prog s p m n (Shared g) l h = omega (arith, l, h)
less_cells prog s p m n (Local owner a) l h = let k = h.cells in record { above = h.above; frame = h.frame; lives = h.lives; owns = h.owns; cells = omega (arith, l, k) }

pub cells_stay : (prog : Program) (s t : State) (x y : Path) → StaysAbove s t x y → (n : ℕ) (o : Object) → HasCells prog s x n o → HasCells prog t y n o
cells_stay prog s t x y stay n (Shared g) h = h
cells_stay prog s t x y stay n (Local owner a) h =
    let (g, lives, same) = stay.lives owner h.frame h.above h.lives in
    record {
      above = under_trans y h.above stay.below;
      frame = g;
      lives = lives;
      owns = same.home ∙ h.owns;
      cells = subst (λ k. n ≤ cells_of prog k (object.Alloca (record { 0 = a }))) (sym same.function) h.cells;
    }

-- ---- behind a step

module _ (prog : Program) (s : State) (tree : Tree s) (p : Path) (c : Change) (does : Does prog s p c) where
  abbrev t : State
  t = apply c s

  alike : (f g h u : Frame) (o : Option Frame) → o ≡ Some f → o ≡ Some g → Some u ≡ Some h → IsSame g h → IsSame f u
  alike f g h u o a b e same =
      let one : f ≡ g = same_frame o f g a b in
      let two : h ≡ u = cc in
      subst (λ (x : Frame). IsSame x u) (sym one) (subst (λ (x : Frame). IsSame g x) two same)

  itself_same : (f : Frame) → IsSame f f
  itself_same f = record { home = refl; function = refl }

  changed_at : (z : Path) (f u h x : Frame) (q : Path) → s.frames z ≡ Some f → s.frames q ≡ Some x → IsSame x h → (z ≡ q) × (Some u ≡ Some h) → IsSame f u
  changed_at z f u h x q is at same k = alike f x h u (s.frames z) is (ap s.frames k.0 ∙ at) k.1 same

  made_there : (z : Path) (f u x : Frame) → s.frames z ≡ Some f → s.frames p ≡ Some x → z ≡ x.made ∷ p → IsSame f u
  made_there z f u x is at k = absurd (let none : s.frames z ≡ None = ap s.frames k ∙ next_free tree p x at in cc)

  no_frame : (z : Path) (f u : Frame) (q : Path) → (z ≡ q) × (Some u ≡ None) → IsSame f u
  no_frame z f u q k = absurd (let e = k.1 in cc)

  changed_same : (c : Change) → Does prog s p c → (z : Path) (f u : Frame) → s.frames z ≡ Some f → c.frames z ≡ Some (Some u) → IsSame f u
  changed_same c (plain g e at go act) z f u is h = changed_at z f u _ g p is at (record { home = refl; function = refl }) (only_at p z _ (Some u) h)
  changed_same c (detach g r b n at go act) z f u is h = elim (both_at p (g.made ∷ p) z _ _ (Some u) h) [
    | inl k ↦ changed_at z f u _ g p is at (record { home = refl; function = refl }) k
    | inr k ↦ made_there z f u g is at k.0
  ]
  changed_same c (reattach g r n at go act none role) z f u is h = no_frame z f u p (only_at p z _ (Some u) h)
  changed_same c (sync g r b rs at go act) z f u is h = changed_at z f u _ g p is at (record { home = refl; function = refl }) (only_at p z _ (Some u) h)
  changed_same c (call g d k vs at go act) z f u is h = elim (both_at p (g.made ∷ p) z _ _ (Some u) h) [
    | inl k ↦ changed_at z f u _ g p is at (record { home = refl; function = refl }) k
    | inr k ↦ made_there z f u g is at k.0
  ]
  changed_same c (ret g v k above up j d at go act none role here over waits) z f u is h = elim (both_at p above z _ _ (Some u) h) [
    | inl k ↦ no_frame z f u p k
    | inr k ↦ changed_at z f u _ up above is over (record { home = refl; function = refl }) k
  ]
  changed_same c (end g v at go act none role here) z f u is h = no_frame z f u p (only_at p z _ (Some u) h)

  stays_same : (z : Path) (f u : Frame) → s.frames z ≡ Some f → t.frames z ≡ Some u → IsSame f u
  stays_same z f u is now = from (c.frames z) refl
    where
      from : (o : Option (Option Frame)) → c.frames z ≡ o → IsSame f u
      from None e =
          let one : f ≡ u = same_frame (s.frames z) f u is (sym (left_alone c s z e) ∙ now) in
          subst (λ (x : Frame). IsSame f x) one (itself_same f)
      from (Some None) e = absurd (let gone : t.frames z ≡ None = rw e refl in cc)
      from (Some (Some g)) e =
          let there : t.frames z ≡ Some g = rw e refl in
          let one : g ≡ u = same_frame (t.frames z) g u there now in
          subst (λ (x : Frame). IsSame f x) one (changed_same c does z f g is e)

  -- what is above a frame that lives afterwards
  pub stays_above : (x y : Path) (u : Frame) → Under x y → t.frames y ≡ Some u → StaysAbove s t x y
  stays_above x y u below now = record {
    below = below;
    lives = λ z f above is.
        let up = lives_up t (step_keeps_tree tree does) z y u (under_trans y above below) now in
        (up.0, up.1, stays_same z f up.0 is up.1);
  }
