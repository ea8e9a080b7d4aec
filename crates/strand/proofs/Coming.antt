-- Frames that are still to come are none of the strand's, nor do they own a cell of its layout.
use Rattle.std.proofs.Common.{◌≡◌, ℕ, suc, ◌≤◌, List, [], ◌∷◌, length, refl, ap, sym, ◌∙◌, subst, arith, Bool, true, false, inl, inr, ◌⊎◌}
use Rattle.semantics.specs.Paths.{Path, same_path}
use Rattle.semantics.specs.Below.{Under, itself, deeper}
use Rattle.semantics.specs.Cells.{Object, Local, Cell, owns}
use Rattle.semantics.specs.Frames.{Role, Body, Child}
use Rattle.semantics.proofs.Places.{same_path_is}
use Rattle.semantics.proofs.TaskLaws.{under_trans}
use Rattle.program.specs.declared.function.Program.{Program}
use Rattle.frame_engine.specs.Shows.{IsIn, Layout}
use Rattle.serial_stack.specs.Layouts.{alloca_sizes, for_body, with_allocas}
use Rattle.serial_stack.proofs.Rows.{either_one}
use Rattle.laws_strands.specs.stacks.Strands.{Placed}
use Rattle.laws_strands.proofs.stacks.Rising.{IsNew, new_below, new_child, Rises}
use Rattle.strand.specs.Layouts.{IsToCome, OwnsNone, end_above, layout_above}

-- ---- paths

pub under_long : (x y : Path) → Under x y → length x ≤ length y
under_long x _ itself = omega arith
under_long x _ (deeper k {y = y} u) = let n = under_long x y u in omega (arith, n)

under_nil : (x y : Path) → Under x y → y ≡ [] → x ≡ []
under_nil x _ itself e = e
under_nil x _ (deeper k {y = z} u) e = absurd cc

under_split : (x y : Path) → Under x y → (k : ℕ) (z : Path) → y ≡ k ∷ z → (x ≡ k ∷ z) ⊎ Under x z
under_split x _ itself k z e = inl e
under_split x _ (deeper j {y = w} u) k z e = inr (let rest : w ≡ z = cc in subst (Under x) rest u)

-- what stands above the same frame as another of its length is the other
under_same : (x y z : Path) → Under x z → Under y z → length x ≡ length y → x ≡ y
under_same x y [] u v e = under_nil x [] u refl ∙ sym (under_nil y [] v refl)
under_same x y (k ∷ z) u v e = elim (under_split x (k ∷ z) u k z refl) [
  | inl p ↦ elim (under_split y (k ∷ z) v k z refl) [
    | inl q ↦ p ∙ sym q
    | inr q ↦ absurd (let n = under_long y z q in let m : length x ≡ suc (length z) = ap (λ (w : Path). length w) p in omega (arith, n, m, e))
  ]
  | inr p ↦ elim (under_split y (k ∷ z) v k z refl) [
    | inl q ↦ absurd (let n = under_long x z p in let m : length y ≡ suc (length z) = ap (λ (w : Path). length w) q in omega (arith, n, m, e))
    | inr q ↦ under_same x y z p q e
  ]
]

pub under_up : (k : ℕ) (x y : Path) → Under (k ∷ x) y → Under x y
under_up k x y u = under_trans y (deeper k itself) u

pub new_to_come : (b : Placed) (x : Path) → IsNew b.path b.frame.made x → IsToCome b x
new_to_come b _ (new_child k le) = record { child = k; later = le; under = itself }
new_to_come b _ (new_below k x new) = let t = new_to_come b x new in record { child = t.child; later = t.later; under = deeper k t.under }

-- ---- frames that rise from the base

-- what the top frame has still to make the base has
pub base_to_come : (b t : Placed) (below : List Placed) → Rises b t below → (x : Path) → IsToCome t x → IsToCome b x
base_to_come b t [] (is, le) x u =
    let later = u.later in
    record { child = u.child; later = omega (arith, le, later); under = subst (λ (p : Path). Under (u.child ∷ p) x) is u.under }
base_to_come b t (g ∷ rest) (k, is, next, new, more) x u =
    let v = new_to_come b t.path new in
    record { child = v.child; later = v.later; under = under_trans x v.under (under_up u.child t.path x u.under) }

-- the new frame is to come, and what it is to make is
pub child_to_come : (t : Placed) → IsToCome t (t.frame.made ∷ t.path)
child_to_come t = record { child = t.frame.made; later = omega arith; under = itself }

-- ---- none of them is the top frame's path, nor above it

-- what this frame has still to make is neither x nor above it
abbrev pub IsClear : Path → Placed → Type 0
IsClear x g = (y : Path) → IsToCome g y → Under y x → ⊥

pub clear_top : (t : Placed) → IsClear t.path t
clear_top t y u v = let a = under_long (u.child ∷ t.path) y u.under in let b = under_long y t.path v in omega (arith, a, b)

-- a frame that made the one above it, and this one no further
clear_made : (g : Placed) (k : ℕ) (x : Path) → g.frame.made ≡ suc k → Under (k ∷ g.path) x → IsClear x g
clear_made g k x next over y u v =
    let same : u.child ∷ g.path ≡ k ∷ g.path = under_same (u.child ∷ g.path) (k ∷ g.path) x (under_trans x u.under v) over refl in
    let number : u.child ≡ k = cc in
    let later = u.later in
    omega (arith, later, next, number)

abbrev pub AreClear : Path → Placed → List Placed → Type 0
AreClear x t [] = IsClear x t
AreClear x t (g ∷ rest) = IsClear x t × AreClear x g rest

clear_below : (b t : Placed) (below : List Placed) → Rises b t below → (x : Path) → Under t.path x → IsClear x t → AreClear x t below
clear_below b t [] r x over here = here
clear_below b t (g ∷ rest) (k, is, next, new, more) x over here =
    let up : Under (k ∷ g.path) x = subst (λ (p : Path). Under p x) is over in
    (here, clear_below b g rest more x (under_up k g.path x up) (clear_made g k x next up))

pub all_clear : (b t : Placed) (below : List Placed) → Rises b t below → AreClear t.path t below
all_clear b t below r = clear_below b t below r t.path itself (clear_top t)

-- ---- who owns a cell

-- an alloca of the frame at p or of one above it
pub record IsOf (p : Path) (o : Object) : Type 0 where
  pub owner : Path
  pub alloca : ℕ
  pub is : o ≡ Local owner alloca
  pub above : Under owner p

module _ (l : Layout) (prog : Program) (start : ℕ) where
  role_owner : (role : Role) (p : Path) (sizes : List ℕ) (home : ℕ) (k : Layout) (c : Cell) → (IsIn k c → IsIn l c ⊎ IsOf p c.object) → IsIn (for_body role (with_allocas p sizes home k) k) c → IsIn l c ⊎ IsOf p c.object
  role_owner Body p sizes home k c older h = elim (either_one p sizes home k c.object c.index h) [
    | inl t ↦ inr (record { owner = p; alloca = t.alloca; is = t.object; above = itself })
    | inr t ↦ older t.within
  ]
  role_owner (Child region continuation) p sizes home k c older h = older h

  -- a living object of the machine, or one of a frame above the base
  pub owner_of : (b t : Placed) (below : List Placed) → Rises b t below → (c : Cell) → IsIn (layout_above l prog start t below) c → IsIn l c ⊎ IsOf t.path c.object
  owner_of b t [] r c h = inl h
  owner_of b t (g ∷ rest) (k, is, next, new, more) c h =
      role_owner t.frame.role t.path (alloca_sizes prog t.frame.function) (end_above prog start g rest) (layout_above l prog start g rest) c
      (λ within. elim (owner_of b g rest more c within) [
        | inl q ↦ inl q
        | inr q ↦ inr (record { owner = q.owner; alloca = q.alloca; is = q.is; above = subst (Under q.owner) (sym is) (deeper k q.above) })
      ]) h

not_true : (b : Bool) → b ≡ true → b ≡ false → ⊥
not_true true e f = cc
not_true false e f = cc

-- what owns it is its owner
owner_is : (x : Path) (o : Object) (p : Path) → owns x o ≡ true → (q : IsOf p o) → x ≡ q.owner
owner_is x o p e q = let mine : same_path x q.owner ≡ true = sym (ap (owns x) q.is) ∙ e in same_path_is x q.owner mine

module _ (l : Layout) (prog : Program) (start : ℕ) (b : Placed) (fresh : (x : Path) → IsToCome b x → OwnsNone l x) where
  -- no cell of the layout is of a frame to come
  pub none_to_come : (t : Placed) (below : List Placed) → Rises b t below → (g : Placed) → IsClear t.path g → (x : Path) → IsToCome g x → IsToCome b x → (c : Cell) → owns x c.object ≡ true → IsIn (layout_above l prog start t below) c → ⊥
  none_to_come t below r g clear x u v c mine within = elim (owner_of l prog start b t below r c within) [
    | inl q ↦ not_true (owns x c.object) mine (fresh x v c q)
    | inr q ↦ clear x u (subst (λ (p : Path). Under p t.path) (sym (owner_is x c.object t.path mine q)) q.above)
  ]
