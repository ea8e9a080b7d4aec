-- Objects below a frame: what a frame names is no alloca of a child of it, and two children own different ones.
use Rattle.std.proofs.Common.{◌≡◌, ◌∙◌, ℕ, suc, ◌<◌, ◌≤◌, List, [], ◌∷◌, length, Some, cond, eqb, refl, sym, subst, arith}
use Rattle.std.proofs.lemmas.Bool.{eq-eqb, ne_eqb}
use Rattle.semantics.specs.Paths.{Path}
use Rattle.semantics.specs.Below.{Under, itself, deeper}
use Rattle.semantics.specs.Cells.{Object, Shared, Local, Cell}
use Rattle.semantics.specs.Frames.{Pointer, Frame, object_at}
use Rattle.laws_conditions.specs.theorem.Conditions.{OwnedBelow}
use Rattle.program.specs.declared.function.Function.{Function}
use Rattle.program.specs.declared.identifier.ObjectName.{ObjectName}
use Rattle.program.specs.declared.identifier.ObjectName.TheVariants.{Global, Alloca, Parameter}
use Rattle.types.specs.Apart.{parameters_at}
use Rattle.laws_schedule.specs.pointers.Given.{KnowsGiven}
use Rattle.laws_schedule.proofs.pointers.Given.{of_parameter}

length_under : (x y : Path) → Under x y → length x ≤ length y
length_under x y itself = omega arith
length_under x y (deeper j {y = z} w) = let h = length_under x z w in omega (arith, h)

pub under_up : (k : ℕ) (x y : Path) → Under (k ∷ x) y → Under x y
under_up k x y itself = deeper k itself
under_up k x y (deeper j {y = z} w) = deeper j (under_up k x z w)

pub owned_up : (k : ℕ) (p : Path) (o : Object) → OwnedBelow (k ∷ p) o → OwnedBelow p o
owned_up k p (Shared g) h = h
owned_up k p (Local owner n) h = under_up k p owner h

-- the number of a path behind so many others
abbrev number_behind : ℕ → Path → ℕ
number_behind n [] = 0
number_behind n (x ∷ xs) = cond (eqb (length xs) n) x (number_behind n xs)

child_number : (k : ℕ) (p y : Path) → Under (k ∷ p) y → number_behind (length p) y ≡ k
child_number k p y itself = rw (eq-eqb (length p) (length p) refl) refl
child_number k p y (deeper j {y = z} w) =
    let long : length (k ∷ p) ≤ length z = length_under (k ∷ p) z w in
    rw (ne_eqb (length z) (length p) (λ e. absurd (omega (arith, long, e)))) (child_number k p z w)

pub same_child : (k j : ℕ) (p : Path) (o : Object) → OwnedBelow (k ∷ p) o → OwnedBelow (j ∷ p) o → k ≡ j
same_child k j p (Shared g) h i = absurd h
same_child k j p (Local owner n) h i = sym (child_number k p owner h) ∙ child_number j p owner i

-- a name that stands for no object of a child: parameters are the frame's own
abbrev pub IsOwnName : List Function → ℕ → ObjectName → Type 0
IsOwnName functions f (Global g) = Unit {0}
IsOwnName functions f (Alloca a) = Unit {0}
IsOwnName functions f (Parameter r) = r.0 < parameters_at functions f

module _ (functions : List Function) (p : Path) (f : Frame) (known : KnowsGiven functions p f) where
  short : (k : ℕ) (owner : Path) → length owner ≤ length p → Under (k ∷ p) owner → ⊥
  short k owner h u = let l : suc (length p) ≤ length owner = length_under (k ∷ p) owner u in omega (arith, h, l)

  from_given : (k : ℕ) (r : ℕ) (c : Cell) → r < parameters_at functions f.function → f.registers r ≡ Some (Pointer c) → (o : Object) → c.object ≡ o → OwnedBelow (k ∷ p) o → ⊥
  from_given k r c within holds (Shared g) is h = h
  from_given k r c within holds (Local owner n) is h =
      let l : length owner < length f.home = known.foreign r c owner n (record { within = within; holds = holds }) is in
      let m : length f.home ≤ length p = known.at_home in
      short k owner (omega (arith, l, m)) h

  pub not_below : (name : ObjectName) (o : Object) → IsOwnName functions f.function name → object_at f name ≡ Some o → (k : ℕ) → OwnedBelow (k ∷ p) o → ⊥
  not_below (Global g) o own at k h = let same : Shared g.0 ≡ o = cc in subst (OwnedBelow (k ∷ p)) (sym same) h
  not_below (Alloca a) o own at k h =
      let same : Local f.home a.0 ≡ o = cc in
      let m : length f.home ≤ length p = known.at_home in
      let u : OwnedBelow (k ∷ p) (Local f.home a.0) = subst (OwnedBelow (k ∷ p)) (sym same) h in
      short k f.home m u
  not_below (Parameter r) o own at k h =
      let given = of_parameter f r.0 o (f.registers r.0) refl at in
      from_given k r.0 given.0 own given.1 o given.2 h
