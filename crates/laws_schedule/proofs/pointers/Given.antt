-- What is known of the pointers that a frame was given, and that its names are apart by it.
use Rattle.std.proofs.Common.{◌≡◌, ℕ, ◌<◌, List, length, Option, Some, None, refl, sym, ap, ◌∙◌, arith}
use Rattle.linear.specs.declared.form.RegisterId.{RegisterId}
use Rattle.semantics.specs.Paths.{Path}
use Rattle.semantics.specs.Cells.{Object, Shared, Local, Cell}
use Rattle.semantics.specs.Frames.{Value, Word, Truth, Pointer, Region, Frame, and_then, cell_of, object_at}
use Rattle.program.specs.declared.function.Function.{Function}
use Rattle.program.specs.declared.identifier.GlobalId.{GlobalId}
use Rattle.program.specs.declared.identifier.ObjectName.TheVariants.{Global, Alloca, Parameter}
use Rattle.types.specs.Apart.{NamesGlobal, parameters_at}
use Rattle.laws_schedule.specs.pointers.Apart.{NamesAreApart}
use Rattle.laws_schedule.specs.pointers.Given.{KnowsGiven}

-- the object that a parameter names is that of a cell that it was given
pub of_parameter : (f : Frame) (x : ℕ) (o : Object) (v : Option Value) → f.registers x ≡ v → and_then (cell_of v) (λ (c : Cell). Some c.object) ≡ Some o → (c : Cell) × (f.registers x ≡ Some (Pointer c)) × (c.object ≡ o)
of_parameter f x o None e h = absurd (cc)
of_parameter f x o (Some (Word z)) e h = absurd (cc)
of_parameter f x o (Some (Truth b)) e h = absurd (cc)
of_parameter f x o (Some (Pointer c)) e h = (c, e, cc)
of_parameter f x o (Some (Region q)) e h = absurd (cc)

module _ (functions : List Function) (p : Path) (f : Frame) (known : KnowsGiven functions p f) where
  global_is_no_parameter : (g : GlobalId) (x : RegisterId) (o : Object) → NamesGlobal functions f.function g → x.0 < parameters_at functions f.function →
      Some (Shared g.0) ≡ Some o → object_at f (Parameter x) ≡ Some o → ⊥
  global_is_no_parameter g x o named within a b =
      let given = of_parameter f x.0 o (f.registers x.0) refl b in
      let same : given.0.object ≡ Shared g.0 = given.2 ∙ (cc) in
      known.unnamed x.0 given.0 g (record { within = within; holds = given.1 }) same named

  alloca_is_no_parameter : (n : ℕ) (x : RegisterId) (o : Object) → x.0 < parameters_at functions f.function →
      Some (Local f.home n) ≡ Some o → object_at f (Parameter x) ≡ Some o → ⊥
  alloca_is_no_parameter n x o within a b =
      let given = of_parameter f x.0 o (f.registers x.0) refl b in
      let same : given.0.object ≡ Local f.home n = given.2 ∙ (cc) in
      let shorter : length f.home < length f.home = known.foreign x.0 given.0 f.home n (record { within = within; holds = given.1 }) same in
      omega arith

  pub names_apart : NamesAreApart functions f
  names_apart (Global g) (Global h) o m n a b = let e : g.0 ≡ h.0 = (let s : Shared g.0 ≡ Shared h.0 = cc in cc) in ap (λ (k : ℕ). Global (record { 0 = k })) e
  names_apart (Global g) (Alloca h) o m n a b = absurd (let s : Shared g.0 ≡ Local f.home h.0 = cc in cc)
  names_apart (Global g) (Parameter x) o m n a b = absurd (global_is_no_parameter g x o m n a b)
  names_apart (Alloca g) (Global h) o m n a b = absurd (let s : Shared h.0 ≡ Local f.home g.0 = cc in cc)
  names_apart (Alloca g) (Alloca h) o m n a b = let e : g.0 ≡ h.0 = (let s : Local f.home g.0 ≡ Local f.home h.0 = cc in cc) in ap (λ (k : ℕ). Alloca (record { 0 = k })) e
  names_apart (Alloca g) (Parameter x) o m n a b = absurd (alloca_is_no_parameter g.0 x o n a b)
  names_apart (Parameter x) (Global h) o m n a b = absurd (global_is_no_parameter h x o n m b a)
  names_apart (Parameter x) (Alloca h) o m n a b = absurd (alloca_is_no_parameter h.0 x o m b a)
  names_apart (Parameter x) (Parameter y) o m n a b =
      let given = of_parameter f x.0 o (f.registers x.0) refl a in
      let other = of_parameter f y.0 o (f.registers y.0) refl b in
      let e : x.0 ≡ y.0 = known.differ x.0 y.0 given.0 other.0 (record { within = m; holds = given.1 }) (record { within = n; holds = other.1 }) (given.2 ∙ sym other.2) in
      ap (λ (k : ℕ). Parameter (record { 0 = k })) e
