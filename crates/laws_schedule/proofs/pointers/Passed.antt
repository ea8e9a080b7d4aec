-- What a call passes: the callee's frame knows of its pointers what its caller knows of its own.
use Rattle.std.proofs.Common.{◌≡◌, ℕ, zero, suc, ◌<◌, ◌≤◌, List, [], ◌∷◌, length, Option, Some, None, refl, sym, ap, ◌∙◌, subst, arith, ℤ}
use Rattle.std.specs.Prelude.{slice_get}
use Rattle.linear.specs.declared.form.RegisterId.{RegisterId}
use Rattle.semantics.specs.Paths.{Path}
use Rattle.semantics.specs.Cells.{Object, Shared, Local, Cell}
use Rattle.semantics.specs.Frames.{Value, Word, Pointer, Free, OnCall, Frame, and_then, word_at, object_at, first_cell}
use Rattle.semantics.specs.Effect.{argument_value, argument_values}
use Rattle.semantics.specs.State.{called}
use Rattle.program.specs.declared.function.Function.{Function}
use Rattle.program.specs.declared.function.Program.{Program}
use Rattle.program.specs.declared.identifier.FunctionId.{FunctionId}
use Rattle.program.specs.declared.identifier.GlobalId.{GlobalId}
use Rattle.program.specs.declared.identifier.ObjectName.{ObjectName}
use Rattle.program.specs.declared.identifier.ObjectName.TheVariants.{Global, Alloca, Parameter}
use Rattle.program.specs.declared.instruction.Argument.{Argument}
use Rattle.program.specs.declared.instruction.Argument.TheVariants as argument
use Rattle.program.specs.declared.instruction.Instruction.TheVariants as instruction
use Rattle.types.specs.Apart.{IsInstructionAt, in_instruction, Reaches, itself, through, NamesGlobal, IsCallApart, CallsApart}
use Rattle.laws_schedule.specs.pointers.Apart.{IsName}
use Rattle.laws_schedule.specs.pointers.Given.{IsGiven, KnowsGiven}
use Rattle.laws_schedule.proofs.pointers.Given.{of_parameter, names_apart}
use Rattle.laws_schedule.proofs.pointers.Kept.{CallIs}

-- the object whose first cell an argument passes
pub record IsPassed (f : Frame) (arguments : List Argument) (x : ℕ) (c : Cell) : Type 0 where
  pub name : ObjectName
  pub at : slice_get arguments x ≡ Some (argument.Object name)
  pub object : object_at f name ≡ Some c.object
  pub first : c.index ≡ 0

module _ (f : Frame) where
  pub record Named (a : Argument) (c : Cell) : Type 0 where
    pub name : ObjectName
    pub is : a ≡ argument.Object name
    pub object : object_at f name ≡ Some c.object
    pub first : c.index ≡ 0

  one_passed : (a : Argument) (c : Cell) → argument_value f a ≡ Some (Pointer c) → Named a c
  one_passed (argument.Number a) c e = from (word_at f.registers a) e
    where
      from : (o : Option ℤ) → and_then o (λ z. Some (Word z)) ≡ Some (Pointer c) → Named (argument.Number a) c
      from None k = absurd (cc)
      from (Some z) k = absurd (let w : Word z ≡ Pointer c = cc in cc)
  one_passed (argument.Object name) c e = from (object_at f name) refl e
    where
      from : (o : Option Object) → object_at f name ≡ o → and_then o (λ (k : Object). Some (Pointer (first_cell k))) ≡ Some (Pointer c) → Named (argument.Object name) c
      from None is k = absurd (cc)
      from (Some o) is k =
          let w : Pointer (first_cell o) ≡ Pointer c = cc in
          let same : first_cell o ≡ c = cc in
          record { name = name; is = refl; object = is ∙ ap (λ (x : Cell). Some x.object) same; first = sym (ap (λ (x : Cell). x.index) same) }

  pub record Parts (a : Argument) (more : List Argument) (values : List Value) : Type 0 where
    pub value : Value
    pub rest : List Value
    pub value_is : argument_value f a ≡ Some value
    pub rest_is : argument_values f more ≡ Some rest
    pub whole : values ≡ value ∷ rest

  parts : (a : Argument) (more : List Argument) (values : List Value) → argument_values f (a ∷ more) ≡ Some values → Parts a more values
  parts a more values e = from (argument_value f a) refl (argument_values f more) refl e
    where
      from : (o : Option Value) → argument_value f a ≡ o → (r : Option (List Value)) → argument_values f more ≡ r → and_then o (λ v. and_then r (λ vs. Some (v ∷ vs))) ≡ Some values → Parts a more values
      from None is r rest k = absurd (cc)
      from (Some v) is None rest k = absurd (cc)
      from (Some v) is (Some vs) rest k = record { value = v; rest = vs; value_is = is; rest_is = rest; whole = cc }

  pub passed : (arguments : List Argument) (values : List Value) → argument_values f arguments ≡ Some values → (x : ℕ) (c : Cell) → slice_get values x ≡ Some (Pointer c) → IsPassed f arguments x c
  passed [] values e x c at = absurd (let none : [] ≡ values = cc in let k : slice_get [] x ≡ Some (Pointer c) = ap (λ (vs : List Value). slice_get vs x) none ∙ at in cc)
  passed (a ∷ more) values e zero c at =
      let p = parts a more values e in
      let here : p.value ≡ Pointer c = (let k : slice_get (p.value ∷ p.rest) 0 ≡ Some (Pointer c) = ap (λ (vs : List Value). slice_get vs 0) (sym p.whole) ∙ at in cc) in
      let one = one_passed a c (p.value_is ∙ ap (λ (v : Value). Some v) here) in
      record { name = one.name; at = ap (λ (b : Argument). Some b) one.is; object = one.object; first = one.first }
  passed (a ∷ more) values e (suc x) c at =
      let p = parts a more values e in
      let k : slice_get p.rest x ≡ Some (Pointer c) = ap (λ (vs : List Value). slice_get vs (suc x)) (sym p.whole) ∙ at in
      let later = passed more p.rest p.rest_is x c k in
      record { name = later.name; at = later.at; object = later.object; first = later.first }

-- what the callee names, its caller names
module _ (functions : List Function) (caller b s : ℕ) (d : Option RegisterId) (callee : FunctionId) (arguments : List Argument)
    (at : IsInstructionAt functions caller b s (instruction.Call d callee arguments)) where
  reaches_more : (to : ℕ) → Reaches functions callee.0 to → Reaches functions caller to
  reaches_more to itself = through caller b s d callee arguments itself at
  reaches_more to (through other c t e next passes before call) = through other c t e next passes (reaches_more other before) call

  pub names_more : (global : GlobalId) → NamesGlobal functions callee.0 global → NamesGlobal functions caller global
  names_more global (to, reaches, named) = (to, reaches_more to reaches, named)

  pub names_argument : (i : ℕ) (global : GlobalId) → slice_get arguments i ≡ Some (argument.Object (Global global)) → NamesGlobal functions caller global
  names_argument i global e = (caller, itself, in_instruction b s (instruction.Call d callee arguments) at (i, e))

module _ (prog : Program) (apart : CallsApart prog.functions) (p : Path) (f : Frame) (known : KnowsGiven prog.functions p f) (d : Option RegisterId) (callee : ℕ) (values : List Value) (call : CallIs prog f d callee values) where
  abbrev rule : IsCallApart prog.functions f.function call.id.0 call.arguments
  rule = apart f.function f.block f.index d call.id call.arguments call.at

  -- an argument is a name of the caller
  is_name : (x : ℕ) (name : ObjectName) → slice_get call.arguments x ≡ Some (argument.Object name) → IsName prog.functions f.function name
  is_name x (Global global) e = names_argument prog.functions f.function f.block f.index d call.id call.arguments call.at x global e
  is_name x (Alloca a) e = tt
  is_name x (Parameter r) e = rule.own x r e

  abbrev child : Frame
  child = called p f callee values

  of_given : (x : ℕ) (c : Cell) → IsGiven prog.functions child x c → IsPassed f call.arguments x c
  of_given x c g = passed f call.arguments values call.values_are x c g.holds

  differ : (x y : ℕ) (c e : Cell) → IsGiven prog.functions child x c → IsGiven prog.functions child y e → c.object ≡ e.object → x ≡ y
  differ x y c e g h same =
      let a = of_given x c g in
      let b = of_given y e h in
      let one : a.name ≡ b.name = names_apart prog.functions p f known a.name b.name c.object (is_name x a.name a.at) (is_name y b.name b.at) a.object (b.object ∙ ap (λ (o : Object). Some o) (sym same)) in
      rule.distinct x y a.name a.at (b.at ∙ ap (λ (n : ObjectName). Some (argument.Object n)) (sym one))

  own_shorter : (x : ℕ) (name : ObjectName) (o : Object) (owner : Path) (n : ℕ) → slice_get call.arguments x ≡ Some (argument.Object name) → object_at f name ≡ Some o → o ≡ Local owner n → length owner < length (f.made ∷ p)
  own_shorter x (Global g) o owner n at is same = absurd (let k : Shared g.0 ≡ Local owner n = cc in cc)
  own_shorter x (Alloca a) o owner n at is same =
      let k : Local f.home a.0 ≡ Local owner n = cc in
      let e : f.home ≡ owner = cc in
      let l : length f.home ≡ length owner = ap length e in
      let h : length f.home ≤ length p = known.at_home in
      omega arith
  own_shorter x (Parameter r) o owner n at is same =
      let given = of_parameter f r.0 o (f.registers r.0) refl is in
      let l : length owner < length f.home = known.foreign r.0 given.0 owner n (record { within = rule.own x r at; holds = given.1 }) (given.2 ∙ same) in
      let h : length f.home ≤ length p = known.at_home in
      omega arith

  clear_of : (x : ℕ) (name : ObjectName) (o : Object) (global : GlobalId) → slice_get call.arguments x ≡ Some (argument.Object name) → object_at f name ≡ Some o → o ≡ Shared global.0 → NamesGlobal prog.functions call.id.0 global → ⊥
  clear_of x (Global g) o global at is same named =
      let k : Shared g.0 ≡ Shared global.0 = cc in
      let e : g.0 ≡ global.0 = cc in
      let P : ℕ → Type 0 = λ j. slice_get call.arguments x ≡ Some (argument.Object (Global (record { 0 = j }))) in
      rule.clear x global (subst P e at) named
  clear_of x (Alloca a) o global at is same named = absurd (let k : Local f.home a.0 ≡ Shared global.0 = cc in cc)
  clear_of x (Parameter r) o global at is same named =
      let given = of_parameter f r.0 o (f.registers r.0) refl is in
      known.unnamed r.0 given.0 global (record { within = rule.own x r at; holds = given.1 }) (given.2 ∙ same)
      (names_more prog.functions f.function f.block f.index d call.id call.arguments call.at global named)

  unnamed : (x : ℕ) (c : Cell) (global : GlobalId) → IsGiven prog.functions child x c → c.object ≡ Shared global.0 → NamesGlobal prog.functions callee global → ⊥
  unnamed x c global g same named =
      let a = of_given x c g in
      let P : ℕ → Type 0 = λ j. NamesGlobal prog.functions j global in
      clear_of x a.name c.object global a.at a.object same (subst P (sym call.callee_is) named)

  pub called_knows : KnowsGiven prog.functions (f.made ∷ p) child
  called_knows = record {
    first = λ x c g. (of_given x c g).first;
    differ = differ;
    foreign = λ x c owner n g same. let a = of_given x c g in own_shorter x a.name c.object owner n a.at a.object same;
    unnamed = unnamed;
    at_home = omega arith;
    awaits = λ k e wait. absurd (let w : Free ≡ OnCall k e = wait in cc);
  }
