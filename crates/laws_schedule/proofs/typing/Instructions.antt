-- What an instruction of a program says of its text: the name that it defines, the objects that it uses, the call that it makes.
use Rattle.std.proofs.Common.{◌≡◌, ℕ, ◌≤◌, List, [], length, Option, Some, None, Bool, true, is_some, not, refl, sym, ap, ◌∙◌, subst, arith, Result, Ok, Err, nat_eq, nat_le}
use Rattle.std.specs.Prelude.{slice_get}
use Rattle.std.proofs.lemmas.Bool.Decides.{nat_tests}
use Rattle.linear.specs.declared.form.RegisterId.{RegisterId}
use Rattle.program.specs.declared.identifier.AllocaId.{AllocaId}
use Rattle.program.specs.declared.identifier.FunctionId.{FunctionId}
use Rattle.program.specs.declared.instruction.Address.{Address}
use Rattle.program.specs.declared.instruction.Argument.{Argument}
use Rattle.program.specs.declared.instruction.Instruction.{Instruction}
use Rattle.program.specs.declared.instruction.Instruction.TheVariants as instruction
use Rattle.program.specs.declared.instruction.Phi.{Phi}
use Rattle.syntax.specs.declared.instruction.Address.{Address as AddressText}
use Rattle.syntax.specs.declared.instruction.Argument.{Argument as ArgumentText}
use Rattle.syntax.specs.declared.instruction.Instruction.{Instruction as InstructionText}
use Rattle.syntax.specs.declared.instruction.Instruction.TheVariants as text
use Rattle.syntax.specs.declared.instruction.Phi.{Phi as PhiText}
use Rattle.syntax.specs.declared.module.Function.{Function as FunctionText}
use Rattle.types.specs.declared.names.address.WholeObject.{WholeObject}
use Rattle.refusal.specs.declared.broken.Broken.{Broken as TypeFault}
use Rattle.types.specs.declared.names.scope.Named.TheVariants as named_as
use Rattle.types.specs.declared.names.scope.Register.{Register}
use Rattle.types.specs.names.Address.{Items, address_of, object_of}
use Rattle.types.specs.names.Fault.{both_of, breaks, made_of, unless_of}
use Rattle.types.specs.names.Operand.{register_of}
use Rattle.types.specs.names.Scope.{Scope}
use Rattle.types.specs.names.Table.{look_up}
use Rattle.types.proofs.names.Inversion.{made_ok, then_ok, both_ok, unless_ok, same_ok, err_not_ok}
use Rattle.types.specs.Call.{Named, fits_result, arguments_of, fitting_arguments, are_distinct, is_any_named, passed_call, found_call, called, as_function}
use Rattle.types.specs.Definitions.{defined_name}
use Rattle.types.specs.Instruction.{defined_of, phi_of, alloca_id_of, call_register_of, instruction_of}
use Rattle.types.proofs.Scopes.{register_found}
use Rattle.laws_conditions.specs.rules.Moves.{dest_of}

le_of : (a b : ℕ) → nat_le a b ≡ true → a ≤ b
le_of a b h = grind (arith, nat_tests)

eq_of : (a b : ℕ) → nat_eq a b ≡ true → a ≡ b
eq_of a b h = grind (arith, nat_tests)

read : {A B : Type 0} {x y : A} → x ≡ y → (f : A → B) → f x ≡ f y
read e f = ap f e

-- ---- names

module _ (scope : Scope) where
  -- the name stands for the register of this number
  pub record Defines (name : List ℕ) (r : ℕ) : Type 0 where
    pub register : Register
    pub found : look_up scope name ≡ Some (named_as.Register register)
    pub same : register.id.0 ≡ r

  pub defines : (line : ℕ) (name : List ℕ) (id : RegisterId) → defined_of scope line name ≡ Ok id → Defines name id.0
  defines line name id e =
      let made = made_ok (λ (register : Register). register.id) (register_of scope line name) id e in
      record { register = made.0; found = register_found scope line name made.0 made.1; same = ap (λ (x : RegisterId). x.0) made.2 }

  pub phi_defines : (written : PhiText) (phi : Phi) → phi_of scope written ≡ Ok phi → Defines written.register phi.register.0
  phi_defines written phi e =
      let made = made_ok _ _ phi e in
      let P : Phi → Type 0 = λ x. Defines written.register x.register.0 in
      subst P made.2 (defines written.line written.register made.0.0 (both_ok _ _ made.0 made.1).0)

  -- a name that the text defines stands for the register
  pub record DefinedBy (written : InstructionText) (r : ℕ) : Type 0 where
    pub name : List ℕ
    pub is : defined_name written ≡ Some name
    pub meant : Defines name r

  abbrev DefinesAsText : InstructionText → Instruction → Type 0
  DefinesAsText written meant = (r : ℕ) → dest_of meant ≡ Some r → DefinedBy written r

  by_name : (written : InstructionText) (line : ℕ) (name : List ℕ) (id : RegisterId) → defined_name written ≡ Some name → defined_of scope line name ≡ Ok id → (r : ℕ) → Some id.0 ≡ Some r → DefinedBy written r
  by_name written line name id is e r same =
      let s : id.0 ≡ r = cc in
      let P : ℕ → Type 0 = λ k. Defines name k in
      record { name = name; is = is; meant = subst P s (defines line name id e) }

  by_call : (written : InstructionText) (line : ℕ) (register : Option (List ℕ)) (d : Option RegisterId) (g : FunctionId) (arguments : List Argument) → defined_name written ≡ register → call_register_of scope line register ≡ Ok d → DefinesAsText written (instruction.Call d g arguments)
  by_call written line None d g arguments is e r same =
      let none : Option RegisterId = None in
      let s : none ≡ d = same_ok none d e in
      let P : Option RegisterId → Type 0 = λ x. dest_of (instruction.Call x g arguments) ≡ Some r in
      let nothing : None ≡ Some r = subst P (sym s) same in
      absurd (cc)
  by_call written line (Some name) d g arguments is e r same =
      let made = made_ok (λ (x : RegisterId). Some x) (defined_of scope line name) d e in
      let P : Option RegisterId → Type 0 = λ x. dest_of (instruction.Call x g arguments) ≡ Some r in
      by_name written line name made.0 is made.1 r (subst P (sym made.2) same)

-- ---- uses

module _ (items : Items) (scope : Scope) where
  -- a pointer stands for the whole object
  pub record ObjectOf (found : WholeObject) : Type 0 where
    pub line : ℕ
    pub written : AddressText
    pub is : object_of items scope line written ≡ Ok found

  -- a pointer stands for the cell
  pub record AddressOf (block : ℕ) (at : Address) : Type 0 where
    pub line : ℕ
    pub written : AddressText
    pub is : address_of items scope block line written ≡ Ok at

-- ---- calls

module _ (items : Items) (functions : List FunctionText) (scope : Scope) where
  -- the arguments fit the callee's parameters
  pub record Fitting (caller line : ℕ) (has_result : Bool) (texts : List ArgumentText) (g : FunctionId) (arguments : List Argument) : Type 0 where
    pub callee : FunctionText
    pub at_callee : slice_get functions g.0 ≡ Some callee
    pub arguments_are : arguments_of items scope line callee.parameters texts ≡ Ok arguments
    pub result_fits : fits_result has_result callee.result_type ≡ true
    pub count : length texts ≡ length callee.parameters
    pub upward : g.0 ≤ caller

  pub record CallOf (caller : ℕ) (d : Option RegisterId) (g : FunctionId) (arguments : List Argument) : Type 0 where
    pub line : ℕ
    pub register : Option (List ℕ)
    pub texts : List ArgumentText
    pub register_is : call_register_of scope line register ≡ Ok d
    pub fitting : Fitting caller line (is_some register) texts g arguments

  module _ (named : Named) where
    passed_fits : (caller line : ℕ) (has_result : Bool) (texts : List ArgumentText) (id g : FunctionId) (callee : FunctionText) (given arguments : List Argument) → slice_get functions id.0 ≡ Some callee →
        fitting_arguments items scope line has_result callee texts ≡ Ok given → passed_call named caller line id given ≡ Ok (record { callee = g; arguments = arguments }) → Fitting caller line has_result texts g arguments
    passed_fits caller line has_result texts id g callee given arguments at fits e =
        let first = then_ok _ (unless_of (are_distinct given) (breaks 204 line)) _ e in
        let second = then_ok _ (unless_of (not (is_any_named (slice_get named id.0) given)) (breaks 204 line)) _ first.2 in
        let third = made_ok _ (unless_of (nat_le id.0 caller) (breaks 205 line)) _ second.2 in
        let made = made_ok _ _ given fits in
        let parts = both_ok _ _ made.0 made.1 in
        let tests = both_ok _ _ made.0.1 parts.1 in
        let same : id ≡ g = read third.2 (λ c. c.callee) in
        let all : given ≡ arguments = read third.2 (λ c. c.arguments) in
        let P : FunctionId → Type 0 = λ k. Fitting caller line has_result texts k arguments in
        subst P same (record {
          callee = callee;
          at_callee = at;
          arguments_are = parts.0 ∙ ap (λ (l : List Argument). Ok l) (made.2 ∙ all);
          result_fits = unless_ok _ _ made.0.1.0 tests.0;
          count = eq_of _ _ (unless_ok _ _ made.0.1.1 tests.1);
          upward = le_of id.0 caller (unless_ok _ _ third.0 third.1);
        })

    found_fits : (caller line : ℕ) (has_result : Bool) (id g : FunctionId) (callee : Option FunctionText) (texts : List ArgumentText) (arguments : List Argument) → slice_get functions id.0 ≡ callee →
        found_call items named scope caller line has_result id callee texts ≡ Ok (record { callee = g; arguments = arguments }) → Fitting caller line has_result texts g arguments
    found_fits caller line has_result id g None texts arguments at e = absurd (err_not_ok _ _ e)
    found_fits caller line has_result id g (Some callee) texts arguments at e =
        let part = then_ok (passed_call named caller line id) (fitting_arguments items scope line has_result callee texts) _ e in
        passed_fits caller line has_result texts id g callee part.0 arguments at part.1 part.2

    called_fits : (caller line : ℕ) (has_result : Bool) (found : Result FunctionId TypeFault) (texts : List ArgumentText) (g : FunctionId) (arguments : List Argument) →
        called items functions named scope caller line has_result found texts ≡ Ok (record { callee = g; arguments = arguments }) → Fitting caller line has_result texts g arguments
    called_fits caller line has_result (Ok id) texts g arguments e = found_fits caller line has_result id g (slice_get functions id.0) texts arguments refl e
    called_fits caller line has_result (Err fault) texts g arguments e =
        let refused : Result (Unit {0}) TypeFault = Err fault in
        let part = then_ok _ (both_of (arguments_of items scope line [] texts) refused) _ e in
        absurd (err_not_ok fault _ part.2)

    -- ---- all of it

    abbrev pub Uses : ℕ → ℕ → Instruction → Type 0
    Uses f b (instruction.Binary register operator width left right) = Unit {0}
    Uses f b (instruction.Compare register predicate width left right) = Unit {0}
    Uses f b (instruction.Convert register conversion value) = Unit {0}
    Uses f b (instruction.Alloca register alloca) = Unit {0}
    Uses f b (instruction.ElementPointer register base index) = (found : WholeObject) × ObjectOf items scope found × (found.name ≡ base)
    Uses f b (instruction.Load register at) = AddressOf items scope b at
    Uses f b (instruction.Store value at) = AddressOf items scope b at
    Uses f b (instruction.StoreZeros cells base) = (found : WholeObject) × ObjectOf items scope found × (found.name ≡ base) × (found.cells ≡ cells)
    Uses f b (instruction.AtomicAdd at value) = AddressOf items scope b at
    Uses f b (instruction.Call register callee arguments) = CallOf f register callee arguments
    Uses f b (instruction.StartRegion register) = Unit {0}

    pub record Meant (f b : ℕ) (written : InstructionText) (meant : Instruction) : Type 0 where
      pub defined : DefinesAsText scope written meant
      pub uses : Uses f b meant

    never : (written : InstructionText) (r : ℕ) → None ≡ Some r → DefinedBy scope written r
    never written r e = absurd (cc)

    pub is_meant : (f b line : ℕ) (written : InstructionText) (meant : Instruction) → instruction_of items functions named scope (record { function = f; block = b; line = line }) written ≡ Ok meant → Meant f b written meant
    is_meant f b line (text.Binary register operator width left right) meant e =
        let P : Instruction → Type 0 = λ x. Meant f b (text.Binary register operator width left right) x in
        let made = made_ok _ _ meant e in
        subst P made.2 (record { defined = by_name scope (text.Binary register operator width left right) line register made.0.0 refl (both_ok _ _ made.0 made.1).0; uses = tt })
    is_meant f b line (text.Compare register predicate width left right) meant e =
        let P : Instruction → Type 0 = λ x. Meant f b (text.Compare register predicate width left right) x in
        let made = made_ok _ _ meant e in
        subst P made.2 (record { defined = by_name scope (text.Compare register predicate width left right) line register made.0.0 refl (both_ok _ _ made.0 made.1).0; uses = tt })
    is_meant f b line (text.Convert register conversion value) meant e =
        let P : Instruction → Type 0 = λ x. Meant f b (text.Convert register conversion value) x in
        let made = made_ok _ _ meant e in
        subst P made.2 (record { defined = by_name scope (text.Convert register conversion value) line register made.0.0 refl (both_ok _ _ made.0 made.1).0; uses = tt })
    is_meant f b line (text.Alloca register size) meant e =
        let P : Instruction → Type 0 = λ x. Meant f b (text.Alloca register size) x in
        let entry : Result (Unit {0}) TypeFault = unless_of (nat_eq b 0) (breaks 204 line) in
        let part = then_ok (λ (p : RegisterId × AllocaId). made_of (λ (u : Unit {0}). instruction.Alloca p.0 p.1) entry)
        (both_of (defined_of scope line register) (alloca_id_of scope line register)) meant e in
        subst P (made_ok (λ (u : Unit {0}). instruction.Alloca part.0.0 part.0.1) entry meant part.2).2
        (record { defined = by_name scope (text.Alloca register size) line register part.0.0 refl (both_ok _ _ part.0 part.1).0; uses = tt })
    is_meant f b line (text.ElementPointer register base index) meant e =
        let P : Instruction → Type 0 = λ x. Meant f b (text.ElementPointer register base index) x in
        let made = made_ok _ _ meant e in
        let parts = both_ok _ _ made.0 made.1 in
        subst P made.2 (record {
          defined = by_name scope (text.ElementPointer register base index) line register made.0.0 refl parts.0;
          uses = (made.0.1.0, record { line = line; written = base; is = (both_ok _ _ made.0.1 parts.1).0 }, refl);
        })
    is_meant f b line (text.Load register at) meant e =
        let P : Instruction → Type 0 = λ x. Meant f b (text.Load register at) x in
        let made = made_ok _ _ meant e in
        let parts = both_ok _ _ made.0 made.1 in
        subst P made.2 (record {
          defined = by_name scope (text.Load register at) line register made.0.0 refl parts.0;
          uses = record { line = line; written = at; is = parts.1 };
        })
    is_meant f b line (text.Store value at) meant e =
        let P : Instruction → Type 0 = λ x. Meant f b (text.Store value at) x in
        let made = made_ok _ _ meant e in
        subst P made.2 (record { defined = never (text.Store value at); uses = record { line = line; written = at; is = (both_ok _ _ made.0 made.1).1 } })
    is_meant f b line (text.StoreZeros cells at) meant e =
        let P : Instruction → Type 0 = λ x. Meant f b (text.StoreZeros cells at) x in
        let part = then_ok (λ (found : WholeObject). made_of (λ (u : Unit {0}). instruction.StoreZeros cells found.name) (unless_of (nat_eq found.cells cells) (breaks 204 line)))
        (object_of items scope line at) meant e in
        let last = made_ok (λ (u : Unit {0}). instruction.StoreZeros cells part.0.name) (unless_of (nat_eq part.0.cells cells) (breaks 204 line)) meant part.2 in
        subst P last.2 (record {
          defined = never (text.StoreZeros cells at);
          uses = (part.0, record { line = line; written = at; is = part.1 }, refl, eq_of part.0.cells cells (unless_ok _ _ last.0 last.1));
        })
    is_meant f b line (text.AtomicAdd at value) meant e =
        let P : Instruction → Type 0 = λ x. Meant f b (text.AtomicAdd at value) x in
        let made = made_ok _ _ meant e in
        subst P made.2 (record { defined = never (text.AtomicAdd at value); uses = record { line = line; written = at; is = (both_ok _ _ made.0 made.1).0 } })
    is_meant f b line (text.Call register callee arguments) meant e =
        let P : Instruction → Type 0 = λ x. Meant f b (text.Call register callee arguments) x in
        let made = made_ok _ _ meant e in
        let parts = both_ok _ _ made.0 made.1 in
        subst P made.2 (record {
          defined = by_call scope (text.Call register callee arguments) line register made.0.0 made.0.1.callee made.0.1.arguments refl parts.0;
          uses = record {
            line = line;
            register = register;
            texts = arguments;
            register_is = parts.0;
            fitting = called_fits f line (is_some register) (as_function line (look_up items callee)) arguments made.0.1.callee made.0.1.arguments parts.1;
          };
        })
    is_meant f b line (text.StartRegion register) meant e =
        let P : Instruction → Type 0 = λ x. Meant f b (text.StartRegion register) x in
        let made = made_ok _ _ meant e in
        subst P made.2 (record { defined = by_name scope (text.StartRegion register) line register made.0 refl made.1; uses = tt })
