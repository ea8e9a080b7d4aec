-- The objects that a program's instructions use: they are there, with the cells that the text declares.
use Rattle.std.proofs.Common.{◌≡◌, ℕ, suc, ◌+◌, ◌≤◌, true, List, [], ◌∷◌, length, map, Option, Some, None, refl, sym, ap, ◌∙◌, subst, arith, Ok}
use Rattle.std.specs.Prelude.{slice_get}
use Rattle.std.specs.Option.{option_map}
use Rattle.std.proofs.lemmas.Bool.Decides.{nat_tests}
use Rattle.std.proofs.lemmas.Option.{slice_get-map}
use Rattle.linear.specs.declared.form.RegisterId.{RegisterId}
use Rattle.semantics.specs.Frames.{parameter_cells, alloca_cells, global_cells, cells_in, cells_of}
use Rattle.program.specs.declared.function.Alloca.{Alloca}
use Rattle.program.specs.declared.function.Function.{Function}
use Rattle.program.specs.declared.function.Global.{Global}
use Rattle.program.specs.declared.function.Parameter.{Parameter}
use Rattle.program.specs.declared.function.Parameter.TheVariants as kind
use Rattle.program.specs.declared.function.Program.{Program}
use Rattle.program.specs.declared.identifier.ObjectName.{ObjectName}
use Rattle.program.specs.declared.identifier.ObjectName.TheVariants as object
use Rattle.program.specs.declared.instruction.Address.{Address}
use Rattle.program.specs.declared.instruction.Address.TheVariants as address
use Rattle.program.specs.declared.instruction.Argument.{Argument}
use Rattle.program.specs.declared.instruction.Argument.TheVariants as argument
use Rattle.syntax.specs.declared.instruction.Address.{Address as AddressText}
use Rattle.syntax.specs.declared.instruction.Address.TheVariants as text
use Rattle.syntax.specs.declared.instruction.Argument.{Argument as ArgumentText}
use Rattle.syntax.specs.declared.instruction.Argument.TheVariants as passed
use Rattle.syntax.specs.declared.module.Function.{Function as FunctionText}
use Rattle.syntax.specs.declared.module.Global.{Global as GlobalText}
use Rattle.syntax.specs.declared.module.Module.{Module}
use Rattle.syntax.specs.declared.module.Parameter.{Parameter as ParameterText}
use Rattle.syntax.specs.declared.operator.Width.TheVariants.{Bits64}
use Rattle.types.specs.declared.names.address.WholeObject.{WholeObject}
use Rattle.types.specs.declared.names.item.Item.{Item}
use Rattle.types.specs.declared.names.item.Item.TheVariants as item
use Rattle.types.specs.declared.names.scope.Holding.{Holding}
use Rattle.types.specs.declared.names.scope.Holding.TheVariants as holding
use Rattle.types.specs.declared.names.scope.Named.TheVariants as named
use Rattle.types.specs.declared.names.scope.Register.{Register}
use Rattle.types.specs.names.Address.{Items, as_global, as_object, object_of, as_address, address_of}
use Rattle.types.specs.names.Fault.{breaks, unless_of}
use Rattle.types.specs.names.Item.{with_globals, with_functions, items_of}
use Rattle.types.specs.names.Layout.{layout_of}
use Rattle.types.specs.names.Operand.{register_of, operand_of}
use Rattle.types.specs.names.Scope.{Scope, is_step_of}
use Rattle.types.specs.names.Table.{look_up, with_name}
use Rattle.types.proofs.names.Inversion.{made_ok, then_ok, both_ok, same_ok, unless_ok, err_not_ok}
use Rattle.types.specs.Call.{parameter_of, expected, takes_number, fits_extent, argument_of}
use Rattle.types.specs.Meaning.{Means, global_of}
use Rattle.types.proofs.Scopes.{Entries, entries_with, register_found}
use Rattle.laws_schedule.proofs.typing.Parts.{FunctionFrom}
use Rattle.laws_schedule.proofs.typing.Scoping.{IsOwnObject, IsElementStep, HoldsRight, IsRegisterRight, IsNamedRight, named_found, layout_right}

-- ---- globals

abbrev IsGlobalRight : List GlobalText → List ℕ → Item → Type 0
IsGlobalRight globals name (item.Global id cells) = (one : GlobalText) × (slice_get globals id.0 ≡ Some one) × (one.cells ≡ cells)
IsGlobalRight globals name (item.Function id) = Unit {0}

module _ (globals : List GlobalText) where
  with_globals_right : (list : List GlobalText) (place : ℕ) (items : Items) → ((i : ℕ) (one : GlobalText) → slice_get list i ≡ Some one → slice_get globals (place + i) ≡ Some one) → Entries (IsGlobalRight globals) items → Entries (IsGlobalRight globals) (with_globals place items list)
  with_globals_right [] place items rest h = h
  with_globals_right (one ∷ list) place items rest h =
      let here : slice_get globals place ≡ Some one = ap (λ k. slice_get globals k) (omega arith) ∙ rest 0 one refl in
      with_globals_right list (place + 1) (with_name items one.name (item.Global (record { 0 = place }) one.cells)) (λ i other e. ap (λ k. slice_get globals k) (omega arith) ∙ rest (suc i) other e)
      (entries_with (IsGlobalRight globals) items one.name (item.Global (record { 0 = place }) one.cells) h (one, here, refl))

  with_functions_right : (list : List FunctionText) (place : ℕ) (items : Items) → Entries (IsGlobalRight globals) items → Entries (IsGlobalRight globals) (with_functions place items list)
  with_functions_right [] place items h = h
  with_functions_right (one ∷ list) place items h =
      with_functions_right list (place + 1) (with_name items one.name (item.Function (record { 0 = place }))) (entries_with (IsGlobalRight globals) items one.name (item.Function (record { 0 = place })) h tt)

items_right : (whole : Module) → Entries (IsGlobalRight whole.globals) (items_of whole)
items_right whole = with_functions_right whole.globals whole.functions 0 (with_globals 0 [] whole.globals) (with_globals_right whole.globals whole.globals 0 [] (λ i one e. ap (λ k. slice_get whole.globals k) (omega arith) ∙ e) tt)

-- ---- what a pointer of the text stands for

module _ (whole : Module) (function : FunctionText) where
  abbrev scope : Scope
  scope = (layout_of function).scope

  -- a global, or an object of the function, with so many cells
  abbrev pub IsObject : ObjectName → ℕ → Type 0
  IsObject (object.Global id) cells = (one : GlobalText) × (slice_get whole.globals id.0 ≡ Some one) × (one.cells ≡ cells)
  IsObject (object.Alloca id) cells = IsOwnObject function.parameters (layout_of function).allocas (object.Alloca id) cells
  IsObject (object.Parameter id) cells = IsOwnObject function.parameters (layout_of function).allocas (object.Parameter id) cells

  own_is : (name : ObjectName) (cells : ℕ) → IsOwnObject function.parameters (layout_of function).allocas name cells → IsObject name cells
  own_is (object.Global id) cells h = absurd h
  own_is (object.Alloca id) cells h = h
  own_is (object.Parameter id) cells h = h

  register_right : (line : ℕ) (name : List ℕ) (register : Register) → register_of scope line name ≡ Ok register → IsRegisterRight function (length (layout_of function).registers) (layout_of function).allocas name register
  register_right line name register e =
      named_found (IsNamedRight function (length (layout_of function).registers) (layout_of function).allocas) scope name (named.Register register) (layout_right function).entries (register_found scope line name register e)

  global_is : (line : ℕ) (name : List ℕ) (found : WholeObject) → as_global line (look_up (items_of whole) name) ≡ Ok found → IsObject found.name found.cells
  global_is line name found e = from (look_up (items_of whole) name) refl e
    where
      from : (o : Option Item) → look_up (items_of whole) name ≡ o → as_global line o ≡ Ok found → IsObject found.name found.cells
      from None is k = absurd (err_not_ok _ found k)
      from (Some (item.Global id cells)) is k =
          let P : WholeObject → Type 0 = λ x. IsObject x.name x.cells in
          subst P (same_ok _ found k) (named_found (IsGlobalRight whole.globals) (items_of whole) name (item.Global id cells) (items_right whole) is)
      from (Some (item.Function id)) is k = absurd (err_not_ok _ found k)

  held_is : (line : ℕ) (name : List ℕ) (register : Register) (found : WholeObject) → register_of scope line name ≡ Ok register → as_object line register.holding ≡ Ok found → IsObject found.name found.cells
  held_is line name register found e h = from register.holding refl h
    where
      from : (held : Holding) → register.holding ≡ held → as_object line held ≡ Ok found → IsObject found.name found.cells
      from (holding.Object o cells) is k =
          let Q : Holding → Type 0 = λ x. HoldsRight function (layout_of function).allocas name register.origin x in
          let P : WholeObject → Type 0 = λ x. IsObject x.name x.cells in
          subst P (same_ok _ found k) (own_is o cells (subst Q is (register_right line name register e).holds))
      from holding.Element is k = absurd (err_not_ok _ found k)
      from (holding.Number width) is k = absurd (err_not_ok _ found k)
      from holding.Truth is k = absurd (err_not_ok _ found k)
      from holding.Region is k = absurd (err_not_ok _ found k)

  pub object_is : (line : ℕ) (written : AddressText) (found : WholeObject) → object_of (items_of whole) scope line written ≡ Ok found → IsObject found.name found.cells
  object_is line (text.Global name) found e = global_is line name found e
  object_is line (text.Register name) found e =
      let part = then_ok _ (register_of scope line name) found e in
      held_is line name part.0 found part.1 part.2

  -- the register of an element: a `getelementptr` of the block defines its name
  pub record IsElementOf (block : ℕ) (r : RegisterId) : Type 0 where
    pub name : List ℕ
    pub register : Register
    pub found : look_up (layout_of function).scope name ≡ Some (named.Register register)
    pub same : register.id ≡ r
    pub step : IsElementStep function.blocks name register.origin
    pub here : is_step_of block register.origin ≡ true

  abbrev pub IsAddress : ℕ → Address → Type 0
  IsAddress block (address.First name) = (cells : ℕ) × IsObject name cells
  IsAddress block (address.Element r) = IsElementOf block r

  held_address : (block line : ℕ) (name : List ℕ) (register : Register) (at : Address) → register_of scope line name ≡ Ok register → as_address block line register register.holding ≡ Ok at → IsAddress block at
  held_address block line name register at e h = from register.holding refl h
    where
      from : (held : Holding) → register.holding ≡ held → as_address block line register held ≡ Ok at → IsAddress block at
      from (holding.Object o cells) is k =
          let Q : Holding → Type 0 = λ x. HoldsRight function (layout_of function).allocas name register.origin x in
          let P : Address → Type 0 = λ x. IsAddress block x in
          subst P (same_ok (address.First o) at k) (cells, own_is o cells (subst Q is (register_right line name register e).holds))
      from holding.Element is k =
          let Q : Holding → Type 0 = λ x. HoldsRight function (layout_of function).allocas name register.origin x in
          let P : Address → Type 0 = λ x. IsAddress block x in
          let made = made_ok (λ (u : Unit {0}). address.Element register.id) (unless_of (is_step_of block register.origin) (breaks 204 line)) at k in
          subst P made.2 (record {
            name = name;
            register = register;
            found = register_found scope line name register e;
            same = refl;
            step = subst Q is (register_right line name register e).holds;
            here = unless_ok (is_step_of block register.origin) (breaks 204 line) made.0 made.1;
          })
      from (holding.Number width) is k = absurd (err_not_ok _ at k)
      from holding.Truth is k = absurd (err_not_ok _ at k)
      from holding.Region is k = absurd (err_not_ok _ at k)

  pub address_is : (block line : ℕ) (written : AddressText) (at : Address) → address_of (items_of whole) scope block line written ≡ Ok at → IsAddress block at
  address_is block line (text.Global name) at e =
      let made = made_ok (λ (found : WholeObject). address.First found.name) (as_global line (look_up (items_of whole) name)) at e in
      let P : Address → Type 0 = λ x. IsAddress block x in
      subst P made.2 (made.0.cells, global_is line name made.0 made.1)
  address_is block line (text.Register name) at e =
      let part = then_ok _ (register_of scope line name) at e in
      held_address block line name part.0 at part.1 part.2

  -- ---- arguments

  fits_cells : (o : Option Parameter) (cells : ℕ) → fits_extent cells o ≡ true → parameter_cells o ≤ cells
  fits_cells None cells h = omega arith
  fits_cells (Some kind.Number) cells h = omega arith
  fits_cells (Some (kind.Pointer extent)) cells h = grind (arith, nat_tests)

  -- an object that is passed, with cells enough for its parameter
  abbrev pub IsArgument : Option Parameter → Argument → Type 0
  IsArgument wanted (argument.Number value) = Unit {0}
  IsArgument wanted (argument.Object name) = (cells : ℕ) × IsObject name cells × (parameter_cells wanted ≤ cells)

  pub argument_is : (line : ℕ) (wanted : Option Parameter) (written : ArgumentText) (given : Argument) → argument_of (items_of whole) scope line wanted written ≡ Ok given → IsArgument wanted given
  argument_is line wanted (passed.Number value) given e =
      let part = then_ok _ (operand_of scope line Bits64 value) given e in
      let made = made_ok (λ (u : Unit {0}). argument.Number part.0) (unless_of (takes_number wanted) (breaks 202 line)) given part.2 in
      let P : Argument → Type 0 = λ x. IsArgument wanted x in
      subst P made.2 tt
  argument_is line wanted (passed.Pointer written) given e =
      let part = then_ok _ _ given e in
      let object = (both_ok _ _ part.0 part.1).0 in
      let made = made_ok (λ (u : Unit {0}). argument.Object part.0.0.name) (unless_of (fits_extent part.0.0.cells wanted) (breaks 204 line)) given part.2 in
      let P : Argument → Type 0 = λ x. IsArgument wanted x in
      subst P made.2 (part.0.0.cells, object_is line written part.0.0 object, fits_cells wanted part.0.0.cells (unless_ok _ _ made.0 made.1))

-- ---- of a program

module _ (whole : Module) (program : Program) (m : Means whole (Ok program)) where
  globals_are : program.globals ≡ map global_of whole.globals
  globals_are = let made = made_ok _ _ program m.2 in sym (ap (λ (p : Program). p.globals) made.2)

  module _ (f : ℕ) (function : Function) (at : slice_get program.functions f ≡ Some function) (outer : FunctionFrom whole m.0 f function) where
    -- an object has as many cells as its name declares
    pub cells_are : (name : ObjectName) (cells : ℕ) → IsObject whole outer.text name cells → cells_of program f name ≡ cells
    cells_are (object.Global id) cells (one, is, same) =
        ap (λ (l : List Global). global_cells (slice_get l id.0)) globals_are ∙ ap global_cells (slice_get-map global_of whole.globals id.0) ∙ ap (λ (o : Option GlobalText). global_cells (option_map global_of o)) is ∙ same
    cells_are (object.Alloca id) cells (one, is, same) =
        ap (λ (o : Option Function). cells_in program o (object.Alloca id)) at ∙ ap (λ (l : List Alloca). alloca_cells (slice_get l id.0)) (sym outer.is.allocas_are) ∙ ap alloca_cells is ∙ same
    cells_are (object.Parameter id) cells (name, is) =
        ap (λ (o : Option Function). cells_in program o (object.Parameter id)) at ∙ ap (λ (l : List Parameter). parameter_cells (slice_get l id.0)) (sym outer.is.parameters_are)
        ∙ ap parameter_cells (slice_get-map parameter_of outer.text.parameters id.0) ∙ ap (λ (o : Option ParameterText). parameter_cells (option_map parameter_of o)) is

    pub parameter_wanted : (k : ℕ) → cells_of program f (object.Parameter (record { 0 = k })) ≡ parameter_cells (expected outer.text.parameters k)
    parameter_wanted k =
        ap (λ (o : Option Function). cells_in program o (object.Parameter (record { 0 = k }))) at ∙ ap (λ (l : List Parameter). parameter_cells (slice_get l k)) (sym outer.is.parameters_are)
        ∙ ap parameter_cells (slice_get-map parameter_of outer.text.parameters k)
