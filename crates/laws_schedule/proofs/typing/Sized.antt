-- What the rules on pointers give the laws on values: objects that are named are the function's own, and those that are passed are large enough.
use Rattle.std.proofs.Common.{◌≡◌, ℕ, ◌<◌, ◌≤◌, List, length, Option, Some, sym, ap, ◌∙◌, subst, arith, Ok}
use Rattle.std.specs.Prelude.{slice_get}
use Rattle.std.proofs.lemmas.List.{length-map}
use Rattle.std.proofs.lemmas.Option.{slice_get_within}
use Rattle.linear.specs.declared.form.RegisterId.{RegisterId}
use Rattle.semantics.specs.Frames.{Does, item_at, parameter_cells, cells_of}
use Rattle.program.specs.declared.function.Program.{Program}
use Rattle.program.specs.declared.identifier.AllocaId.{AllocaId}
use Rattle.program.specs.declared.identifier.FunctionId.{FunctionId}
use Rattle.program.specs.declared.identifier.ObjectName.{ObjectName}
use Rattle.program.specs.declared.identifier.ObjectName.TheVariants as object
use Rattle.program.specs.declared.instruction.Address.{Address}
use Rattle.program.specs.declared.instruction.Address.TheVariants as address
use Rattle.program.specs.declared.instruction.Argument.{Argument}
use Rattle.program.specs.declared.instruction.Argument.TheVariants as argument
use Rattle.program.specs.declared.instruction.Instruction.{Instruction}
use Rattle.program.specs.declared.instruction.Instruction.TheVariants as instruction
use Rattle.syntax.specs.declared.module.Function.{Function as FunctionText}
use Rattle.syntax.specs.declared.module.Module.{Module}
use Rattle.types.specs.declared.names.address.WholeObject.{WholeObject}
use Rattle.types.specs.names.Item.{items_of}
use Rattle.types.specs.names.Layout.{layout_of}
use Rattle.types.proofs.names.Inversion.{all_at}
use Rattle.types.specs.Apart.{AddressNames, InstructionNames}
use Rattle.types.specs.Call.{Named, argument_of, expected, parameter_of}
use Rattle.types.specs.Meaning.{Means}
use Rattle.laws_conditions.specs.rules.Costs.{parameters_of}
use Rattle.program.specs.Heads.{parameters_in}
use Rattle.laws_phases.specs.defined.Values.{Reads}
use Rattle.laws_schedule.proofs.typing.Parts.{FunctionFrom, function_to}
use Rattle.laws_schedule.proofs.typing.Instructions.{ObjectOf, AddressOf, CallOf, Uses}
use Rattle.laws_schedule.proofs.typing.Calls.{instruction_at}
use Rattle.laws_schedule.proofs.typing.Objects.{IsObject, IsAddress, IsArgument, object_is, address_is, argument_is, cells_are, parameter_wanted}

module _ (whole : Module) (function : FunctionText) (named : Named) (f b : ℕ) where
  abbrev IsSized : ObjectName → Type 0
  IsSized name = (cells : ℕ) × IsObject whole function name cells

  object_sized : (found : WholeObject) (name : ObjectName) → ObjectOf (items_of whole) (layout_of function).scope found → found.name ≡ name → IsSized name
  object_sized found name of same = let P : ObjectName → Type 0 = λ x. IsObject whole function x found.cells in (found.cells, subst P same (object_is whole function of.line of.written found of.is))

  address_sized : (at : Address) (name : ObjectName) → AddressOf (items_of whole) (layout_of function).scope b at → AddressNames at name → IsSized name
  address_sized (address.First other) name of same =
      let found = address_is whole function b of.line of.written (address.First other) of.is in
      let P : ObjectName → Type 0 = λ x. IsSized x in
      subst P same found
  address_sized (address.Element r) name of same = absurd same

  -- the argument of this place, with its parameter
  pub argument_at : (d : Option RegisterId) (g : FunctionId) (given : List Argument) (call : CallOf (items_of whole) whole.functions (layout_of function).scope f d g given) (k : ℕ) (one : Argument) → slice_get given k ≡ Some one →
      IsArgument whole function (expected call.fitting.callee.parameters k) one
  argument_at d g given call k one at =
      let found = all_at (λ place. argument_of (items_of whole) (layout_of function).scope call.line (expected call.fitting.callee.parameters place)) call.texts given k one call.fitting.arguments_are at in
      argument_is whole function call.line (expected call.fitting.callee.parameters k) found.0 one found.2

  pub named_sized : (what : Instruction) (name : ObjectName) → Uses (items_of whole) whole.functions (layout_of function).scope named f b what → InstructionNames what name → IsSized name
  named_sized (instruction.Binary d op w x y) name uses names = absurd names
  named_sized (instruction.Compare d by w x y) name uses names = absurd names
  named_sized (instruction.Convert d by x) name uses names = absurd names
  named_sized (instruction.Alloca d a) name uses names = absurd names
  named_sized (instruction.ElementPointer d base index) name uses names = object_sized uses.0 name uses.1 (uses.2 ∙ names)
  named_sized (instruction.Load d at) name uses names = address_sized at name uses names
  named_sized (instruction.Store x at) name uses names = address_sized at name uses names
  named_sized (instruction.StoreZeros n base) name uses names = object_sized uses.0 name uses.1 (uses.2 ∙ names)
  named_sized (instruction.AtomicAdd at x) name uses names = address_sized at name uses names
  named_sized (instruction.Call d g given) name uses names = let found = argument_at d g given uses names.0 (argument.Object name) names.1 in (found.0, found.1)
  named_sized (instruction.StartRegion d) name uses names = absurd names

  -- a cell that is read is that of an address
  pub reads_address : (what : Instruction) (at : Address) → Uses (items_of whole) whole.functions (layout_of function).scope named f b what → Reads what at → IsAddress whole function b at
  reads_address (instruction.Binary d op w x y) at uses reads = absurd reads
  reads_address (instruction.Compare d by w x y) at uses reads = absurd reads
  reads_address (instruction.Convert d by x) at uses reads = absurd reads
  reads_address (instruction.Alloca d a) at uses reads = absurd reads
  reads_address (instruction.ElementPointer d base index) at uses reads = absurd reads
  reads_address (instruction.Load d from) at uses reads = let P : Address → Type 0 = λ x. IsAddress whole function b x in subst P reads (address_is whole function b uses.line uses.written from uses.is)
  reads_address (instruction.Store x from) at uses reads = absurd reads
  reads_address (instruction.StoreZeros n base) at uses reads = absurd reads
  reads_address (instruction.AtomicAdd from x) at uses reads = let P : Address → Type 0 = λ x. IsAddress whole function b x in subst P reads (address_is whole function b uses.line uses.written from uses.is)
  reads_address (instruction.Call d g given) at uses reads = absurd reads
  reads_address (instruction.StartRegion d) at uses reads = absurd reads

parameter_there : (whole : Module) (function : FunctionText) (r : RegisterId) (cells : ℕ) → IsObject whole function (object.Parameter r) cells → r.0 < length function.parameters
parameter_there whole function r cells (name, is) = slice_get_within function.parameters r.0 _ is

module _ (whole : Module) (program : Program) (m : Means whole (Ok program)) where
  -- a parameter that an instruction names is one of the function's
  pub own : (f b i : ℕ) (what : Instruction) (r : RegisterId) → item_at program f b i ≡ Some (Does what) → InstructionNames what (object.Parameter r) → r.0 < parameters_of program f
  own f b i what r e names =
      let at = instruction_at whole program m f b i what e in
      let sized = named_sized whole at.outer.text m.0 f b what (object.Parameter r) at.meant.uses names in
      let l : r.0 < length at.outer.text.parameters = parameter_there whole at.outer.text r sized.0 sized.1 in
      let n : length at.function.parameters ≡ length at.outer.text.parameters = ap length (sym at.outer.is.parameters_are) ∙ length-map at.outer.text.parameters parameter_of in
      let k : parameters_of program f ≡ length at.function.parameters = ap parameters_in at.is.at_function in
      omega arith

  -- an object that is passed has the cells that the callee's parameter asks for
  pub large : (f b i k : ℕ) (d : Option RegisterId) (g : FunctionId) (given : List Argument) (name : ObjectName) → item_at program f b i ≡ Some (Does (instruction.Call d g given)) → slice_get given k ≡ Some (argument.Object name) →
      cells_of program g.0 (object.Parameter (record { 0 = k })) ≤ cells_of program f name
  large f b i k d g given name e passed =
      let at = instruction_at whole program m f b i (instruction.Call d g given) e in
      let call = at.meant.uses in
      let fits = argument_at whole at.outer.text m.0 f b d g given call k (argument.Object name) passed in
      let callee = function_to whole program m g.0 call.fitting.callee call.fitting.at_callee in
      let from : FunctionFrom whole m.0 g.0 callee.0 = record { text = call.fitting.callee; at_text = call.fitting.at_callee; is = callee.2 } in
      let wanted : cells_of program g.0 (object.Parameter (record { 0 = k })) ≡ parameter_cells (expected call.fitting.callee.parameters k) = parameter_wanted whole program m g.0 callee.0 callee.1 from k in
      let own_cells : cells_of program f name ≡ fits.0 = cells_are whole program m f at.function at.is.at_function at.outer name fits.0 fits.1 in
      let l : parameter_cells (expected call.fitting.callee.parameters k) ≤ fits.0 = fits.2 in
      omega arith

  -- an array store sets all cells of an alloca
  pub zeros : (f b i n : ℕ) (a : AllocaId) → item_at program f b i ≡ Some (Does (instruction.StoreZeros n (object.Alloca a))) → cells_of program f (object.Alloca a) ≤ n
  zeros f b i n a e =
      let at = instruction_at whole program m f b i (instruction.StoreZeros n (object.Alloca a)) e in
      let uses = at.meant.uses in
      let P : ObjectName → Type 0 = λ x. IsObject whole at.outer.text x uses.0.cells in
      let sized : IsObject whole at.outer.text (object.Alloca a) uses.0.cells = subst P uses.2 (object_is whole at.outer.text uses.1.line uses.1.written uses.0 uses.1.is) in
      let cells : cells_of program f (object.Alloca a) ≡ uses.0.cells = cells_are whole program m f at.function at.is.at_function at.outer (object.Alloca a) uses.0.cells sized in
      let same : uses.0.cells ≡ n = uses.3 in
      omega arith
