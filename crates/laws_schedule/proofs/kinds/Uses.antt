-- What the instructions of a program name is of its kind, where a module that is read means the program.
use Rattle.std.proofs.Common.{◌≡◌, ℕ, List, [], ◌∷◌, map, Option, Some, None, true, refl, sym, ap, ◌∙◌, subst, Ok, ℤ}
use Rattle.std.specs.Prelude.{slice_get}
use Rattle.std.specs.List.{All, list_all}
use Rattle.std.specs.Option.{option_map}
use Rattle.std.proofs.lemmas.List.Elements.{All-nil, All-cons, All-contains}
use Rattle.std.proofs.lemmas.Option.{slice_get-map}
use Rattle.linear.specs.declared.form.RegisterId.{RegisterId}
use Rattle.semantics.specs.Arithmetic.{fits}
use Rattle.semantics.specs.Frames.{Does, item_at}
use Rattle.semantics.proofs.Confluence.{one_result}
use Rattle.program.specs.declared.function.Function.{Function}
use Rattle.program.specs.declared.function.Parameter.{Parameter}
use Rattle.program.specs.declared.function.Parameter.TheVariants as parameter
use Rattle.program.specs.declared.function.Program.{Program}
use Rattle.program.specs.declared.function.RegisterKind.{RegisterKind}
use Rattle.program.specs.declared.function.RegisterKind.TheVariants as kind
use Rattle.program.specs.declared.identifier.ObjectName.TheVariants as object
use Rattle.program.specs.declared.instruction.Address.{Address}
use Rattle.program.specs.declared.instruction.Address.TheVariants as address
use Rattle.program.specs.declared.instruction.Instruction.{Instruction}
use Rattle.program.specs.declared.instruction.Instruction.TheVariants as instruction
use Rattle.program.specs.declared.instruction.Operand.{Operand}
use Rattle.program.specs.declared.instruction.Operand.TheVariants as operand
use Rattle.syntax.specs.declared.instruction.Instruction.{Instruction as InstructionText}
use Rattle.syntax.specs.declared.instruction.Step.{Step as StepText}
use Rattle.syntax.specs.declared.module.Block.{Block as BlockText}
use Rattle.syntax.specs.declared.module.Function.{Function as FunctionText}
use Rattle.syntax.specs.declared.module.Module.{Module}
use Rattle.syntax.specs.declared.module.Parameter.{Parameter as ParameterText}
use Rattle.syntax.specs.declared.module.Parameter.TheVariants as parameter_text
use Rattle.syntax.specs.declared.operator.BinaryOperator.{BinaryOperator}
use Rattle.syntax.specs.declared.operator.Width.{Width}
use Rattle.ir_reader.specs.Kept.{IsStepWritten, IsBlockWritten, IsKeptModule}
use Rattle.ir_reader.proofs.Keeping.{answers_kept}
use Rattle.types.specs.names.Item.{items_of}
use Rattle.types.specs.names.Layout.{kind_of, layout_of}
use Rattle.types.specs.Apart.{InstructionNames}
use Rattle.types.specs.Call.{Named, parameter_of}
use Rattle.types.specs.Definitions.{defined_name}
use Rattle.types.specs.Meaning.{is_number, Means}
use Rattle.laws_phases.proofs.defined.Items.{stands, step_there}
use Rattle.laws_phases.proofs.defined.Lists.{at_within}
use Rattle.laws_schedule.specs.typing.Kinds.{IsOfKind, HasKinds}
use Rattle.laws_schedule.proofs.typing.Calls.{instruction_at}
use Rattle.laws_schedule.proofs.typing.Instructions.{AddressOf, Uses}
use Rattle.laws_schedule.proofs.typing.Kinded.{kinds_are_right}
use Rattle.laws_schedule.proofs.typing.Kinding.{GivesKind, register_kind, step_gives}
use Rattle.laws_schedule.proofs.typing.Objects.{IsObject, IsElementOf, address_is}
use Rattle.laws_schedule.proofs.typing.Once.{StepNames}
use Rattle.laws_schedule.proofs.typing.Parts.{FunctionFrom, function_from, function_to, block_from, step_from}
use Rattle.laws_schedule.proofs.typing.Registers.{kept_function}
use Rattle.laws_schedule.proofs.typing.Sized.{named_sized}
use Rattle.laws_schedule.specs.kinds.Uses.{address_in, TakesNumbers, HasKindedUses, UsesAreKinded}
use Rattle.laws_schedule.proofs.kinds.Literals.{NumbersFit, numbers_fit}
use Rattle.laws_schedule.proofs.typing.Main.{main_at}

-- ---- elements

-- the register of an element is one for elements
element_kind : (whole : Module) (kept : IsKeptModule whole) (f : ℕ) (text : FunctionText) → slice_get whole.functions f ≡ Some text → (b : ℕ) (r : RegisterId) → IsElementOf whole text b r → IsOfKind (layout_of text).registers r.0 kind.Element
element_kind whole kept f text at b r element =
    let known = register_kind text element.name element.register element.found in
    let names : StepNames element.step.block element.step.step element.name = record { step = element.step.line; at = element.step.at_step; is = ap defined_name element.step.is } in
    let gives = step_gives text (kept_function whole kept f text at) element.step.place element.step.step element.step.block element.name (kind_of element.register.holding) element.register.origin element.step.at_block names known.from in
    let P : InstructionText → Type 0 = λ x. GivesKind x (kind_of element.register.holding) in
    let Q : RegisterId → Type 0 = λ x. IsOfKind (layout_of text).registers x.0 kind.Element in
    subst Q element.same (known.has ∙ ap (λ (k : RegisterKind). Some k) (subst P element.step.is gives))

module _ (whole : Module) (function : FunctionText) (named : Named) (f b : ℕ) where
  -- an address in a register is that of an element
  address_element : (at : Address) (r : RegisterId) → AddressOf (items_of whole) (layout_of function).scope b at → Some at ≡ Some (address.Element r) → IsElementOf whole function b r
  address_element (address.First name) r of same = absurd (let e : address.First name ≡ address.Element r = cc in cc)
  address_element (address.Element x) r of same =
      let e : x ≡ r = (let k : address.Element x ≡ address.Element r = cc in cc) in
      let P : RegisterId → Type 0 = λ y. IsElementOf whole function b y in
      subst P e (address_is whole function b of.line of.written (address.Element x) of.is)

  none_named : (r : RegisterId) → None ≡ Some (address.Element r) → IsElementOf whole function b r
  none_named r e = absurd (cc)

  element_of : (what : Instruction) (r : RegisterId) → Uses (items_of whole) whole.functions (layout_of function).scope named f b what → address_in what ≡ Some (address.Element r) → IsElementOf whole function b r
  element_of (instruction.Binary d op w x y) r uses e = none_named r e
  element_of (instruction.Compare d by w x y) r uses e = none_named r e
  element_of (instruction.Convert d by x) r uses e = none_named r e
  element_of (instruction.Alloca d a) r uses e = none_named r e
  element_of (instruction.ElementPointer d base index) r uses e = none_named r e
  element_of (instruction.Load d at) r uses e = address_element at r uses e
  element_of (instruction.Store x at) r uses e = address_element at r uses e
  element_of (instruction.StoreZeros n base) r uses e = none_named r e
  element_of (instruction.AtomicAdd at x) r uses e = address_element at r uses e
  element_of (instruction.Call d g given) r uses e = none_named r e
  element_of (instruction.StartRegion d) r uses e = none_named r e

-- ---- main

all_numbers : (parameters : List ParameterText) → list_all is_number parameters ≡ true → All (λ (one : Parameter). one ≡ parameter.Number) (map parameter_of parameters)
all_numbers [] h = All-nil (λ (one : Parameter). one ≡ parameter.Number)
all_numbers (parameter_text.Number name ∷ parameters) h = All-cons (λ (one : Parameter). one ≡ parameter.Number) parameter.Number (map parameter_of parameters) refl (all_numbers parameters h)
all_numbers (parameter_text.Pointer name cells ∷ parameters) h = absurd (cc)

-- ---- of a program

module _ (whole : Module) (kept : IsKeptModule whole) (program : Program) (m : Means whole (Ok program)) where
  kinds : HasKinds program
  kinds = kinds_are_right whole program kept m

  pointer : (f : ℕ) (function : Function) (outer : FunctionFrom whole m.0 f function) (r : RegisterId) (cells : ℕ) → IsObject whole outer.text (object.Parameter r) cells → slice_get function.parameters r.0 ≡ Some (parameter.Pointer cells)
  pointer f function outer r cells (name, is) =
      ap (λ (l : List Parameter). slice_get l r.0) (sym outer.is.parameters_are) ∙ slice_get-map parameter_of outer.text.parameters r.0 ∙ ap (λ (o : Option ParameterText). option_map parameter_of o) is

  objects : (f b i : ℕ) (what : Instruction) (r : RegisterId) (function : Function) → item_at program f b i ≡ Some (Does what) → slice_get program.functions f ≡ Some function → InstructionNames what (object.Parameter r) → IsOfKind function.registers r.0 kind.Object
  objects f b i what r function e at names =
      let there = instruction_at whole program m f b i what e in
      let sized = named_sized whole there.outer.text m.0 f b what (object.Parameter r) there.meant.uses names in
      let same : there.function ≡ function = one_result (slice_get program.functions f) there.function function there.is.at_function at in
      let P : Function → Type 0 = λ x. IsOfKind x.registers r.0 kind.Object in
      subst P same (kinds.parameters f r.0 there.function (parameter.Pointer sized.0) there.is.at_function (pointer f there.function there.outer r sized.0 sized.1))

  elements : (f b i : ℕ) (what : Instruction) (r : RegisterId) (function : Function) → item_at program f b i ≡ Some (Does what) → slice_get program.functions f ≡ Some function → address_in what ≡ Some (address.Element r) → IsOfKind function.registers r.0 kind.Element
  elements f b i what r function e at named =
      let there = instruction_at whole program m f b i what e in
      let element = element_of whole there.outer.text m.0 f b what r there.meant.uses named in
      let same : there.function ≡ function = one_result (slice_get program.functions f) there.function function there.is.at_function at in
      let Q : List RegisterKind → Type 0 = λ l. IsOfKind l r.0 kind.Element in
      subst Q (there.outer.is.registers_are ∙ ap (λ (x : Function). x.registers) same) (element_kind whole kept f there.outer.text there.outer.at_text b r element)

  written_step : (f b i : ℕ) (text : FunctionText) (block : BlockText) (step : StepText) → slice_get whole.functions f ≡ Some text → slice_get text.blocks b ≡ Some block → slice_get block.steps i ≡ Some step → IsStepWritten step
  written_step f b i text block step at at_block at_step =
      let blocks = (kept_function whole kept f text at).written.blocks in
      All-contains IsStepWritten block.steps step (All-contains IsBlockWritten text.blocks block blocks (at_within text.blocks b block at_block)).steps (at_within block.steps i step at_step)

  numbers : (f b i : ℕ) (d : RegisterId) (operator : BinaryOperator) (width : Width) (x : Operand) (z : ℤ) → item_at program f b i ≡ Some (Does (instruction.Binary d operator width x (operand.Number z))) → fits width z ≡ true
  numbers f b i d operator width x z e =
      let what : Instruction = instruction.Binary d operator width x (operand.Number z) in
      let s = stands program f b i (Does what) e in
      let one = step_there s.block.steps s.block.ending i what s.item in
      let outer = function_from whole program m f s.function s.is.at_function in
      let from = block_from whole m.0 f b s.function s.block outer s.is.at_block in
      let step = step_from whole m.0 f b s.function s.block outer from i one.0 one.1 in
      let written = written_step f b i outer.text from.text step.text outer.at_text from.at_text step.at_text in
      let all : NumbersFit one.0.instruction = numbers_fit (items_of whole) whole.functions m.0 (layout_of outer.text).scope f b step.text.line step.text.instruction one.0.instruction written.instruction step.is in
      let this : NumbersFit what = subst NumbersFit one.2 all in
      this

  main : TakesNumbers program program.main.0
  main function at =
      let text = main_at whole kept program m in
      let found = function_to whole program m program.main.0 text.text text.at in
      let same : found.0 ≡ function = one_result (slice_get program.functions program.main.0) found.0 function found.1 at in
      let P : List Parameter → Type 0 = λ l. All (λ (one : Parameter). one ≡ parameter.Number) l in
      subst P (found.2.parameters_are ∙ ap (λ (x : Function). x.parameters) same) (all_numbers text.text.parameters text.numbers)

  pub kinded_uses : HasKindedUses program
  kinded_uses = record { objects = objects; elements = elements; numbers = numbers; main = main }

pub uses_are_kinded : UsesAreKinded
uses_are_kinded text program accepted =
    kinded_uses accepted.0 (answers_kept text accepted.0 accepted.1) program accepted.2
