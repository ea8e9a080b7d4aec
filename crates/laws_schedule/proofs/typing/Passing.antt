-- The first registers are of the parameters' kinds, and calls pass numbers for numbers and objects for pointers.
use Rattle.std.proofs.Common.{◌≡◌, ℕ, zero, suc, ◌+◌, List, [], ◌∷◌, ◌++◌, length, Option, Some, None, true, refl, sym, ap, ◌∙◌, subst, arith, Ok}
use Rattle.std.specs.Prelude.{slice_get}
use Rattle.std.specs.Option.{option_map}
use Rattle.std.proofs.lemmas.List.{length_push}
use Rattle.std.proofs.lemmas.Option.{slice_get-map}
use Rattle.linear.specs.declared.form.RegisterId.{RegisterId}
use Rattle.semantics.specs.Frames.{Does, item_at}
use Rattle.semantics.proofs.Confluence.{one_result}
use Rattle.program.specs.declared.function.Function.{Function}
use Rattle.program.specs.declared.function.Parameter.{Parameter}
use Rattle.program.specs.declared.function.Parameter.TheVariants as parameter
use Rattle.program.specs.declared.function.Program.{Program}
use Rattle.program.specs.declared.function.RegisterKind.{RegisterKind}
use Rattle.program.specs.declared.identifier.FunctionId.{FunctionId}
use Rattle.program.specs.declared.instruction.Argument.{Argument}
use Rattle.program.specs.declared.instruction.Argument.TheVariants as argument
use Rattle.program.specs.declared.instruction.Instruction.TheVariants as instruction
use Rattle.syntax.specs.declared.instruction.Argument.{Argument as ArgumentText}
use Rattle.syntax.specs.declared.instruction.Argument.TheVariants as passed
use Rattle.syntax.specs.declared.instruction.Instruction.{Instruction as InstructionText}
use Rattle.syntax.specs.declared.instruction.Instruction.TheVariants as text
use Rattle.syntax.specs.declared.instruction.Phi.{Phi as PhiText}
use Rattle.syntax.specs.declared.instruction.Step.{Step as StepText}
use Rattle.syntax.specs.declared.module.Block.{Block as BlockText}
use Rattle.syntax.specs.declared.module.Function.{Function as FunctionText}
use Rattle.syntax.specs.declared.module.Module.{Module}
use Rattle.syntax.specs.declared.module.Parameter.{Parameter as ParameterText}
use Rattle.syntax.specs.declared.module.Parameter.TheVariants as parameter_text
use Rattle.syntax.specs.declared.operator.Width.TheVariants.{Bits64}
use Rattle.types.specs.declared.names.address.WholeObject.{WholeObject}
use Rattle.types.specs.declared.names.layout.Layout.{Layout}
use Rattle.types.specs.declared.names.scope.Origin.{Origin}
use Rattle.types.specs.declared.names.scope.Origin.TheVariants as origin
use Rattle.types.specs.names.Address.{Items}
use Rattle.types.specs.names.Fault.{breaks, unless_of}
use Rattle.types.specs.names.Item.{items_of}
use Rattle.types.specs.names.Layout.{with_parameter, with_phi, with_call, with_instruction, with_step, with_phis, with_steps, with_block, with_parameters, with_blocks, with_label, with_labels, no_layout, layout_of}
use Rattle.types.specs.names.Operand.{operand_of}
use Rattle.types.specs.names.Scope.{Scope}
use Rattle.types.proofs.names.Inversion.{made_ok, then_ok, both_ok, unless_ok, all_at}
use Rattle.types.specs.Call.{parameter_of, expected, takes_number, takes_object, fits_extent, argument_of}
use Rattle.types.specs.Meaning.{Means}
use Rattle.laws_schedule.specs.typing.Kinds.{IsOfKind, parameter_kind, IsPassed}
use Rattle.laws_schedule.proofs.typing.Lists.{in_first, at_last}
use Rattle.laws_schedule.proofs.typing.Parts.{FunctionFrom, function_from, function_to}
use Rattle.laws_schedule.proofs.typing.Calls.{instruction_at}

-- ---- registers stay where they are

abbrev Stays : List RegisterKind → List RegisterKind → Type 0
Stays before after = (r : ℕ) (k : RegisterKind) → slice_get before r ≡ Some k → slice_get after r ≡ Some k

pushed : (registers : List RegisterKind) (new : RegisterKind) → Stays registers (registers ++ new ∷ [])
pushed registers new r k e = in_first registers (new ∷ []) r k e

stays_call : (layout : Layout) (name : Option (List ℕ)) (from : Origin) → Stays layout.registers (with_call layout name from).registers
stays_call layout None from r k e = e
stays_call layout (Some name) from r k e = pushed layout.registers _ r k e

stays_instruction : (layout : Layout) (line : ℕ) (from : Origin) (what : InstructionText) → Stays layout.registers (with_instruction layout line from what).registers
stays_instruction layout line from (text.Binary register operator width left right) r k e = pushed layout.registers _ r k e
stays_instruction layout line from (text.Compare register predicate width left right) r k e = pushed layout.registers _ r k e
stays_instruction layout line from (text.Convert register conversion value) r k e = pushed layout.registers _ r k e
stays_instruction layout line from (text.Alloca register size) r k e = pushed layout.registers _ r k e
stays_instruction layout line from (text.ElementPointer register base index) r k e = pushed layout.registers _ r k e
stays_instruction layout line from (text.Load register address) r k e = pushed layout.registers _ r k e
stays_instruction layout line from (text.Store value address) r k e = e
stays_instruction layout line from (text.StoreZeros cells address) r k e = e
stays_instruction layout line from (text.AtomicAdd address value) r k e = e
stays_instruction layout line from (text.Call register callee arguments) r k e = stays_call layout register from r k e
stays_instruction layout line from (text.StartRegion register) r k e = pushed layout.registers _ r k e

stays_phis : (phis : List PhiText) (layout : Layout) → Stays layout.registers (with_phis layout phis).registers
stays_phis [] layout r k e = e
stays_phis (phi ∷ phis) layout r k e = stays_phis phis (with_phi layout phi) r k (pushed layout.registers _ r k e)

stays_steps : (b : ℕ) (steps : List StepText) (layout : Layout) → Stays layout.registers (with_steps b layout steps).registers
stays_steps b [] layout r k e = e
stays_steps b (step ∷ steps) layout r k e = stays_steps b steps (with_step b layout step) r k (stays_instruction layout step.line (origin.Step b) step.instruction r k e)

stays_blocks : (place : ℕ) (blocks : List BlockText) (layout : Layout) → Stays layout.registers (with_blocks place layout blocks).registers
stays_blocks place [] layout r k e = e
stays_blocks place (block ∷ blocks) layout r k e = stays_blocks (place + 1) blocks (with_block place layout block) r k (stays_steps place block.steps (with_phis layout block.phis) r k (stays_phis block.phis layout r k e))

stays_labels : (place : ℕ) (blocks : List BlockText) (layout : Layout) → Stays layout.registers (with_labels place layout blocks).registers
stays_labels place [] layout r k e = e
stays_labels place (block ∷ blocks) layout r k e = stays_labels (place + 1) blocks (with_label place layout block) r k e

stays_parameter : (layout : Layout) (one : ParameterText) → Stays layout.registers (with_parameter layout one).registers
stays_parameter layout (parameter_text.Number name) r k e = pushed layout.registers _ r k e
stays_parameter layout (parameter_text.Pointer name cells) r k e = pushed layout.registers _ r k e

stays_parameters : (parameters : List ParameterText) (layout : Layout) → Stays layout.registers (with_parameters layout parameters).registers
stays_parameters [] layout r k e = e
stays_parameters (one ∷ parameters) layout r k e = stays_parameters parameters (with_parameter layout one) r k (stays_parameter layout one r k e)

-- ---- parameters

parameter_last : (layout : Layout) (one : ParameterText) → slice_get (with_parameter layout one).registers (length layout.registers) ≡ Some (parameter_kind (parameter_of one))
parameter_last layout (parameter_text.Number name) = at_last layout.registers _
parameter_last layout (parameter_text.Pointer name cells) = at_last layout.registers _

one_more : (layout : Layout) (one : ParameterText) → length (with_parameter layout one).registers ≡ length layout.registers + 1
one_more layout (parameter_text.Number name) = omega (arith, length_push layout.registers)
one_more layout (parameter_text.Pointer name cells) = omega (arith, length_push layout.registers)

parameter_there : (parameters : List ParameterText) (layout : Layout) (i : ℕ) (one : ParameterText) → slice_get parameters i ≡ Some one → slice_get (with_parameters layout parameters).registers (length layout.registers + i) ≡ Some (parameter_kind (parameter_of one))
parameter_there [] layout i one e = absurd (cc)
parameter_there (other ∷ parameters) layout zero one e =
    let same : other ≡ one = cc in
    let here = stays_parameters parameters (with_parameter layout other) (length layout.registers) (parameter_kind (parameter_of other)) (parameter_last layout other) in
    ap (λ k. slice_get (with_parameters (with_parameter layout other) parameters).registers k) (omega arith) ∙ here ∙ ap (λ (x : ParameterText). Some (parameter_kind (parameter_of x))) same
parameter_there (other ∷ parameters) layout (suc i) one e =
    let n : length (with_parameter layout other).registers ≡ length layout.registers + 1 = one_more layout other in
    ap (λ k. slice_get (with_parameters (with_parameter layout other) parameters).registers k) (omega arith) ∙ parameter_there parameters (with_parameter layout other) i one e

parameter_register : (function : FunctionText) (i : ℕ) (one : ParameterText) → slice_get function.parameters i ≡ Some one → slice_get (layout_of function).registers i ≡ Some (parameter_kind (parameter_of one))
parameter_register function i one e =
    let first = ap (λ k. slice_get (with_parameters no_layout function.parameters).registers k) (omega arith) ∙ parameter_there function.parameters no_layout i one e in
    stays_labels 0 function.blocks (with_blocks 0 (with_parameters no_layout function.parameters) function.blocks) i (parameter_kind (parameter_of one))
    (stays_blocks 0 function.blocks (with_parameters no_layout function.parameters) i (parameter_kind (parameter_of one)) first)

-- ---- arguments

number_passed : (wanted : Parameter) (value : _) → takes_number (Some wanted) ≡ true → IsPassed wanted (argument.Number value)
number_passed parameter.Number value h = tt
number_passed (parameter.Pointer cells) value h = absurd (cc)

object_passed : (wanted : Parameter) (name : _) → takes_object (Some wanted) ≡ true → IsPassed wanted (argument.Object name)
object_passed parameter.Number name h = absurd (cc)
object_passed (parameter.Pointer cells) name h = tt

argument_passed : (items : Items) (scope : Scope) (line : ℕ) (wanted : Parameter) (written : ArgumentText) (given : Argument) → argument_of items scope line (Some wanted) written ≡ Ok given → IsPassed wanted given
argument_passed items scope line wanted (passed.Number value) given e =
    let part = then_ok _ (operand_of scope line Bits64 value) given e in
    let made = made_ok (λ (u : Unit {0}). argument.Number part.0) (unless_of (takes_number (Some wanted)) (breaks 202 line)) given part.2 in
    let P : Argument → Type 0 = λ x. IsPassed wanted x in
    subst P made.2 (number_passed wanted part.0 (unless_ok (takes_number (Some wanted)) (breaks 202 line) made.0 made.1))
argument_passed items scope line wanted (passed.Pointer written) given e =
    let part = then_ok {A = WholeObject × Unit {0}} _ _ given e in
    let takes = unless_ok (takes_object (Some wanted)) (breaks 202 line) part.0.1 (both_ok _ _ part.0 part.1).1 in
    let made = made_ok (λ (u : Unit {0}). argument.Object part.0.0.name) (unless_of (fits_extent part.0.0.cells (Some wanted)) (breaks 204 line)) given part.2 in
    let P : Argument → Type 0 = λ x. IsPassed wanted x in
    subst P made.2 (object_passed wanted part.0.0.name takes)

text_parameter : (o : Option ParameterText) (one : Parameter) → option_map parameter_of o ≡ Some one → (written : ParameterText) × (o ≡ Some written) × (parameter_of written ≡ one)
text_parameter None one e = absurd (cc)
text_parameter (Some written) one e = (written, refl, cc)

module _ (whole : Module) (program : Program) (m : Means whole (Ok program)) where
  parameter_from : (f : ℕ) (function : Function) (outer : FunctionFrom whole m.0 f function) (i : ℕ) (one : Parameter) → slice_get function.parameters i ≡ Some one → expected outer.text.parameters i ≡ Some one
  parameter_from f function outer i one e =
      sym (slice_get-map parameter_of outer.text.parameters i) ∙ ap (λ (l : List Parameter). slice_get l i) outer.is.parameters_are ∙ e

  pub parameters_kinded : (f i : ℕ) (function : Function) (one : Parameter) → slice_get program.functions f ≡ Some function → slice_get function.parameters i ≡ Some one → IsOfKind function.registers i (parameter_kind one)
  parameters_kinded f i function one at e =
      let outer = function_from whole program m f function at in
      let written = text_parameter (slice_get outer.text.parameters i) one (parameter_from f function outer i one e) in
      ap (λ (l : List RegisterKind). slice_get l i) (sym outer.is.registers_are) ∙ parameter_register outer.text i written.0 written.1 ∙ ap (λ (x : Parameter). Some (parameter_kind x)) written.2

  pub arguments_passed : (f b i k : ℕ) (d : Option RegisterId) (g : FunctionId) (given : List Argument) (callee : Function) (one : Argument) (wanted : Parameter) →
      item_at program f b i ≡ Some (Does (instruction.Call d g given)) → slice_get given k ≡ Some one → slice_get program.functions g.0 ≡ Some callee → slice_get callee.parameters k ≡ Some wanted → IsPassed wanted one
  arguments_passed f b i k d g given callee one wanted e at_one at_callee at_wanted =
      let at = instruction_at whole program m f b i (instruction.Call d g given) e in
      let call = at.meant.uses in
      let found = function_to whole program m g.0 call.fitting.callee call.fitting.at_callee in
      let same : found.0 ≡ callee = one_result (slice_get program.functions g.0) found.0 callee found.1 at_callee in
      let from : FunctionFrom whole m.0 g.0 found.0 = record { text = call.fitting.callee; at_text = call.fitting.at_callee; is = found.2 } in
      let wants : expected call.fitting.callee.parameters k ≡ Some wanted = parameter_from g.0 found.0 from k wanted (ap (λ (x : Function). slice_get x.parameters k) same ∙ at_wanted) in
      let written = all_at (λ place. argument_of (items_of whole) (layout_of at.outer.text).scope call.line (expected call.fitting.callee.parameters place)) call.texts given k one call.fitting.arguments_are at_one in
      let P : Option Parameter → Type 0 = λ o. argument_of (items_of whole) (layout_of at.outer.text).scope call.line o written.0 ≡ Ok one in
      argument_passed (items_of whole) (layout_of at.outer.text).scope call.line wanted written.0 one (subst P wants written.2)
