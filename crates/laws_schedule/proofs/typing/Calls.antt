-- Calls: their callee is there, with as many parameters as there are arguments, and gives a number just where the call defines a register.
use Rattle.std.proofs.Common.{◌≡◌, ℕ, ◌≤◌, List, length, map, Option, Some, None, Bool, true, false, is_some, refl, sym, ap, ◌∙◌, subst, arith, Ok}
use Rattle.std.specs.Prelude.{slice_get}
use Rattle.std.proofs.lemmas.List.{length-map}
use Rattle.linear.specs.declared.form.RegisterId.{RegisterId}
use Rattle.semantics.specs.Frames.{Does, item_at}
use Rattle.program.specs.declared.function.Block.{Block}
use Rattle.program.specs.declared.function.Function.{Function}
use Rattle.program.specs.declared.function.Program.{Program}
use Rattle.program.specs.declared.identifier.FunctionId.{FunctionId}
use Rattle.program.specs.declared.instruction.Argument.{Argument}
use Rattle.program.specs.declared.instruction.Instruction.{Instruction}
use Rattle.program.specs.declared.instruction.Instruction.TheVariants as instruction
use Rattle.program.specs.declared.instruction.Step.{Step}
use Rattle.syntax.specs.declared.instruction.Instruction.{Instruction as InstructionText}
use Rattle.syntax.specs.declared.module.Module.{Module}
use Rattle.syntax.specs.declared.module.ResultType.{ResultType}
use Rattle.syntax.specs.declared.module.ResultType.TheVariants.{Number, Void}
use Rattle.types.specs.names.Item.{items_of}
use Rattle.types.specs.names.Layout.{layout_of}
use Rattle.types.specs.names.Scope.{Scope}
use Rattle.types.proofs.names.Inversion.{made_ok, same_ok}
use Rattle.types.specs.Call.{fits_result, argument_of, expected, parameter_of}
use Rattle.types.specs.Instruction.{defined_of, call_register_of}
use Rattle.types.specs.Meaning.{Means}
use Rattle.laws_conditions.specs.rules.Costs.{parameters_of}
use Rattle.program.specs.Heads.{parameters_in}
use Rattle.laws_conditions.specs.rules.Registers.{is_number, gives_number, returns_number}
use Rattle.laws_phases.specs.defined.Leads.{IsBlock}
use Rattle.laws_phases.proofs.defined.Items.{stands, step_there}
use Rattle.laws_schedule.proofs.typing.Parts.{FunctionOf, FunctionFrom, BlockFrom, function_to, function_from, block_from, step_from}
use Rattle.verifier.proofs.Lists.{all_count}
use Rattle.laws_schedule.proofs.typing.Instructions.{CallOf, Meant, is_meant}

gives_as : (has_result : Bool) (result : ResultType) → fits_result has_result result ≡ true → is_number result ≡ has_result
gives_as true Number h = refl
gives_as false Number h = absurd (cc)
gives_as true Void h = absurd (cc)
gives_as false Void h = refl

has_register : (scope : Scope) (line : ℕ) (register : Option (List ℕ)) (d : Option RegisterId) → call_register_of scope line register ≡ Ok d → is_some register ≡ is_some d
has_register scope line None d e = let none : Option RegisterId = None in ap (λ (o : Option RegisterId). is_some o) (same_ok none d e)
has_register scope line (Some name) d e =
    let made = made_ok (λ (x : RegisterId). Some x) (defined_of scope line name) d e in
    ap (λ (o : Option RegisterId). is_some o) made.2

module _ (whole : Module) (program : Program) (m : Means whole (Ok program)) where
  -- an instruction of the program with the block and the text that it is from
  pub record InstructionAt (f b i : ℕ) (what : Instruction) : Type 0 where
    pub function : Function
    pub block : Block
    pub is : IsBlock program f b function block
    pub outer : FunctionFrom whole m.0 f function
    pub from : BlockFrom whole m.0 f b function block outer
    pub step : Step
    pub at_step : slice_get block.steps i ≡ Some step
    pub does : step.instruction ≡ what
    pub written : InstructionText
    pub meant : Meant (items_of whole) whole.functions (layout_of outer.text).scope m.0 f b written what

  pub instruction_at : (f b i : ℕ) (what : Instruction) → item_at program f b i ≡ Some (Does what) → InstructionAt f b i what
  instruction_at f b i what e =
      let s = stands program f b i (Does what) e in
      let one = step_there s.block.steps s.block.ending i what s.item in
      let outer = function_from whole program m f s.function s.is.at_function in
      let from = block_from whole m.0 f b s.function s.block outer s.is.at_block in
      let step = step_from whole m.0 f b s.function s.block outer from i one.0 one.1 in
      let Q : Instruction → Type 0 = λ x. Meant (items_of whole) whole.functions (layout_of outer.text).scope m.0 f b step.text.instruction x in
      record {
        function = s.function;
        block = s.block;
        is = s.is;
        outer = outer;
        from = from;
        step = one.0;
        at_step = one.1;
        does = one.2;
        written = step.text.instruction;
        meant = subst Q one.2 (is_meant (items_of whole) whole.functions (layout_of outer.text).scope m.0 f b step.text.line step.text.instruction one.0.instruction step.is);
      }

  -- a call with its callee, and what the text of it says
  pub record CallAt (f : ℕ) (d : Option RegisterId) (g : FunctionId) (arguments : List Argument) : Type 0 where
    pub scope : Scope
    pub call : CallOf (items_of whole) whole.functions scope f d g arguments
    pub callee : Function
    pub at_callee : slice_get program.functions g.0 ≡ Some callee
    pub is : FunctionOf (items_of whole) whole.functions m.0 g.0 call.fitting.callee callee

  pub call_at : (f b i : ℕ) (d : Option RegisterId) (g : FunctionId) (arguments : List Argument) → item_at program f b i ≡ Some (Does (instruction.Call d g arguments)) → CallAt f d g arguments
  call_at f b i d g arguments e =
      let at = instruction_at f b i (instruction.Call d g arguments) e in
      let call = at.meant.uses in
      let callee = function_to whole program m g.0 call.fitting.callee call.fitting.at_callee in
      record { scope = (layout_of at.outer.text).scope; call = call; callee = callee.0; at_callee = callee.1; is = callee.2 }

  pub arguments : (f b i : ℕ) (d : Option RegisterId) (g : FunctionId) (given : List Argument) → item_at program f b i ≡ Some (Does (instruction.Call d g given)) → length given ≡ parameters_of program g.0
  arguments f b i d g given e =
      let at = call_at f b i d g given e in
      let text = at.call.fitting.callee in
      let count : length given ≡ length at.call.texts = all_count (λ place. argument_of (items_of whole) at.scope at.call.line (expected text.parameters place)) at.call.texts given at.call.fitting.arguments_are in
      let same : map parameter_of text.parameters ≡ at.callee.parameters = at.is.parameters_are in
      let n : length at.callee.parameters ≡ length text.parameters = ap length (sym same) ∙ length-map text.parameters parameter_of in
      let there : parameters_of program g.0 ≡ length at.callee.parameters = ap parameters_in at.at_callee in
      let fits : length at.call.texts ≡ length text.parameters = at.call.fitting.count in
      omega arith

  pub results : (f b i : ℕ) (d : Option RegisterId) (g : FunctionId) (given : List Argument) → item_at program f b i ≡ Some (Does (instruction.Call d g given)) → returns_number program g.0 ≡ is_some d
  results f b i d g given e =
      let at = call_at f b i d g given e in
      let fits = gives_as (is_some at.call.register) at.call.fitting.callee.result_type at.call.fitting.result_fits in
      let same : at.callee.result_type ≡ at.call.fitting.callee.result_type = sym at.is.result_is in
      ap gives_number at.at_callee ∙ ap is_number same ∙ fits ∙ has_register at.scope at.call.line at.call.register d at.call.register_is

  pub calls : (f b i : ℕ) (d : RegisterId) (g : FunctionId) (given : List Argument) → item_at program f b i ≡ Some (Does (instruction.Call (Some d) g given)) → returns_number program g.0 ≡ true
  calls f b i d g given e = results f b i (Some d) g given e

  pub upward : (f b i : ℕ) (d : Option RegisterId) (g : FunctionId) (given : List Argument) → item_at program f b i ≡ Some (Does (instruction.Call d g given)) → g.0 ≤ f
  upward f b i d g given e = (call_at f b i d g given e).call.fitting.upward
