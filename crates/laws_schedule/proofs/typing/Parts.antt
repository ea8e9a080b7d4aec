-- The parts of a program, each with the text that means it.
use Rattle.std.proofs.Common.{◌≡◌, ℕ, zero, suc, ◌+◌, List, [], ◌∷◌, ◌++◌, length, map, Option, Some, None, refl, sym, ap, subst, ◌∙◌, arith, Result, Ok}
use Rattle.std.specs.Prelude.{slice_get}
use Rattle.program.specs.declared.function.Block.{Block}
use Rattle.program.specs.declared.function.Function.{Function}
use Rattle.program.specs.declared.function.Program.{Program}
use Rattle.program.specs.declared.instruction.Ending.{Ending}
use Rattle.program.specs.declared.instruction.Instruction.{Instruction}
use Rattle.program.specs.declared.instruction.Phi.{Phi}
use Rattle.program.specs.declared.instruction.Step.{Step}
use Rattle.program.specs.declared.instruction.Terminator.{Terminator}
use Rattle.syntax.specs.declared.instruction.Phi.{Phi as PhiText}
use Rattle.syntax.specs.declared.instruction.Step.{Step as StepText}
use Rattle.syntax.specs.declared.module.Block.{Block as BlockText}
use Rattle.syntax.specs.declared.module.Function.{Function as FunctionText}
use Rattle.syntax.specs.declared.module.Module.{Module}
use Rattle.syntax.specs.declared.module.ResultType.{ResultType}
use Rattle.syntax.specs.declared.terminator.Ending.{Ending as EndingText}
use Rattle.refusal.specs.declared.broken.Broken.{Broken as TypeFault}
use Rattle.types.specs.declared.names.form.AnnotationPlace.TheVariants as place
use Rattle.types.specs.names.Address.{Items}
use Rattle.types.specs.names.Fault.{all_of}
use Rattle.types.specs.names.Form.{inequalities_of}
use Rattle.types.specs.names.Item.{items_of}
use Rattle.types.specs.names.Layout.{layout_of}
use Rattle.types.specs.names.Note.{measure_of}
use Rattle.types.specs.names.Scope.{Scope}
use Rattle.types.proofs.names.Inversion.{made_ok, both_ok, same_ok, Each, all_at}
use Rattle.types.specs.Block.{block_with, block_of, blocks_of}
use Rattle.types.specs.Call.{Named, parameter_of}
use Rattle.types.specs.Function.{result_register, function_with, function_of, functions_of}
use Rattle.types.specs.Instruction.{phi_of, phis_of, instruction_of, step_of, steps_of}
use Rattle.types.specs.Meaning.{Means}
use Rattle.types.specs.Terminator.{terminator_of, ending_of}
use Rattle.verifier.proofs.Lists.{each_of}

-- ---- lists that are meant element by element

each_to : {A B : Type 0} (f : ℕ → A → Result B TypeFault) (n : ℕ) (xs : List A) (ys : List B) (i : ℕ) (x : A) → Each f n xs ys → slice_get xs i ≡ Some x → (y : B) × (slice_get ys i ≡ Some y) × (f (n + i) x ≡ Ok y)
each_to f n [] ys i x each e = absurd (cc)
each_to f n (z ∷ xs) [] i x each e = absurd each
each_to {A} {B} f n (z ∷ xs) (y ∷ ys) zero x each e =
    let s : z ≡ x = cc in
    (y, refl, ap (λ k. f k x) (omega arith) ∙ ap (λ (v : A). f n v) (sym s) ∙ each.0)
each_to f n (z ∷ xs) (y ∷ ys) (suc i) x each e =
    let found = each_to f (n + 1) xs ys i x each.1 e in
    (found.0, found.1, ap (λ k. f k x) (omega arith) ∙ found.2)

-- the element at a place means the part there
pub all_to : {A B : Type 0} (f : ℕ → A → Result B TypeFault) (xs : List A) (ys : List B) (i : ℕ) (x : A) → all_of f xs ≡ Ok ys → slice_get xs i ≡ Some x → (y : B) × (slice_get ys i ≡ Some y) × (f i x ≡ Ok y)
all_to f xs ys i x e at =
    let found = each_to f 0 xs ys i x (each_of f xs ys e) at in
    (found.0, found.1, ap (λ k. f k x) (omega arith) ∙ found.2)

-- ---- what a text means part by part

module _ (items : Items) (functions : List FunctionText) (named : Named) where
  pub record FunctionOf (f : ℕ) (text : FunctionText) (function : Function) : Type 0 where
    pub result_is : text.result_type ≡ function.result_type
    pub parameters_are : map parameter_of text.parameters ≡ function.parameters
    pub registers_are : (layout_of text).registers ≡ function.registers
    pub allocas_are : (layout_of text).allocas ≡ function.allocas
    pub requirements_are : inequalities_of (layout_of text).scope place.Head text.notes.requirements ≡ Ok function.requirements
    pub guarantees_are : inequalities_of (layout_of text).scope (place.Guarantee (result_register text.result_type (length (layout_of text).registers))) text.notes.guarantees ≡ Ok function.guarantees
    pub measure_is : measure_of (layout_of text).scope text.notes.measure ≡ Ok function.measure
    pub blocks_are : blocks_of items functions named (layout_of text).scope f text.result_type text.blocks ≡ Ok function.blocks

  pub function_is : (f : ℕ) (text : FunctionText) (function : Function) → function_of items functions named f text ≡ Ok function → FunctionOf f text function
  function_is f text function e =
      let made = made_ok _ _ function e in
      let parts = both_ok _ _ made.0 made.1 in
      let head = made_ok _ _ made.0.0 parts.0 in
      let front = (both_ok _ _ head.0 head.1).0 in
      let back = (both_ok _ _ head.0 head.1).1 in
      let whole = ap (λ (g : List Block → Function). g made.0.1) (ap (function_with text (layout_of text)) head.2) ∙ made.2 in
      record {
        result_is = ap (λ (g : Function). g.result_type) made.2;
        parameters_are = ap (λ (g : Function). g.parameters) made.2;
        registers_are = ap (λ (g : Function). g.registers) made.2;
        allocas_are = ap (λ (g : Function). g.allocas) made.2;
        requirements_are = (both_ok _ _ head.0.0 front).0 ∙ ap (λ (g : Function). Ok g.requirements) whole;
        guarantees_are = (both_ok _ _ head.0.0 front).1 ∙ ap (λ (g : Function). Ok g.guarantees) whole;
        measure_is = (both_ok _ _ head.0.1 back).1 ∙ ap (λ (g : Function). Ok g.measure) whole;
        blocks_are = parts.1 ∙ ap (λ (g : Function). Ok g.blocks) made.2;
      }

  pub record BlockOf (scope : Scope) (f b : ℕ) (result : ResultType) (text : BlockText) (block : Block) : Type 0 where
    pub phis_are : phis_of scope text.phis ≡ Ok block.phis
    pub steps_are : steps_of items functions named scope f b text.steps ≡ Ok block.steps
    pub ending_is : ending_of scope result text.ending ≡ Ok block.ending

  pub block_is : (scope : Scope) (f b : ℕ) (result : ResultType) (text : BlockText) (block : Block) → block_of items functions named scope f result b text ≡ Ok block → BlockOf scope f b result text block
  block_is scope f b result text block e =
      let made = made_ok _ _ block e in
      let body = made_ok _ _ made.0.1 (both_ok _ _ made.0 made.1).1 in
      let parts = both_ok _ _ body.0 body.1 in
      let rest = both_ok _ _ body.0.1 parts.1 in
      let whole = ap (block_with text.line made.0.0) body.2 ∙ made.2 in
      record {
        phis_are = parts.0 ∙ ap (λ (x : Block). Ok x.phis) whole;
        steps_are = rest.0 ∙ ap (λ (x : Block). Ok x.steps) whole;
        ending_is = rest.1 ∙ ap (λ (x : Block). Ok x.ending) whole;
      }

-- ---- of a program

module _ (whole : Module) (named : Named) where
  pub record FunctionFrom (f : ℕ) (function : Function) : Type 0 where
    pub text : FunctionText
    pub at_text : slice_get whole.functions f ≡ Some text
    pub is : FunctionOf (items_of whole) whole.functions named f text function

  pub record BlockFrom (f b : ℕ) (function : Function) (block : Block) (outer : FunctionFrom f function) : Type 0 where
    pub text : BlockText
    pub at_text : slice_get outer.text.blocks b ≡ Some text
    pub is : BlockOf (items_of whole) whole.functions named (layout_of outer.text).scope f b outer.text.result_type text block

  pub block_from : (f b : ℕ) (function : Function) (block : Block) (outer : FunctionFrom f function) → slice_get function.blocks b ≡ Some block → BlockFrom f b function block outer
  block_from f b function block outer at =
      let scope = (layout_of outer.text).scope in
      let found = all_at (block_of (items_of whole) whole.functions named scope f outer.text.result_type) outer.text.blocks function.blocks b block outer.is.blocks_are at in
      record {
        text = found.0;
        at_text = found.1;
        is = block_is (items_of whole) whole.functions named scope f b outer.text.result_type found.0 block found.2;
      }

  module _ (f b : ℕ) (function : Function) (block : Block) (outer : FunctionFrom f function) (from : BlockFrom f b function block outer) where
    abbrev scope_at : Scope
    scope_at = (layout_of outer.text).scope

    pub record StepFrom (i : ℕ) (what : Instruction) : Type 0 where
      pub text : StepText
      pub at_text : slice_get from.text.steps i ≡ Some text
      pub is : instruction_of (items_of whole) whole.functions named (layout_of outer.text).scope (record { function = f; block = b; line = text.line }) text.instruction ≡ Ok what

    step_meant : (step : Step) (text : StepText) → step_of (items_of whole) whole.functions named scope_at f b text ≡ Ok step →
        instruction_of (items_of whole) whole.functions named (layout_of outer.text).scope (record { function = f; block = b; line = text.line }) text.instruction ≡ Ok step.instruction
    step_meant step text e =
        let made = made_ok _ _ step e in
        (both_ok _ _ made.0 made.1).1 ∙ ap (λ (x : Step). Ok x.instruction) made.2

    pub step_from : (i : ℕ) (step : Step) → slice_get block.steps i ≡ Some step → StepFrom i step.instruction
    step_from i step at =
        let found = all_at (λ _. step_of (items_of whole) whole.functions named scope_at f b) from.text.steps block.steps i step from.is.steps_are at in
        record { text = found.0; at_text = found.1; is = step_meant step found.0 found.2 }

    -- a step of the text means one of the program
    pub step_to : (i : ℕ) (text : StepText) → slice_get from.text.steps i ≡ Some text → (step : Step) × (slice_get block.steps i ≡ Some step) ×
        (instruction_of (items_of whole) whole.functions named (layout_of outer.text).scope (record { function = f; block = b; line = text.line }) text.instruction ≡ Ok step.instruction)
    step_to i text at =
        let found = all_to (λ _. step_of (items_of whole) whole.functions named scope_at f b) from.text.steps block.steps i text from.is.steps_are at in
        (found.0, found.1, step_meant found.0 text found.2)

    pub phi_from : (i : ℕ) (phi : Phi) → slice_get block.phis i ≡ Some phi → (text : PhiText) × (slice_get from.text.phis i ≡ Some text) × (phi_of (layout_of outer.text).scope text ≡ Ok phi)
    phi_from i phi at = all_at (λ _. phi_of scope_at) from.text.phis block.phis i phi from.is.phis_are at

    pub record EndingFrom (terminator : Terminator) : Type 0 where
      pub text : EndingText
      pub is : terminator_of (layout_of outer.text).scope text.line outer.text.result_type text.terminator ≡ Ok terminator

    pub ending_from : (ending : Ending) → block.ending ≡ Some ending → EndingFrom ending.terminator
    ending_from ending at = by from.text.ending (from.is.ending_is ∙ ap (λ (o : Option Ending). Ok o) at)
      where
        by : (o : Option EndingText) → ending_of scope_at outer.text.result_type o ≡ Ok (Some ending) → EndingFrom ending.terminator
        by None e = let none : Option Ending = None in let same : none ≡ Some ending = same_ok none (Some ending) e in absurd (cc)
        by (Some text) e =
            let some = made_ok _ _ (Some ending) e in
            let same : some.0 ≡ ending = (let s : Some some.0 ≡ Some ending = some.2 in cc) in
            let made = made_ok _ _ some.0 some.1 in
            record { text = text; is = (both_ok _ _ made.0 made.1).1 ∙ ap (λ (x : Ending). Ok x.terminator) made.2 ∙ ap (λ (x : Ending). Ok x.terminator) same }

module _ (whole : Module) (program : Program) (m : Means whole (Ok program)) where
  functions_are : functions_of (items_of whole) whole.functions m.0 ≡ Ok program.functions
  functions_are =
      let made = made_ok _ _ program m.2 in
      (both_ok _ _ made.0 made.1).1 ∙ ap (λ (p : Program). Ok p.functions) made.2

  pub function_from : (f : ℕ) (function : Function) → slice_get program.functions f ≡ Some function → FunctionFrom whole m.0 f function
  function_from f function at =
      let found = all_at (function_of (items_of whole) whole.functions m.0) whole.functions program.functions f function functions_are at in
      record { text = found.0; at_text = found.1; is = function_is (items_of whole) whole.functions m.0 f found.0 function found.2 }

  -- each function of the text means one of the program
  pub function_to : (f : ℕ) (text : FunctionText) → slice_get whole.functions f ≡ Some text → (function : Function) × (slice_get program.functions f ≡ Some function) × FunctionOf (items_of whole) whole.functions m.0 f text function
  function_to f text at =
      let found = all_to (function_of (items_of whole) whole.functions m.0) whole.functions program.functions f text functions_are at in
      (found.0, found.1, function_is (items_of whole) whole.functions m.0 f text found.0 found.2)
