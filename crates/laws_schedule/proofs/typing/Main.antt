-- The function at which a run begins is there, and gives a number.
use Rattle.std.proofs.Common.{◌≡◌, ◌<◌, true, List, length, Option, Some, None, is_some, refl, sym, ap, ◌∙◌, subst, arith, Ok}
use Rattle.std.specs.Prelude.{slice_get, codes}
use Rattle.std.specs.List.{list_all}
use Rattle.semantics.specs.Frames.{block_at}
use Rattle.program.specs.declared.function.Program.{Program}
use Rattle.program.specs.declared.identifier.FunctionId.{FunctionId}
use Rattle.syntax.specs.declared.module.Function.{Function as FunctionText}
use Rattle.syntax.specs.declared.module.Module.{Module}
use Rattle.syntax.specs.declared.module.Parameter.{Parameter as ParameterText}
use Rattle.syntax.specs.declared.module.ResultType.{ResultType}
use Rattle.syntax.specs.declared.module.ResultType.TheVariants.{Number, Void}
use Rattle.ir_reader.specs.Kept.{IsKeptModule}
use Rattle.types.specs.declared.names.item.Item.{Item}
use Rattle.types.specs.declared.names.item.Item.TheVariants as item
use Rattle.types.specs.names.Fault.{breaks, unless_of}
use Rattle.types.specs.names.Item.{items_of}
use Rattle.types.specs.names.Table.{look_up}
use Rattle.types.proofs.names.Inversion.{made_ok, both_ok, unless_ok, err_not_ok}
use Rattle.types.specs.Meaning.{main_form, as_main, found_main, Means, is_number as takes_number}
use Rattle.laws_conditions.specs.rules.Registers.{is_number, gives_number, returns_number}
use Rattle.laws_schedule.proofs.typing.Parts.{function_to}
use Rattle.verifier.proofs.Lists.{all_count}
use Rattle.laws_schedule.proofs.typing.Lists.{there}
use Rattle.laws_schedule.proofs.typing.Registers.{kept_function}

pub record MainText (functions : List FunctionText) (id : FunctionId) : Type 0 where
  pub text : FunctionText
  pub at : slice_get functions id.0 ≡ Some text
  pub number : is_number text.result_type ≡ true
  pub numbers : list_all takes_number text.parameters ≡ true

form_numbers : (result : ResultType) (parameters : List ParameterText) → main_form result parameters ≡ true → list_all takes_number parameters ≡ true
form_numbers Number parameters h = h
form_numbers Void parameters h = absurd (cc)

form_number : (result : ResultType) (parameters : List ParameterText) → main_form result parameters ≡ true → is_number result ≡ true
form_number Number parameters h = refl
form_number Void parameters h = absurd (cc)

module _ (functions : List FunctionText) (id : FunctionId) where
  as_text : (found : FunctionId) (o : Option FunctionText) → slice_get functions found.0 ≡ o → as_main found o ≡ Ok id → MainText functions id
  as_text found None at e = absurd (err_not_ok _ id e)
  as_text found (Some text) at e =
      let made = made_ok (λ (u : Unit {0}). found) (unless_of (main_form text.result_type text.parameters) (breaks 202 text.line)) id e in
      let P : FunctionId → Type 0 = λ x. MainText functions x in
      subst P made.2 (record { text = text; at = at; number = form_number text.result_type text.parameters (unless_ok _ _ made.0 made.1); numbers = form_numbers text.result_type text.parameters (unless_ok _ _ made.0 made.1) })

  main_text : (o : Option Item) → found_main functions o ≡ Ok id → MainText functions id
  main_text None e = absurd (err_not_ok _ id e)
  main_text (Some (item.Global other cells)) e = absurd (err_not_ok _ id e)
  main_text (Some (item.Function found)) e = as_text found (slice_get functions found.0) refl e

module _ (whole : Module) (kept : IsKeptModule whole) (program : Program) (m : Means whole (Ok program)) where
  pub main_at : MainText whole.functions program.main
  main_at =
      let made = made_ok _ _ program m.2 in
      let P : FunctionId → Type 0 = λ x. MainText whole.functions x in
      let same : made.0.0 ≡ program.main = ap (λ (p : Program). p.main) made.2 in
      subst P same (main_text whole.functions made.0.0 (look_up (items_of whole) (codes "main")) (both_ok _ _ made.0 made.1).0)

  pub main_there : (is_some (block_at program program.main.0 0) ≡ true) × (returns_number program program.main.0 ≡ true)
  main_there =
      let text = main_at.text in
      let function = function_to whole program m program.main.0 text main_at.at in
      let l : 0 < length text.blocks = (kept_function whole kept program.main.0 text main_at.at).some in
      let n : length function.0.blocks ≡ length text.blocks = all_count _ text.blocks function.0.blocks function.2.blocks_are in
      (rw function.1 (there function.0.blocks 0 (omega arith)), ap gives_number function.1 ∙ ap is_number (sym function.2.result_is) ∙ main_at.number)
