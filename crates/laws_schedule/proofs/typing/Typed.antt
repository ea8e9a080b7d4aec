-- What the rules on names and types give the laws on facts.
use Rattle.std.proofs.Common.{◌≡◌, inl, inr, ℕ, ◌<◌, ◌≤◌, true, List, length, Option, Some, None, refl, sym, ap, ◌∙◌, arith, Ok}
use Rattle.std.specs.Prelude.{slice_get}
use Rattle.std.specs.List.{All}
use Rattle.std.proofs.lemmas.List.{length-map}
use Rattle.std.proofs.lemmas.List.Elements.{All-nil, All-weaker}
use Rattle.linear.specs.declared.form.RegisterId.{RegisterId}
use Rattle.linear.specs.declared.form.Term.{Term}
use Rattle.semantics.specs.Frames.{Does, item_at}
use Rattle.program.specs.declared.annotation.Inequality.{Inequality}
use Rattle.program.specs.declared.function.Function.{Function}
use Rattle.program.specs.declared.function.Program.{Program}
use Rattle.program.specs.declared.identifier.FunctionId.{FunctionId}
use Rattle.program.specs.declared.instruction.Argument.{Argument}
use Rattle.program.specs.declared.instruction.Instruction.TheVariants as instruction
use Rattle.syntax.specs.declared.module.Module.{Module}
use Rattle.syntax.specs.declared.module.ResultType.{ResultType}
use Rattle.syntax.specs.declared.module.ResultType.TheVariants.{Number, Void}
use Rattle.laws_phases.specs.cfg.Rules.{IsGraphRight}
use Rattle.laws_phases.specs.region_match.Matched.{AreRegionsRight}
use Rattle.types.specs.names.Layout.{layout_of}
use Rattle.types.specs.Call.{parameter_of}
use Rattle.types.specs.Function.{result_register}
use Rattle.types.specs.Meaning.{Means}
use Rattle.laws_conditions.specs.rules.Costs.{parameters_of, measure_in, measure_of}
use Rattle.program.specs.Heads.{parameters_in}
use Rattle.laws_conditions.specs.rules.Registers.{is_number, gives_number, returns_number}
use Rattle.laws_phases.specs.defined.Names.{NamesOnly}
use Rattle.laws_phases.specs.defined.Known.{IsPut, NamesParameters}
use Rattle.laws_phases.specs.facts.Owing.{IsGiven, IsTyped}
use Rattle.laws_schedule.proofs.typing.Lists.{all_each}
use Rattle.laws_schedule.proofs.typing.Parts.{FunctionFrom, function_from}
use Rattle.laws_schedule.proofs.typing.Scoping.{layout_right}
use Rattle.laws_schedule.proofs.typing.Ends.{returns}
use Rattle.laws_schedule.proofs.typing.Calls.{arguments, results}
use Rattle.laws_schedule.proofs.typing.Entry.{no_entry, forks}
use Rattle.laws_schedule.proofs.typing.Forms.{Over, IsParameterOr, requirements_over, guarantees_over, measure_over}

-- the register of a result stands behind the others, where a function gives a number
result_behind : (result : ResultType) (n r : ℕ) (id : RegisterId) → result_register result n ≡ Some id → id.0 ≡ r → (r ≡ n) × (is_number result ≡ true)
result_behind Number n r id e same =
    let one : RegisterId = record { 0 = n } in
    let is : one ≡ id = cc in
    (sym (ap (λ (x : RegisterId). x.0) is ∙ same), refl)
result_behind Void n r id e same = absurd (cc)

over_weaker : (P Q : ℕ → Type 0) (ts : List Term) → ((r : ℕ) → P r → Q r) → Over P ts → Over Q ts
over_weaker P Q ts weaker h = All-weaker (λ (t : Term). P t.register.0) (λ (t : Term). Q t.register.0) (λ t p. weaker t.register.0 p) ts h

module _ (whole : Module) (program : Program) (m : Means whole (Ok program)) (f : ℕ) (function : Function) (at : slice_get program.functions f ≡ Some function) where
  outer : FunctionFrom whole m.0 f function
  outer = function_from whole program m f function at

  parameter_count : length function.parameters ≡ length outer.text.parameters
  parameter_count = ap length (sym outer.is.parameters_are) ∙ length-map outer.text.parameters parameter_of

  register_count : length function.registers ≡ length (layout_of outer.text).registers
  register_count = ap length (sym outer.is.registers_are)

  gives : returns_number program f ≡ is_number outer.text.result_type
  gives = ap gives_number at ∙ ap is_number (sym outer.is.result_is)

  pub parameters_first : length function.parameters ≤ length function.registers
  parameters_first =
      let p : length outer.text.parameters ≤ length (layout_of outer.text).registers = (layout_right outer.text).past in
      let n : length function.parameters ≡ length outer.text.parameters = parameter_count in
      let k : length function.registers ≡ length (layout_of outer.text).registers = register_count in
      omega arith

  own_parameter : (r : ℕ) → r < length outer.text.parameters → r < length function.parameters
  own_parameter r l = let n : length function.parameters ≡ length outer.text.parameters = parameter_count in omega arith

  pub requires : (i : ℕ) (q : Inequality) → slice_get function.requirements i ≡ Some q → Over (λ r. r < length function.parameters) q.low.terms × Over (λ r. r < length function.parameters) q.high.terms
  requires i q e =
      let h = requirements_over outer.text function.requirements outer.is.requirements_are i q e in
      let P : ℕ → Type 0 = λ r. r < length outer.text.parameters in
      let Q : ℕ → Type 0 = λ r. r < length function.parameters in
      (over_weaker P Q q.low.terms own_parameter h.0, over_weaker P Q q.high.terms own_parameter h.1)

  given_register : (r : ℕ) → IsParameterOr outer.text (result_register outer.text.result_type (length (layout_of outer.text).registers)) r → IsGiven program f function r
  given_register r (inl l) = inl (own_parameter r l)
  given_register r (inr (id, is, same)) =
      let h = result_behind outer.text.result_type (length (layout_of outer.text).registers) r id is same in
      inr (h.0 ∙ sym register_count, gives ∙ h.1)

  pub ensures_given : (i : ℕ) (q : Inequality) → slice_get function.guarantees i ≡ Some q → Over (IsGiven program f function) q.low.terms × Over (IsGiven program f function) q.high.terms
  ensures_given i q e =
      let outcome = result_register outer.text.result_type (length (layout_of outer.text).registers) in
      let h = guarantees_over outer.text outcome function.guarantees outer.is.guarantees_are i q e in
      let P : ℕ → Type 0 = λ r. IsParameterOr outer.text outcome r in
      let Q : ℕ → Type 0 = λ r. IsGiven program f function r in
      (over_weaker P Q q.low.terms given_register h.0, over_weaker P Q q.high.terms given_register h.1)

  -- a measure names parameters
  pub measured : Over (λ r. r < length function.parameters) function.measure.form.terms
  measured =
      let P : ℕ → Type 0 = λ r. r < length outer.text.parameters in
      let Q : ℕ → Type 0 = λ r. r < length function.parameters in
      over_weaker P Q function.measure.form.terms own_parameter (measure_over outer.text function.measure outer.is.measure_is)

module _ (whole : Module) (program : Program) (m : Means whole (Ok program)) where
  pub measures : (f : ℕ) → All (λ (t : Term). t.register.0 < parameters_of program f) (measure_of program f).terms
  measures f = from (slice_get program.functions f) refl
    where
      from : (o : Option Function) → slice_get program.functions f ≡ o → All (λ (t : Term). t.register.0 < parameters_in o) (measure_in o).terms
      from None is = All-nil (λ (t : Term). t.register.0 < 0)
      from (Some function) is = measured whole program m f function is

  pub typed : IsGraphRight program → AreRegionsRight program → IsTyped program
  typed right regions = record {
    parameters = parameters_first whole program m;
    requirements = λ f function at. all_each (NamesOnly (λ r. r < length function.parameters)) function.requirements (λ i q e. let h = requires whole program m f function at i q e in record { low = h.0; high = h.1 });
    guarantees = λ f function at. all_each (NamesOnly (IsGiven program f function)) function.guarantees (λ i q e. let h = ensures_given whole program m f function at i q e in record { low = h.0; high = h.1 });
    arguments = arguments whole program m;
    results = results whole program m;
    returns = returns whole program m;
    entry = no_entry whole program m right;
    forks = forks whole program m right regions;
  }

  -- at a call the arguments stand for the parameters, and its register for the result
  put_register : (f b i : ℕ) (d : Option RegisterId) (g : FunctionId) (given : List Argument) (callee : Function) → item_at program f b i ≡ Some (Does (instruction.Call d g given)) → slice_get program.functions g.0 ≡ Some callee →
      (r : ℕ) → IsGiven program g.0 callee r → IsPut callee given d r
  put_register f b i d g given callee e at r (inl l) =
      let n : length given ≡ parameters_of program g.0 = arguments whole program m f b i d g given e in
      let k : parameters_of program g.0 ≡ length callee.parameters = ap parameters_in at in
      inl (omega arith)
  put_register f b i d g given callee e at r (inr h) = inr (h.0, sym (results whole program m f b i d g given e) ∙ h.1)

  pub names_parameters : NamesParameters program
  names_parameters = record {
    requirements = λ f function at. all_each (NamesOnly (λ r. r < length function.parameters)) function.requirements (λ i q e. let h = requires whole program m f function at i q e in record { low = h.0; high = h.1 });
    guarantees = λ f b i d g given callee e at. all_each (NamesOnly (IsPut callee given d)) callee.guarantees (λ k q here.
        let h = ensures_given whole program m g.0 callee at k q here in
        let P : ℕ → Type 0 = λ r. IsGiven program g.0 callee r in
        let Q : ℕ → Type 0 = λ r. IsPut callee given d r in
        record { low = over_weaker P Q q.low.terms (put_register f b i d g given callee e at) h.0; high = over_weaker P Q q.high.terms (put_register f b i d g given callee e at) h.1 });
  }
