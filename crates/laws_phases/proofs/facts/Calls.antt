-- Into a call its callee's `requires` hold, and out of it the `ensures`.
use Rattle.std.proofs.Common.{◌≡◌, ◌∙◌, ℕ, zero, suc, ◌+◌, ◌<◌, ◌≤◌, ℤ, pos, true, false, eq-eqb, List, [], ◌∷◌, ◌++◌, length, Option, Some, None, inl, inr, refl, sym, ap, subst, arith, slice_get, is_some, get_or}
use Rattle.std.specs.List.{All}
use Rattle.std.proofs.lemmas.Bool.{ne_eqb}
use Rattle.std.proofs.lemmas.List.Elements.{All-nil, All-head, All-tail, All-map}
use Rattle.semantics.specs.Frames.{Value, Word, Registers, Frame, set_register}
use Rattle.semantics.specs.State.{with_result}
use Rattle.linear.specs.Forms.{value, Holds}
use Rattle.linear_shown.specs.Shown.{AllHold}
use Rattle.linear.specs.declared.form.Fact.{Fact}
use Rattle.linear.specs.declared.form.RegisterId.{RegisterId}
use Rattle.linear.proofs.Values.{value_register, value_constant}
use Rattle.program.specs.declared.function.Block.{Block}
use Rattle.program.specs.declared.function.Function.{Function}
use Rattle.program.specs.declared.function.Program.{Program}
use Rattle.program.specs.declared.instruction.Argument.{Argument}
use Rattle.program.specs.declared.instruction.Argument.TheVariants as argument
use Rattle.program.specs.declared.instruction.Instruction.TheVariants as instruction
use Rattle.program.specs.declared.instruction.Operand.{Operand}
use Rattle.program.specs.declared.instruction.Operand.TheVariants.{Number, Register}
use Rattle.cfg.specs.declared.structure.Move.{Move}
use Rattle.ranges.specs.Sums.{is_met}
use Rattle.ranges.specs.Truth.{operand_value, IsTrueAt}
use Rattle.ranges.specs.ranges_owed.Inequalities.{operand_for, difference_of, argument_operand, argument_moves, result_moves, register_operand, call_moves}
use Rattle.ranges.specs.Learned.{call_sums}
use Rattle.ranges.specs.ranges_owed.Owed.{owed, call_owed, inequalities_owed}
use Rattle.laws_conditions.specs.rules.Costs.{numbers, parameters_of}
use Rattle.semantics.specs.Written.{or_zero}
use Rattle.program.specs.Heads.{parameters_in}
use Rattle.laws_conditions.specs.rules.Edges.{operand_form, argument_form, argument_forms}
use Rattle.laws_conditions.specs.rules.Moves.{number_of, Calls}
use Rattle.laws_conditions.specs.rules.Registers.{returns_number}
use Rattle.laws_conditions.proofs.rules.Edges.{arguments_word}
use Rattle.laws_phases.specs.facts.Known.{known_at_place, known_in, known_in_block, IsMet, KnownHold}
use Rattle.laws_phases.specs.facts.Owing.{IsGiven, IsTyped, IsOtherArgument, AreFactsStable}
use Rattle.ranges.specs.Rules.{AreRangesRight}
use Rattle.laws_phases.specs.facts.Kept.{with_returned, AreEnsured}
use Rattle.laws_phases.proofs.facts.Sums.{met_from_moved, moved_from_met, stated_true}
use Rattle.laws_phases.proofs.facts.Learning.{none_true}
use Rattle.laws_phases.proofs.facts.Effects.{IsLearned, set_value}
use Rattle.laws_phases.proofs.facts.Places.{BlockOf, StepAt, step_at, arrives, step_met, owed_true}
use Rattle.laws_phases.proofs.facts.Steps.{Others, operand_stays}

-- ---- arguments put in

operand_form_value : (v : ℕ → ℤ) (a : Operand) → operand_value v a ≡ value v (operand_form a)
operand_form_value v (Number z) = sym (value_constant v z)
operand_form_value v (Register x) = sym (value_register v x.0)

pub argument_form_value : (v : ℕ → ℤ) (a : Argument) → operand_value v (argument_operand a) ≡ value v (argument_form a)
argument_form_value v (argument.Number a) = operand_form_value v a
argument_form_value v (argument.Object name) = sym (value_constant v (pos 0))

-- the parameter of a number takes the argument of that number
argument_put : (v : ℕ → ℤ) (n : ℕ) (arguments : List Argument) (more : List Move) (r : RegisterId) (x : ℕ) → r.0 ≡ n + x → x < length arguments →
    operand_value v (operand_for (argument_moves n arguments ++ more) r) ≡ value v (argument_forms arguments x)
argument_put v n [] more r x e l = absurd (omega (arith, l))
argument_put v n (a ∷ arguments) more r zero e l = rw (eq-eqb n r.0 (omega (arith, e))) (argument_form_value v a)
argument_put v n (a ∷ arguments) more r (suc x) e l = rw (ne_eqb n r.0 (λ h. absurd (omega (arith, e, h)))) (argument_put v (suc n) arguments more r x (omega (arith, e)) (omega (arith, l)))

-- a register behind the parameters takes none
no_argument : (n : ℕ) (arguments : List Argument) (more : List Move) (r : RegisterId) → n + length arguments ≤ r.0 → operand_for (argument_moves n arguments ++ more) r ≡ operand_for more r
no_argument n [] more r l = refl
no_argument n (a ∷ arguments) more r l = rw (ne_eqb n r.0 (λ h. absurd (omega (arith, l, h)))) (no_argument (suc n) arguments more r (omega (arith, l)))

-- arguments that are not in the register that is set keep their values
argument_stays : (dest : Option ℕ) (r s : Registers) (a : Argument) → Others dest r s → ((d : ℕ) → dest ≡ Some d → IsOtherArgument d a) → value (numbers s) (argument_form a) ≡ value (numbers r) (argument_form a)
argument_stays dest r s (argument.Number a) others apart = sym (operand_form_value (numbers s) a) ∙ operand_stays dest r s a others apart ∙ operand_form_value (numbers r) a
argument_stays dest r s (argument.Object name) others apart = value_constant (numbers s) (pos 0) ∙ sym (value_constant (numbers r) (pos 0))

arguments_stay : (dest : Option ℕ) (r s : Registers) (arguments : List Argument) → Others dest r s → ((d : ℕ) → dest ≡ Some d → All (IsOtherArgument d) arguments) → (x : ℕ) →
    value (numbers s) (argument_forms arguments x) ≡ value (numbers r) (argument_forms arguments x)
arguments_stay dest r s [] others apart x = value_constant (numbers s) (pos 0) ∙ sym (value_constant (numbers r) (pos 0))
arguments_stay dest r s (a ∷ arguments) others apart zero = argument_stays dest r s a others (λ d is. All-head (IsOtherArgument d) a arguments (apart d is))
arguments_stay dest r s (a ∷ arguments) others apart (suc x) = arguments_stay dest r s arguments others (λ d is. All-tail (IsOtherArgument d) a arguments (apart d is)) x

module _ (prog : Program) (right : AreRangesRight prog) (typed : IsTyped prog) (stable : AreFactsStable prog) where
  -- what a call passes
  many : (f : Frame) (d : Option RegisterId) (callee : ℕ) (values : List Value) (c : Calls prog f d callee values) (function : Function) → slice_get prog.functions callee ≡ Some function → length c.arguments ≡ length function.parameters
  many f d callee values c function at =
      typed.arguments f.function f.block f.index d c.function c.arguments c.is ∙ ap (λ n. parameters_of prog n) c.number ∙ ap parameters_in at

  -- ---- into the callee

  requires_true : (f : Frame) (d : Option RegisterId) (callee : ℕ) (values : List Value) → KnownHold prog f → (c : Calls prog f d callee values) (function : Function) → slice_get prog.functions callee ≡ Some function →
      All (λ q. IsTrueAt (numbers f.registers) (difference_of (argument_moves 0 c.arguments) q)) function.requirements
  requires_true f d callee values good c function at =
      let place : StepAt prog f.function f.block f.index (instruction.Call d c.function c.arguments) = step_at prog f.function f.block f.index (instruction.Call d c.function c.arguments) c.is in
      let known : List Fact = known_at_place prog f.function f.block f.index in
      let is_owed : owed prog place.of.function place.step.instruction ≡ inequalities_owed 506 (argument_moves 0 c.arguments) function.requirements =
      ap (owed prog place.of.function) place.is ∙ ap (λ o. call_owed o c.arguments) (ap (slice_get prog.functions) c.number ∙ at) in
      let all : All (λ y. is_met known y ≡ true) (inequalities_owed 506 (argument_moves 0 c.arguments) function.requirements) =
      subst (All (λ y. is_met known y ≡ true)) is_owed (step_met prog right f.function f.block place.of f.index place.step place.at_step) in
      owed_true known 506 (argument_moves 0 c.arguments) function.requirements all (numbers f.registers) good.facts

  pub enters_callee : (f : Frame) (d : Option RegisterId) (callee : ℕ) (values : List Value) → KnownHold prog f → Calls prog f d callee values → AllHold (numbers (slice_get values)) (known_at_place prog callee 0 0)
  enters_callee f d callee values good c = from (slice_get prog.functions callee) refl
    where
      nothing_known : known_at_place prog callee 0 0 ≡ [] → AllHold (numbers (slice_get values)) (known_at_place prog callee 0 0)
      nothing_known e = subst (AllHold (numbers (slice_get values))) (sym e) (All-nil (λ (g : Fact). Holds (numbers (slice_get values)) g.form))

      at_entry : (function : Function) → slice_get prog.functions callee ≡ Some function → (o : Option Block) → slice_get function.blocks 0 ≡ o → AllHold (numbers (slice_get values)) (known_at_place prog callee 0 0)
      at_entry function at None is = nothing_known (ap (λ x. known_in prog.functions x 0 0) at ∙ ap (λ x. known_in_block prog.functions function 0 x 0) is)
      at_entry function at (Some k) is =
          let sums = requires_true f d callee values good c function at in
          let over = typed.requirements callee function at in
          let size = many f d callee values c function at in
          let put : (r : RegisterId) → r.0 < length function.parameters → operand_value (numbers f.registers) (operand_for (argument_moves 0 c.arguments) r) ≡ numbers (slice_get values) r.0 =
          λ r l.
          subst (λ ms. operand_value (numbers f.registers) (operand_for ms r) ≡ numbers (slice_get values) r.0) (append_nothing (argument_moves 0 c.arguments))
          (argument_put (numbers f.registers) 0 c.arguments [] r r.0 (omega arith) (omega (arith, l, size)) ∙ sym (arguments_word f c.arguments values c.values_are r.0)) in
          let all : All (IsMet (numbers (slice_get values))) function.requirements =
          λ i q l. met_from_moved (numbers f.registers) (numbers (slice_get values)) (argument_moves 0 c.arguments) (get_or function.requirements i q)
          (λ j t m. put _ ((over i q l).low j t m)) (λ j t m. put _ ((over i q l).high j t m)) (sums i q l) in
          let o : BlockOf prog callee 0 = record { function = function; block = k; at_function = at; at_block = is } in
          arrives prog right callee 0 o (numbers (slice_get values)) 0 (stated_true (numbers (slice_get values)) function.requirements all)
        where
          append_nothing : (ms : List Move) → ms ++ [] ≡ ms
          append_nothing [] = refl
          append_nothing (m ∷ ms) = ap (λ rest. m ∷ rest) (append_nothing ms)

      from : (o : Option Function) → slice_get prog.functions callee ≡ o → AllHold (numbers (slice_get values)) (known_at_place prog callee 0 0)
      from None is = nothing_known (ap (λ x. known_in prog.functions x 0 0) is)
      from (Some function) is = at_entry function is (slice_get function.blocks 0) refl

  -- ---- behind the call

  result_others : (r : Registers) (d : Option RegisterId) (result : Option ℤ) → Others (number_of d) r (with_result r d result)
  result_others r None result x apart = refl
  result_others r (Some d) None x apart = refl
  result_others r (Some d) (Some z) x apart = rw (ne_eqb d.0 x (λ e. apart (ap (λ n. Some n) e))) refl

  result_operand : (function : Function) (a : Operand) (r : RegisterId) → r.0 ≡ length function.registers → operand_for (result_moves function (Some a)) r ≡ a
  result_operand function a r e = rw (eq-eqb (length function.registers) r.0 (sym e)) refl

  -- the result's register takes the result
  result_put : (function : Function) (arguments : List Argument) (registers : Registers) (d : Option RegisterId) (result : Option ℤ) (r : RegisterId) → length arguments ≤ length function.registers → r.0 ≡ length function.registers → is_some d ≡ true → is_some result ≡ true →
      operand_value (numbers (with_result registers d result)) (operand_for (call_moves function arguments d) r) ≡ or_zero result
  result_put function arguments registers None result r l e here there = absurd (let h : false ≡ true = here in cc)
  result_put function arguments registers (Some d) None r l e here there = absurd (let h : false ≡ true = there in cc)
  result_put function arguments registers (Some d) (Some z) r l e here there =
      ap (operand_value (numbers (set_register registers d (Word z))))
      (no_argument 0 arguments (result_moves function (Some (Register d))) r (omega (arith, l, e)) ∙ result_operand function (Register d) r e)
      ∙ set_value registers d z

  returned_parameter : (function : Function) (v : ℕ → ℤ) (result : Option ℤ) (x : ℕ) → x < length function.registers → with_returned function v result x ≡ v x
  returned_parameter function v result x l = rw (ne_eqb x (length function.registers) (λ e. absurd (omega (arith, l, e)))) refl

  returned_result : (function : Function) (v : ℕ → ℤ) (result : Option ℤ) (x : ℕ) → x ≡ length function.registers → with_returned function v result x ≡ or_zero result
  returned_result function v result x e = rw (eq-eqb x (length function.registers) e) refl

  ensured_true : (f : Frame) (d : Option RegisterId) (callee : ℕ) (values : List Value) (result : Option ℤ) (c : Calls prog f d callee values) → (returns_number prog callee ≡ true → is_some result ≡ true) → (o : Option Function) → slice_get prog.functions callee ≡ o →
      AreEnsured o (slice_get values) result → All (IsTrueAt (numbers (with_result f.registers d result))) (call_sums o c.arguments d)
  ensured_true f d callee values result c number None at ensured = none_true (numbers (with_result f.registers d result))
  ensured_true f d callee values result c number (Some function) at ensured =
      let size = many f d callee values c function at in
      let fewer = typed.parameters callee function at in
      let gives : returns_number prog callee ≡ is_some d = ap (λ n. returns_number prog n) (sym c.number) ∙ typed.results f.function f.block f.index d c.function c.arguments c.is in
      let w : ℕ → ℤ = numbers (with_result f.registers d result) in
      let u : ℕ → ℤ = with_returned function (numbers (slice_get values)) result in
      let avoid : (e : ℕ) → number_of d ≡ Some e → All (IsOtherArgument e) c.arguments = λ e is. (stable.steps f.function f.block f.index (instruction.Call d c.function c.arguments) e c.is is).operands in
      let put : (r : RegisterId) → IsGiven prog callee function r.0 → operand_value w (operand_for (call_moves function c.arguments d) r) ≡ u r.0 =
      λ r given. elim given [
        | inl l ↦
            argument_put w 0 c.arguments (result_moves function (register_operand d)) r r.0 (omega arith) (omega (arith, l, size))
            ∙ arguments_stay (number_of d) f.registers (with_result f.registers d result) c.arguments (result_others f.registers d result) avoid r.0
            ∙ sym (arguments_word f c.arguments values c.values_are r.0)
            ∙ sym (returned_parameter function (numbers (slice_get values)) result r.0 (omega (arith, l, fewer)))
        | inr h ↦
            result_put function c.arguments f.registers d result r (omega (arith, size, fewer)) h.0 (sym gives ∙ h.1) (number h.1)
            ∙ sym (returned_result function (numbers (slice_get values)) result r.0 h.0)
      ] in
      All-map (IsTrueAt w) (difference_of (call_moves function c.arguments d)) function.guarantees
      (λ i q l. moved_from_met w u (call_moves function c.arguments d) (get_or function.guarantees i q)
      (λ j t m. put _ ((typed.guarantees callee function at i q l).low j t m)) (λ j t m. put _ ((typed.guarantees callee function at i q l).high j t m)) (ensured i q l))

  pub learned_from_call : (f : Frame) (d : Option RegisterId) (callee : ℕ) (values : List Value) (result : Option ℤ) (known : List Fact) (c : Calls prog f d callee values) → (returns_number prog callee ≡ true → is_some result ≡ true) →
      AreEnsured (slice_get prog.functions callee) (slice_get values) result → IsLearned prog.functions known (instruction.Call d c.function c.arguments) (with_result f.registers d result)
  learned_from_call f d callee values result known c number ensured = record {
    sums =
        subst (λ n. All (IsTrueAt (numbers (with_result f.registers d result))) (call_sums (slice_get prog.functions n) c.arguments d)) (sym c.number)
        (ensured_true f d callee values result c number (slice_get prog.functions callee) refl ensured);
    test = tt;
  }

  pub call_others : (f : Frame) (d : Option RegisterId) (result : Option ℤ) → Others (number_of d) f.registers (with_result f.registers d result)
  call_others f d result = result_others f.registers d result
