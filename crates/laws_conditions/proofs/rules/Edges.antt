-- Forms on the far side of an edge or call have the value of the forms put in on the near side.
use Rattle.std.proofs.Common.{◌≡◌, ℕ, zero, suc, List, [], ◌∷◌, Option, Some, None, cond, eqb, Bool, true, false, refl, sym, ap, ◌∙◌, slice_get, ℤ, pos}
use Rattle.semantics.specs.Frames.{Value, Word, Pointer, Registers, Frame, word_of, word_at, object_at, set_register, and_then, phis_at}
use Rattle.semantics.specs.Cells.{Object}
use Rattle.semantics.specs.Written.{or_zero}
use Rattle.semantics.specs.Effect.{phi_value, with_phis, registers_along, argument_value, argument_values}
use Rattle.program.specs.Phis.{entry_for}
use Rattle.linear.specs.Forms.{register_form, value, put}
use Rattle.linear.specs.Terms.{Combination}
use Rattle.linear.proofs.Values.{value_constant, value_register, value_put}
use Rattle.program.specs.declared.function.Program.{Program}
use Rattle.program.specs.declared.instruction.Argument.{Argument}
use Rattle.program.specs.declared.instruction.Argument.TheVariants as argument
use Rattle.program.specs.declared.instruction.Operand.{Operand}
use Rattle.program.specs.declared.instruction.Operand.TheVariants.{Number, Register}
use Rattle.program.specs.declared.instruction.Phi.{Phi}
use Rattle.laws_conditions.specs.rules.Costs.{numbers}
use Rattle.laws_conditions.specs.rules.Edges.{operand_form, entry_form, phi_forms, edge_forms, argument_form, argument_forms}

-- an operand with a value has its form's
pub operand_value : (r : Registers) (a : Operand) (z : ℤ) → word_at r a ≡ Some z → value (numbers r) (operand_form a) ≡ z
operand_value r (Number y) z e = value_constant (numbers r) y ∙ (let same : y ≡ z = cc in same)
operand_value r (Register x) z e = value_register (numbers r) x.0 ∙ ap or_zero e

entry_value : (r : Registers) (o : Option Operand) (z : ℤ) → and_then o (word_at r) ≡ Some z → value (numbers r) (entry_form o) ≡ z
entry_value r None z e = absurd (cc)
entry_value r (Some a) z e = operand_value r a z e

-- so far as the registers have the forms' values they still do with one more phi
one_phi : (before r : Registers) (d : ℕ) (forms : ℕ → Combination) (form : Combination) (z : ℤ) → ((x : ℕ) → numbers r x ≡ value (numbers before) (forms x)) → value (numbers before) form ≡ z → (x : ℕ) (b : Bool) → eqb d x ≡ b →
    or_zero (word_of (cond b (Some (Word z)) (r x))) ≡ value (numbers before) (cond b form (forms x))
one_phi before r d forms form z same is x true e = sym is
one_phi before r d forms form z same is x false e = same x

phis_value : (before : Registers) (from : ℕ) (phis : List Phi) (r s : Registers) (forms : ℕ → Combination) → ((x : ℕ) → numbers r x ≡ value (numbers before) (forms x)) → with_phis before from phis r ≡ Some s →
    (x : ℕ) → numbers s x ≡ value (numbers before) (phi_forms from phis forms x)
phis_value before from [] r s forms same e x = let is : r ≡ s = cc in sym (ap (λ (u : Registers). numbers u x) is) ∙ same x
phis_value before from (phi ∷ phis) r s forms same e x =
    by_value (phi_value before from phi) refl e
    (λ z is h. phis_value before from phis (set_register r phi.register (Word z)) s (λ y. cond (eqb phi.register.0 y) (entry_form (entry_for from phi.entries)) (forms y))
    (λ y. one_phi before r phi.register.0 forms (entry_form (entry_for from phi.entries)) z same (entry_value before (entry_for from phi.entries) z is) y (eqb phi.register.0 y) refl) h x)
  where
    by_value : (o : Option ℤ) → phi_value before from phi ≡ o → and_then o (λ z. with_phis before from phis (set_register r phi.register (Word z))) ≡ Some s →
        ((z : ℤ) → phi_value before from phi ≡ Some z → with_phis before from phis (set_register r phi.register (Word z)) ≡ Some s → numbers s x ≡ value (numbers before) (phi_forms from (phi ∷ phis) forms x)) →
        numbers s x ≡ value (numbers before) (phi_forms from (phi ∷ phis) forms x)
    by_value None is h rest = absurd (cc)
    by_value (Some z) is h rest = rest z is h

-- along an edge
pub along_value : (prog : Program) (f : Frame) (target : ℕ) (s : Registers) (form : Combination) → registers_along prog f target ≡ Some s → value (numbers s) form ≡ value (numbers f.registers) (put (edge_forms prog f.function f.block target) form)
along_value prog f target s form along =
    ap (λ v. value v form) (λ i x. phis_value f.registers f.block (phis_at prog f.function target) f.registers s register_form (λ y. sym (value_register (numbers f.registers) y)) along x i)
    ∙ sym (value_put (numbers f.registers) (edge_forms prog f.function f.block target) form)

-- ---- into a call

argument_word : (f : Frame) (a : Argument) (v : Value) → argument_value f a ≡ Some v → or_zero (word_of (Some v)) ≡ value (numbers f.registers) (argument_form a)
argument_word f (argument.Number a) v e = from (word_at f.registers a) refl e
  where
    from : (o : Option ℤ) → word_at f.registers a ≡ o → and_then o (λ z. Some (Word z)) ≡ Some v → or_zero (word_of (Some v)) ≡ value (numbers f.registers) (operand_form a)
    from None is h = absurd (cc)
    from (Some z) is h = let same : Word z ≡ v = cc in sym (ap (λ y. or_zero (word_of (Some y))) same) ∙ sym (operand_value f.registers a z is)
argument_word f (argument.Object name) v e = from (object_at f name) e
  where
    from : (o : Option Object) → and_then o (λ x. Some (Pointer (record { object = x; index = 0 }))) ≡ Some v → or_zero (word_of (Some v)) ≡ value (numbers f.registers) (argument_form (argument.Object name))
    from None h = absurd (cc)
    from (Some x) h = let same : Pointer (record { object = x; index = 0 }) ≡ v = cc in sym (ap (λ y. or_zero (word_of (Some y))) same) ∙ sym (value_constant (numbers f.registers) (pos 0))

pub arguments_word : (f : Frame) (arguments : List Argument) (vs : List Value) → argument_values f arguments ≡ Some vs → (x : ℕ) → numbers (slice_get vs) x ≡ value (numbers f.registers) (argument_forms arguments x)
arguments_word f [] vs e x = let none : [] ≡ vs = cc in sym (ap (λ (u : List Value). numbers (slice_get u) x) none) ∙ sym (value_constant (numbers f.registers) (pos 0))
arguments_word f (a ∷ more) vs e x =
    by_first (argument_value f a) refl e (λ us is. arguments_word f more us is)
  where
    by_index : (v : Value) (us : List Value) → argument_value f a ≡ Some v → ((y : ℕ) → numbers (slice_get us) y ≡ value (numbers f.registers) (argument_forms more y)) → (y : ℕ) → numbers (slice_get (v ∷ us)) y ≡ value (numbers f.registers) (argument_forms (a ∷ more) y)
    by_index v us is rest zero = argument_word f a v is
    by_index v us is rest (suc y) = rest y

    by_rest : (v : Value) → argument_value f a ≡ Some v → (o : Option (List Value)) → argument_values f more ≡ o → and_then o (λ us. Some (v ∷ us)) ≡ Some vs →
        ((us : List Value) → argument_values f more ≡ Some us → (y : ℕ) → numbers (slice_get us) y ≡ value (numbers f.registers) (argument_forms more y)) → numbers (slice_get vs) x ≡ value (numbers f.registers) (argument_forms (a ∷ more) x)
    by_rest v is None is2 h rest = absurd (cc)
    by_rest v is (Some us) is2 h rest = let same : v ∷ us ≡ vs = cc in sym (ap (λ (u : List Value). numbers (slice_get u) x) same) ∙ by_index v us is (rest us is2) x

    by_first : (o : Option Value) → argument_value f a ≡ o → and_then o (λ v. and_then (argument_values f more) (λ us. Some (v ∷ us))) ≡ Some vs →
        ((us : List Value) → argument_values f more ≡ Some us → (y : ℕ) → numbers (slice_get us) y ≡ value (numbers f.registers) (argument_forms more y)) → numbers (slice_get vs) x ≡ value (numbers f.registers) (argument_forms (a ∷ more) x)
    by_first None is h rest = absurd (cc)
    by_first (Some v) is h rest = by_rest v is (argument_values f more) refl h rest

pub called_value : (f : Frame) (arguments : List Argument) (vs : List Value) (form : Combination) → argument_values f arguments ≡ Some vs → value (numbers (slice_get vs)) form ≡ value (numbers f.registers) (put (argument_forms arguments) form)
called_value f arguments vs form is = ap (λ v. value v form) (λ i x. arguments_word f arguments vs is x i) ∙ sym (value_put (numbers f.registers) (argument_forms arguments) form)
