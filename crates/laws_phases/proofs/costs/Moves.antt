-- What moves put in for registers says the same as the forms of phis and arguments.
use Rattle.std.proofs.Common.{◌≡◌, ◌∙◌, ℕ, zero, suc, ◌+◌, ◌<◌, ℤ, true, cond, eqb, List, [], ◌∷◌, length, Option, Some, None, is_some, ◌≢◌, inl, inr, refl, sym, ap, subst, arith, eq-eqb}
use Rattle.std.specs.List.{All, cons_option}
use Rattle.std.specs.Option.{option_map}
use Rattle.std.proofs.lemmas.Bool.{ne_eqb, false≢true}
use Rattle.std.proofs.lemmas.Bool.Decides.{eqb_tells}
use Rattle.std.proofs.lemmas.List.Elements.{All-head, All-tail}
use Rattle.program.specs.Phis.{entry_for}
use Rattle.linear.specs.declared.form.RegisterId.{RegisterId}
use Rattle.linear.specs.Forms.{register_form, value}
use Rattle.linear.specs.Terms.{Combination}
use Rattle.linear.proofs.Values.{value_constant, value_register}
use Rattle.program.specs.declared.instruction.Argument.{Argument}
use Rattle.program.specs.declared.instruction.Operand.{Operand}
use Rattle.program.specs.declared.instruction.Operand.TheVariants.{Number, Register}
use Rattle.program.specs.declared.instruction.Phi.{Phi}
use Rattle.cfg.specs.Edges.{moves_from}
use Rattle.ranges.specs.ranges_owed.Inequalities.{operand_for, argument_operand, argument_moves}
use Rattle.ranges.specs.Truth.{operand_value}
use Rattle.laws_conditions.specs.rules.Edges.{operand_form, entry_form, phi_forms, argument_forms}
use Rattle.laws_phases.specs.facts.Owing.{AreApart}
use Rattle.laws_phases.proofs.facts.Edges.{moved_or, moved_or_is, moved_or_same, not_moved}
use Rattle.laws_phases.proofs.facts.Calls.{argument_form_value}

operand_is : (v : ℕ → ℤ) (a : Operand) → value v (operand_form a) ≡ operand_value v a
operand_is v (Number z) = value_constant v z
operand_is v (Register x) = value_register v x.0

-- ---- phis

-- each phi has an entry for the block
abbrev pub HaveEntries : ℕ → List Phi → Type 0
HaveEntries from phis = All (λ phi. is_some (entry_for from phi.entries) ≡ true) phis

module _ (v : ℕ → ℤ) (from : ℕ) where
  -- a phi's value, where no later phi is of its register
  one_put : (phi : Phi) (phis : List Phi) (forms : ℕ → Combination) (a : Operand) (form : Combination) (x : ℕ) → All (λ other. other.register.0 ≢ phi.register.0) phis → value v form ≡ operand_value v a →
      moved_or (moves_from from phis) v (λ y. value v (cond (eqb phi.register.0 y) form (forms y))) x ≡ moved_or (record { register = phi.register; value = a } ∷ moves_from from phis) v (λ y. value v (forms y)) x
  one_put phi phis forms a form x apart same = elim (eqb_tells phi.register.0 x) [
    | inl e ↦
        let w : ℕ → ℤ = λ y. value v (cond (eqb phi.register.0 y) form (forms y)) in
        let stays : moved_or (moves_from from phis) v w x ≡ w x = subst (λ n. moved_or (moves_from from phis) v w n ≡ w n) e.1 (not_moved from phis v w phi.register.0 apart) in
        let here : w x ≡ operand_value v a = ap (λ b. value v (cond b form (forms x))) e.0 ∙ same in
        stays ∙ here ∙ sym (ap (λ b. cond b (operand_value v a) (moved_or (moves_from from phis) v (λ y. value v (forms y)) x)) e.0)
    | inr e ↦
        moved_or_same (moves_from from phis) v (λ y. value v (cond (eqb phi.register.0 y) form (forms y))) (λ y. value v (forms y)) x (ap (λ b. value v (cond b form (forms x))) e.0)
        ∙ sym (ap (λ b. cond b (operand_value v a) (moved_or (moves_from from phis) v (λ y. value v (forms y)) x)) e.0)
  ]

  phis_put : (phis : List Phi) (forms : ℕ → Combination) → AreApart phis → HaveEntries from phis → (x : ℕ) → value v (phi_forms from phis forms x) ≡ moved_or (moves_from from phis) v (λ y. value v (forms y)) x
  phis_put [] forms apart there x = refl
  phis_put (phi ∷ phis) forms apart there x =
      by (entry_for from phi.entries) refl (All-head (λ (p : Phi). is_some (entry_for from p.entries) ≡ true) phi phis there)
      (phis_put phis (λ y. cond (eqb phi.register.0 y) (entry_form (entry_for from phi.entries)) (forms y)) apart.1 (All-tail (λ (p : Phi). is_some (entry_for from p.entries) ≡ true) phi phis there) x)
    where
      by : (o : Option Operand) → entry_for from phi.entries ≡ o → is_some o ≡ true →
          value v (phi_forms from phis (λ y. cond (eqb phi.register.0 y) (entry_form (entry_for from phi.entries)) (forms y)) x) ≡ moved_or (moves_from from phis) v (λ y. value v (cond (eqb phi.register.0 y) (entry_form (entry_for from phi.entries)) (forms y))) x →
          value v (phi_forms from phis (λ y. cond (eqb phi.register.0 y) (entry_form (entry_for from phi.entries)) (forms y)) x) ≡ moved_or (cons_option (option_map (λ a. record { register = phi.register; value = a }) o) (moves_from from phis)) v (λ y. value v (forms y)) x
      by None is there rest = absurd (false≢true there)
      by (Some a) is there rest =
          let entry : entry_for from phi.entries ≡ Some a = is in
          rest ∙ one_put phi phis forms a (entry_form (entry_for from phi.entries)) x apart.0 (ap (λ o. value v (entry_form o)) entry ∙ operand_is v a)

  -- on the edge from a block
  pub phis_moved : (phis : List Phi) → AreApart phis → HaveEntries from phis → (x : RegisterId) → operand_value v (operand_for (moves_from from phis) x) ≡ value v (phi_forms from phis register_form x.0)
  phis_moved phis apart there x =
      sym (phis_put phis register_form apart there x.0 ∙ moved_or_same (moves_from from phis) v (λ y. value v (register_form y)) v x.0 (value_register v x.0) ∙ moved_or_is (moves_from from phis) v x)

-- ---- arguments

-- for the parameter of this place
pub arguments_moved : (v : ℕ → ℤ) (arguments : List Argument) (n k : ℕ) (r : RegisterId) → r.0 ≡ n + k → k < length arguments → operand_value v (operand_for (argument_moves n arguments) r) ≡ value v (argument_forms arguments k)
arguments_moved v [] n k r same few = absurd (omega (arith, few))
arguments_moved v (a ∷ more) n zero r same few =
    let own : n ≡ r.0 = omega (arith, same) in
    ap (λ b. operand_value v (cond b (argument_operand a) (operand_for (argument_moves (suc n) more) r))) (eq-eqb n r.0 own) ∙ argument_form_value v a
arguments_moved v (a ∷ more) n (suc k) r same few =
    let other : n ≡ r.0 → ⊥ = λ (e : n ≡ r.0). omega (arith, same, e) in
    ap (λ b. operand_value v (cond b (argument_operand a) (operand_for (argument_moves (suc n) more) r))) (ne_eqb n r.0 other) ∙ arguments_moved v more (suc n) k r (omega (arith, same)) (omega (arith, few))
