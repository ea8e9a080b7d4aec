-- Arguments that the machine's test takes are those of which the requirements of `main` are true.
use Rattle.std.proofs.Common.{◌≡◌, ◌∙◌, ℕ, suc, ◌≤◌, List, [], ◌∷◌, length, Option, Some, None, Bool, true, false, cond, T, refl, sym, ap, arith, ℤ, inl, inr}
use Rattle.std.specs.Prelude.{nat_lt, not, position, find, slice_get}
use Rattle.std.specs.Option.{option_map}
use Rattle.std.specs.List.{All, position_or_len}
use Rattle.std.proofs.lemmas.Bool.Decides.{eqb_tells, nat_tests}
use Rattle.std.proofs.lemmas.List.Elements.{All-nil, All-cons}
use Rattle.std.proofs.lemmas.List.Folds.{find_at}
use Rattle.std.proofs.lemmas.Option.{slice_get_past}
use lib.Signed.{le_z_yes}
use Rattle.program.specs.declared.annotation.Inequality.{Inequality}
use Rattle.program.specs.declared.function.Function.{Function}
use Rattle.program.specs.declared.function.Program.{Program}
use Rattle.store.specs.Requirements.{is_met, unmet_of, unmet_in}
use Rattle.laws_schedule.specs.laws_phases.facts.Known.{IsMet}
use Rattle.laws_schedule.specs.Promise.{argument_at, AreTaken}

module _ (arguments : List ℤ) where
  T_from : (b : Bool) → b ≡ true → T b
  T_from true e = tt
  T_from false e = absurd (cc)

  -- an inequality that the test takes is true
  met : (q : Inequality) → is_met arguments q ≡ true → IsMet (argument_at arguments) q
  met q e = le_z_yes (T_from (is_met arguments q) e)

  -- ---- all of them

  not_not : (b : Bool) → not b ≡ false → b ≡ true
  not_not true e = refl
  not_not false e = absurd (cc)

  all_pass : (qs : List Inequality) → find (λ q. not (is_met arguments q)) qs ≡ None → All (IsMet (argument_at arguments)) qs
  all_pass [] e = All-nil (IsMet (argument_at arguments))
  all_pass (q ∷ qs) e = from (all_pass qs) (is_met arguments q) refl e
    where
      from : (find (λ q. not (is_met arguments q)) qs ≡ None → All (IsMet (argument_at arguments)) qs) → (b : Bool) → is_met arguments q ≡ b →
          cond (not b) (Some q) (find (λ q. not (is_met arguments q)) qs) ≡ None → All (IsMet (argument_at arguments)) (q ∷ qs)
      from rest true is h = All-cons (IsMet (argument_at arguments)) q qs (met q is) (rest h)
      from rest false is h = absurd (cc)

  not_below : (n long : ℕ) → nat_lt n long ≡ false → long ≤ n
  not_below n long e = grind (arith, nat_tests)

  past_from : (b : Bool) (n long : ℕ) → nat_lt n long ≡ b → cond b (Some n) None ≡ None → long ≤ n
  past_from true n long is e = absurd (cc)
  past_from false n long is e = not_below n long is

  none_found : (qs : List Inequality) → position (λ q. not (is_met arguments q)) qs ≡ None → find (λ q. not (is_met arguments q)) qs ≡ None
  none_found qs e =
      let n : ℕ = position_or_len (λ q. not (is_met arguments q)) qs in
      let past : length qs ≤ n = past_from (nat_lt n (length qs)) n (length qs) refl e in
      find_at (λ q. not (is_met arguments q)) qs ∙ slice_get_past qs n past

  unmapped : (o : Option ℕ) → option_map (λ k. suc k) o ≡ None → o ≡ None
  unmapped None e = refl
  unmapped (Some k) e = absurd (cc)

  taken_from : (program : Program) (o : Option Function) → slice_get program.functions program.main.0 ≡ o → unmet_of arguments o ≡ None → AreTaken program arguments
  taken_from program None at e = absurd (cc)
  taken_from program (Some main) at e = elim (eqb_tells (length main.parameters) (length arguments)) [
    | inl h ↦
        let none : option_map (λ k. suc k) (position (λ r. not (is_met arguments r)) main.requirements) ≡ None =
        sym (ap (λ b. cond b (option_map (λ k. suc k) (position (λ r. not (is_met arguments r)) main.requirements)) (Some 0)) h.0) ∙ e in
        record { main = main; is_main = at; count = sym h.1; met = all_pass main.requirements (none_found main.requirements (unmapped _ none)) }
    | inr h ↦
        let wrong : ◌≡◌ {A = Option ℕ} (Some 0) None = sym (ap (λ b. cond b (option_map (λ k. suc k) (position (λ r. not (is_met arguments r)) main.requirements)) (Some 0)) h.0) ∙ e in
        absurd (cc)
  ]

pub are_taken : (program : Program) (arguments : List ℤ) → unmet_in program arguments ≡ None → AreTaken program arguments
are_taken program arguments e = taken_from arguments program (slice_get program.functions program.main.0) refl e
