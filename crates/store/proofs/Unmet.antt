-- The first requirement that is not met.
use Rattle.std.proofs.Common.{◌≡◌, ℕ, suc, ◌+◌, ◌<◌, List, length, refl, ap, sym, ◌∙◌, arith, Bool, true, false, cond, ℤ, Option, Some, None, eq-eqb}
use Rattle.std.specs.Prelude.{not, nat_lt, position}
use Rattle.std.specs.List.{position_or_len}
use Rattle.std.proofs.lemmas.Bool.Decides.{nat_tests}
use Rattle.std.specs.Option.{option_map}
use Rattle.program.specs.declared.annotation.Inequality.{Inequality}
use Rattle.program.specs.declared.function.Function.{Function}
use Rattle.store.specs.Requirements.{is_met, unmet_of}

abbrev unmet : List ℤ → List Inequality → Option ℕ
unmet arguments rs = position (λ r. not (is_met arguments r)) rs

known : (arguments : List ℤ) (main : Function) → length main.parameters ≡ length arguments → unmet_of arguments (Some main) ≡ option_map (λ k. suc k) (unmet arguments main.requirements)
known arguments main e = ap (λ b. cond b (option_map (λ k. suc k) (unmet arguments main.requirements)) (Some 0)) (eq-eqb (length main.parameters) (length arguments) e)

pub unmet_some : (arguments : List ℤ) (o : Option Function) (main : Function) (rs : List Inequality) (k n : ℕ) → Some main ≡ o → length main.parameters ≡ length arguments → rs ≡ main.requirements → Some k ≡ unmet arguments rs → n ≡ k + 1 → Some n ≡ unmet_of arguments o
unmet_some arguments o main rs k n e long same at is =
    let next : n ≡ suc k = omega (arith, is) in
    ap (λ x. Some x) next ∙ ap (option_map (λ x. suc x)) (at ∙ ap (unmet arguments) same) ∙ sym (known arguments main long) ∙ ap (unmet_of arguments) e

pub unmet_none : (arguments : List ℤ) (o : Option Function) (main : Function) (rs : List Inequality) → Some main ≡ o → length main.parameters ≡ length arguments → rs ≡ main.requirements → None ≡ unmet arguments rs → None ≡ unmet_of arguments o
unmet_none arguments o main rs e long same at = ap (option_map (λ x. suc x)) (at ∙ ap (unmet arguments) same) ∙ sym (known arguments main long) ∙ ap (unmet_of arguments) e

below : (n long : ℕ) → nat_lt n long ≡ true → n < long
below n long e = grind (arith, nat_tests)

chosen_within : (b : Bool) (n k long : ℕ) → nat_lt n long ≡ b → Some k ≡ cond b (Some n) None → k < long
chosen_within true n k long is e = let z : k ≡ n = cc in let l = below n long is in omega (arith, z, l)
chosen_within false n k long is e = absurd cc

pub unmet_within : (arguments : List ℤ) (rs : List Inequality) (k : ℕ) → Some k ≡ unmet arguments rs → k < length rs
unmet_within arguments rs k e = chosen_within (nat_lt (position_or_len (λ r. not (is_met arguments r)) rs) (length rs)) (position_or_len (λ r. not (is_met arguments r)) rs) k (length rs) refl e
