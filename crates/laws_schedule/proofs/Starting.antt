-- The arguments that `main` takes are the numbers of the first frame.
use Rattle.std.proofs.Common.{◌≡◌, ◌∙◌, ℕ, zero, suc, List, [], ◌∷◌, length, map, Some, refl, sym, ap, subst, ℤ}
use Rattle.std.specs.Prelude.{slice_get}
use Rattle.std.specs.List.{All}
use Rattle.semantics.specs.Frames.{Word, word_of}
use Rattle.semantics.specs.State.{root_frame}
use Rattle.program.specs.declared.function.Function.{Function}
use Rattle.program.specs.declared.function.Program.{Program}
use Rattle.laws_conditions.specs.rules.Costs.{numbers, parameters_of}
use Rattle.semantics.specs.Written.{or_zero}
use Rattle.program.specs.Heads.{parameters_in}
use Rattle.laws_phases.specs.facts.Known.{IsMet}
use Rattle.laws_schedule.specs.Promise.{argument_at, AreTaken}

word_at : (zs : List ℤ) (r : ℕ) → word_of (slice_get (map (λ z. Word z) zs) r) ≡ slice_get zs r
word_at [] r = refl
word_at (z ∷ zs) zero = refl
word_at (z ∷ zs) (suc r) = word_at zs r

module _ (program : Program) (arguments : List ℤ) (given : AreTaken program arguments) where
  numbers_are : argument_at arguments ≡ numbers (root_frame program arguments).registers
  numbers_are = λ i r. sym (ap or_zero (word_at arguments r)) i

  pub met_at_root : (function : Function) → slice_get program.functions program.main.0 ≡ Some function →
      All (IsMet (numbers (root_frame program arguments).registers)) function.requirements
  met_at_root function at =
      let both : Some given.main ≡ Some function = sym given.is_main ∙ at in
      let same : given.main ≡ function = cc in
      subst (λ (f : Function). All (IsMet (numbers (root_frame program arguments).registers)) f.requirements) same
      (subst (λ (v : ℕ → ℤ). All (IsMet v) given.main.requirements) numbers_are given.met)

  pub as_many : length arguments ≡ parameters_of program program.main.0
  as_many = given.count ∙ sym (ap parameters_in given.is_main)
