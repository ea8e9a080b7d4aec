-- Where no rule on definedness is broken, each use of a register is defined on every path.
use Rattle.std.proofs.Common.{◌⊎◌, inl, inr, ℕ, List, [], ◌∷◌, ◌++◌, map, take, refl, sym, subst}
use Rattle.std.specs.List.{Contains}
use Rattle.std.proofs.lemmas.Bool.{cases_eq}
use Rattle.std.proofs.lemmas.List.Elements.{Contains-append_left, Contains-append_right}
use Rattle.program.specs.declared.function.Function.{Function}
use Rattle.program.specs.declared.function.Program.{Program}
use Rattle.refusal.specs.declared.broken.Broken.{Broken}
use Rattle.laws_phases.specs.definedness.declared.act.Act.TheVariants.{Needs}
use Rattle.laws_phases.specs.definedness.Definedness.{register_table, IsUndefined, IsFunctionBroken}
use Rattle.laws_phases.specs.definedness.Definedness.{IsDefinednessBroken}
use Rattle.laws_phases.specs.definedness.Defined.{AreRegistersDefined}
use Rattle.laws_phases.specs.definedness.Missing.{defined_along}
use Rattle.laws_phases.specs.definedness.Needs.{gives, given_of}
use Rattle.laws_phases.specs.defined.Defined.{AreUsesDefined}
use Rattle.laws_phases.proofs.defined.Lists.{none_within, first_within, later_within, within_cases}
use Rattle.laws_phases.proofs.defined.Roles.{any_function}

contains_or_not : (xs : List ℕ) (x : ℕ) → Contains xs x ⊎ (Contains xs x → ⊥)
contains_or_not [] x = inr (λ c. none_within x c)
contains_or_not (y ∷ ys) x = from (contains_or_not ys x)
  where
    from : Contains ys x ⊎ (Contains ys x → ⊥) → Contains (y ∷ ys) x ⊎ (Contains (y ∷ ys) x → ⊥)
    from (inl c) = inl (later_within y x ys c)
    from (inr none) = elim (cases_eq x y) [
      | inl e ↦ inl (let P : ℕ → Type 0 = λ z. Contains (y ∷ ys) z in subst P (sym e) (first_within y ys))
      | inr other ↦ inr (λ c. elim (within_cases y x ys c) [ inl e ↦ other (sym e) | inr h ↦ none h ])
    ]

defined_in : (function : Function) → ((b : Broken) → IsUndefined function b → ⊥) → AreRegistersDefined function
defined_in function unbroken b block k n line legs is at path =
    let all = map given_of (register_table function) in
    elim (contains_or_not (defined_along all legs ++ gives (take k block.acts)) n) [
      | inl c ↦ c
      | inr lacks ↦
          let broken : Broken = record { line = line; number = 401 } in
          absurd (unbroken broken (b, block, is, (k, Needs n line, at, (refl, refl, λ c. lacks (Contains-append_right (defined_along all legs) (gives (take k block.acts)) n c), (legs, path, λ c. lacks (Contains-append_left (defined_along all legs) (gives (take k block.acts)) n c))))))
    ]

pub uses_defined : (program : Program) → ((b : Broken) → IsDefinednessBroken program b → ⊥) → AreUsesDefined program
uses_defined program unbroken f function at =
    defined_in function (λ b broken. unbroken b (any_function {P = λ (x : Function). IsFunctionBroken x b} program.functions f function at (inl broken)))
