-- What a block does is what its steps spend.
use Rattle.std.proofs.Common.{◌≡◌, ◌∙◌, ℕ, zero, suc, ◌+◌, ◌*◌, Bool, true, false, cond, eqb, List, [], ◌∷◌, length, Option, Some, None, refl, ap, arith}
use Rattle.std.specs.Prelude.{slice_get, sum_by}
use Rattle.std.proofs.lemmas.List.Sums.{sum_by-cons}
use Rattle.program.specs.declared.function.Function.{Function}
use Rattle.program.specs.declared.function.Program.{Program}
use Rattle.program.specs.declared.instruction.Step.{Step}
use Rattle.laws_conditions.specs.rules.Costs.{bound_in, bound_of, self_calls_in, instructions_in, cost_below as cost_below_of, instructions_for, self_calls_for, spent_by}
use Rattle.program.specs.Calls.{callee_of}
use Rattle.cost_table.specs.Cost.{cost_below, whole_cost_of, callee_cost, self_call, instructions_of, self_calls_of}

-- ---- what a call costs

abbrev cost_in : Option Function → ℕ → ℕ
cost_in None m = 0
cost_in (Some function) m = cost_below function.budget m

one_more : (o : Option Function) (m : ℕ) → instructions_in o + self_calls_in o * cost_in o m ≡ cost_in o (suc m)
one_more None m = refl
one_more (Some function) m = refl

none_below : (o : Option Function) → 0 ≡ cost_in o 0
none_below None = refl
none_below (Some function) = refl

cost_is : (prog : Program) (g m : ℕ) → cost_below_of prog g m ≡ cost_in (slice_get prog.functions g) m
cost_is prog g zero = none_below (slice_get prog.functions g)
cost_is prog g (suc m) = ap (λ n. instructions_in (slice_get prog.functions g) + self_calls_in (slice_get prog.functions g) * n) (cost_is prog g m) ∙ one_more (slice_get prog.functions g) m

whole_in : (o : Option Function) → cost_in o (suc (bound_in o)) ≡ whole_cost_of o
whole_in None = refl
whole_in (Some function) = refl

-- at the greatest measure
pub whole_is : (prog : Program) (g : ℕ) → cost_below_of prog g (suc (bound_of prog g)) ≡ whole_cost_of (slice_get prog.functions g)
whole_is prog g = cost_is prog g (suc (bound_of prog g)) ∙ whole_in (slice_get prog.functions g)

-- ---- steps

chosen : (b : Bool) (n : ℕ) → cond b 1 (suc n) ≡ 1 + cond b 0 n
chosen true n = refl
chosen false n = omega arith

instructions_are : (prog : Program) (f : ℕ) (o : Option ℕ) → instructions_for prog f o ≡ 1 + callee_cost prog.functions f o
instructions_are prog f None = refl
instructions_are prog f (Some g) = ap (λ n. cond (eqb g f) 1 (suc n)) (whole_is prog g) ∙ chosen (eqb g f) (whole_cost_of (slice_get prog.functions g))

self_calls_are : (f : ℕ) (o : Option ℕ) → self_calls_for f o ≡ self_call f o
self_calls_are f None = refl
self_calls_are f (Some g) = refl

-- all steps of a block
spent_all : (cost : Option ℕ → ℕ) (each : Step → ℕ) → ((s : Step) → cost (callee_of s.instruction) ≡ each s) → (steps : List Step) → spent_by cost steps (length steps) ≡ sum_by each steps
spent_all cost each same [] = refl
spent_all cost each same (s ∷ steps) =
    let first = same s in
    let rest = spent_all cost each same steps in
    let whole = sum_by-cons each s steps in
    omega (arith, first, rest, whole)

pub instructions_spent_are : (prog : Program) (f : ℕ) (steps : List Step) → spent_by (instructions_for prog f) steps (length steps) ≡ instructions_of prog.functions f steps
instructions_spent_are prog f steps =
    spent_all (instructions_for prog f) (λ s. 1 + callee_cost prog.functions f (callee_of s.instruction))
    (λ s. instructions_are prog f (callee_of s.instruction)) steps

pub calls_spent_are : (f : ℕ) (steps : List Step) → spent_by (self_calls_for f) steps (length steps) ≡ self_calls_of f steps
calls_spent_are f steps =
    spent_all (self_calls_for f) (λ s. self_call f (callee_of s.instruction)) (λ s. self_calls_are f (callee_of s.instruction)) steps
