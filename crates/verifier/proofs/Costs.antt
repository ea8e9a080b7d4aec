-- The table's entries of `main`.
use Rattle.std.proofs.Common.{◌≡◌, refl, ◌∙◌, ℕ, suc, ◌≤◌, Bool, true, Option, Some, None, inr, ap, ⊎_elim, arith}
use Rattle.std.specs.Prelude.{slice_get, nat_le, if◌then◌else◌}
use Rattle.std.proofs.lemmas.Bool.{cases_lt}
use Rattle.program.specs.declared.function.Function.{Function}
use Rattle.program.specs.declared.function.Program.{Program}
use Rattle.refusal.specs.declared.broken.Broken.{Broken}
use Rattle.region_match.specs.declared.tables.Regions.{Regions}
use Rattle.cost_table.specs.Cost.{cost, whole_cost}
use Rattle.cost_table.specs.Depth.{depth}
use Rattle.cost_table.specs.Tables.{as_u64, cost_in, cost_at, depth_in, depth_at}
use Rattle.cost_table.specs.Rules.{IsCostBroken}
use Rattle.cost_table.proofs.Costly.{cheaper}

-- no call costs over a million million
affordable : (program : Program) (f : ℕ) (function : Function) → slice_get program.functions f ≡ Some function → ((b : Broken) → IsCostBroken program b → ⊥) → whole_cost function ≤ 1000000000000
affordable program f function here right = ⊎_elim
    (λ more. let broken : Broken = record { line = function.line; number = 705 } in
    absurd (right broken (f, function, here, inr (inr (refl, refl, function.measure.bound, omega arith, more)))))
    (λ less. less)
    (cases_lt 1000000000000 (whole_cost function))

reaches : (m n : ℕ) → m ≤ n → nat_le m n ≡ true
reaches m n l = grind (arith, l)

within_bound : (m : ℕ) → nat_le m m ≡ true
within_bound m = grind arith

uncut : (n : ℕ) → n ≤ 1000000000000 → as_u64 n ≡ n
uncut n l = omega (arith, l)

-- each affordable entry is kept whole
pub costs_whole : (program : Program) (f m : ℕ) (function : Function) → slice_get program.functions f ≡ Some function → ((b : Broken) → IsCostBroken program b → ⊥) → m ≤ function.measure.bound → cost_at program f m ≡ Some (cost function m)
costs_whole program f m function here right l =
    let most = affordable program f function here right in
    let less : cost function m ≤ whole_cost function = cheaper function.budget m function.measure.bound l in
    ap (λ (o : Option Function). cost_in o m) here
    ∙ ap (λ (b : Bool). if b then Some (as_u64 (cost function m)) else None) (reaches m function.measure.bound l)
    ∙ ap Some (uncut (cost function m) (omega (arith, most, less)))

-- an affordable entry is kept whole
pub cost_kept : (program : Program) (f : ℕ) (function : Function) → slice_get program.functions f ≡ Some function → ((b : Broken) → IsCostBroken program b → ⊥) → cost_at program f function.measure.bound ≡ Some (whole_cost function)
cost_kept program f function here right =
    let less = affordable program f function here right in
    let whole : as_u64 (whole_cost function) ≡ whole_cost function = omega (arith, less) in
    ap (λ (o : Option Function). cost_in o function.measure.bound) here
    ∙ ap (λ (b : Bool). if b then Some (as_u64 (whole_cost function)) else None) (within_bound function.measure.bound)
    ∙ ap Some whole

pub depth_kept : (program : Program) (regions : Regions) (f : ℕ) (function : Function) → slice_get program.functions f ≡ Some function →
    depth_at program regions f function.measure.bound ≡ Some (as_u64 (depth program regions f function function.measure.bound))
depth_kept program regions f function here =
    ap (λ (o : Option Function). depth_in program regions f o function.measure.bound) here
    ∙ ap (λ (b : Bool). if b then Some (as_u64 (depth program regions f function function.measure.bound)) else None) (within_bound function.measure.bound)

-- the entry of a depth that 64 bits hold
pub depth_uncut : (program : Program) (regions : Regions) (f m : ℕ) (function : Function) → slice_get program.functions f ≡ Some function → m ≤ function.measure.bound
    → as_u64 (depth program regions f function m) ≡ depth program regions f function m → depth_at program regions f m ≡ Some (depth program regions f function m)
depth_uncut program regions f m function here l same =
    ap (λ (o : Option Function). depth_in program regions f o m) here
    ∙ ap (λ (b : Bool). if b then Some (as_u64 (depth program regions f function m)) else None) (reaches m function.measure.bound l)
    ∙ ap Some same
