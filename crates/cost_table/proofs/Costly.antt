-- Costs grow with the measure.
use Rattle.std.proofs.Common.{◌≡◌, ℕ, zero, suc, ◌+◌, ◌-◌, ◌*◌, ◌≤◌, ap, arith, mul-le-mul_left}
use Rattle.program.specs.declared.annotation.Budget.{Budget}
use Rattle.cost_table.specs.Cost.{cost_below}

rises : (budget : Budget) (m : ℕ) → cost_below budget m ≤ cost_below budget (suc m)
rises budget zero = omega arith
rises budget (suc m) =
    let below = rises budget m in
    let product : budget.self_calls * cost_below budget m ≤ budget.self_calls * cost_below budget (suc m) = mul-le-mul_left budget.self_calls below in
    omega (arith, product)

rises_by : (budget : Budget) (m k : ℕ) → cost_below budget m ≤ cost_below budget (m + k)
rises_by budget m zero = let e : m ≡ m + 0 = omega arith in omega (arith, ap (cost_below budget) e)
rises_by budget m (suc k) =
    let e : suc (m + k) ≡ m + suc k = omega arith in
    omega (arith, rises_by budget m k, rises budget (m + k), ap (cost_below budget) e)

-- a call of a lower measure costs no more
pub cheaper : (budget : Budget) (m n : ℕ) → m ≤ n → cost_below budget (suc m) ≤ cost_below budget (suc n)
cheaper budget m n less =
    let e : suc m + (n - m) ≡ suc n = omega (arith, less) in
    omega (arith, rises_by budget (suc m) (n - m), ap (cost_below budget) e)
