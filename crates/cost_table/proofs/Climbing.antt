-- What a call costs by its measure.
use Rattle.std.proofs.Common.{◌≡◌, ◌∙◌, ℕ, zero, suc, ◌+◌, ◌*◌, ◌≤◌, min, inl, inr, refl, arith}
use Rattle.std.proofs.Math.Nat.{mul-le-mul_left}
use Rattle.std.proofs.lemmas.Bool.{cases_lt}
use Rattle.program.specs.declared.annotation.Budget.{Budget}
use Rattle.cost_table.specs.Cost.{cost_below}

flat : (s k x m : ℕ) → k ≡ 0 → s + k * x ≡ s * (1 + k * m)
flat s k x m none = rw none (grind arith)

one_more : (s k c m : ℕ) → k ≡ 1 → c ≡ s * m → s + k * c ≡ s * suc m
one_more s k c m one is = rw (one, is) (grind arith)

with_one_call : (b : Budget) (m : ℕ) → b.self_calls ≡ 1 → cost_below b m ≡ b.instructions * m
with_one_call b zero one = omega arith
with_one_call b (suc m) one = one_more b.instructions b.self_calls (cost_below b m) m one (with_one_call b m one)

steep : (s k m : ℕ) → k ≡ 1 → s * suc m ≡ s * (1 + k * m)
steep s k m one = rw one (grind arith)

-- with one self call at most
pub with_few_calls : (b : Budget) (m : ℕ) → b.self_calls ≤ 1 → cost_below b (suc m) ≡ b.instructions * (1 + b.self_calls * m)
with_few_calls b m few = elim (cases_lt b.self_calls 1) [
  | inl none ↦ flat b.instructions b.self_calls (cost_below b m) m (omega (arith, none))
  | inr one ↦ let is : b.self_calls ≡ 1 = omega (arith, one, few) in with_one_call b (suc m) is ∙ steep b.instructions b.self_calls m is
]

pub costs_nothing : (b : Budget) (m : ℕ) → b.instructions ≡ 0 → cost_below b m ≡ 0
costs_nothing b zero none = refl
costs_nothing b (suc m) none = let before = costs_nothing b m none in rw (none, before) (omega arith)

-- a greater measure costs no less
costs_more : (b : Budget) (m n : ℕ) → m ≤ n → cost_below b m ≤ cost_below b n
costs_more b zero n le = omega arith
costs_more b (suc m) zero le = absurd (omega (arith, le))
costs_more b (suc m) (suc n) le = omega (arith, mul-le-mul_left b.self_calls (costs_more b m n (omega (arith, le))))

pub stays_greatest : (b : Budget) (m n greatest : ℕ) → m ≤ n → greatest ≤ cost_below b m → min (cost_below b n) greatest ≡ greatest
stays_greatest b m n greatest le past = omega (arith, costs_more b m n le, past)
