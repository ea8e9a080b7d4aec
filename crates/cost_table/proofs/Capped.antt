-- Numbers up to a greatest one, which stands for all beyond.
use Rattle.std.proofs.Common.{◌≡◌, refl, ◌∙◌, ℕ, zero, suc, ◌+◌, ◌*◌, ◌<◌, ◌≤◌, min, max, ap, ⊎_elim, arith}
use Rattle.std.proofs.Math.Nat.{min-eq_left, min-eq_right}
use Rattle.std.proofs.lemmas.Bool.{cases_lt}
use Rattle.cost_table.specs.Tables.{above_self_call}

pub capped_sum : (s x m : ℕ) → min (s + min x m) m ≡ min (s + x) m
capped_sum s x m = grind arith

-- S + K * c, where c and the product are cut at m
pub capped_cost : (s k c m : ℕ) → min (s + min (k * min c m) m) m ≡ min (s + k * c) m
capped_cost s k c m = ⊎_elim
    (λ more. past s k c m more)
    (λ less. ap (λ (x : ℕ). min (s + min (k * x) m) m) (min-eq_left less) ∙ capped_sum s (k * c) m)
    (cases_lt m c)
  where
    past : (s k c m : ℕ) → m < c → min (s + min (k * min c m) m) m ≡ min (s + k * c) m
    past s zero c m more = grind arith
    past s (suc k) c m more =
        let cut : min c m ≡ m = min-eq_right (omega arith) in
        let low : m ≤ suc k * m = omega arith in
        let high : m ≤ suc k * c = omega arith in
        rw cut (grind (arith, low, high))

pub capped_deeper : (g l c m : ℕ) → max (min g m) (min (min l m + c) m) ≡ min (max g (l + c)) m
capped_deeper g l c m = grind arith

pub capped_max : (a b m : ℕ) → max (min a m) (min b m) ≡ min (max a b) m
capped_max a b m = grind arith

-- ---- above a self call

pub above_none : (d : ℕ) (r : ℕ) → r ≡ 0 → above_self_call r d ≡ 0
above_none d zero e = refl
above_none d (suc r) e = absurd (omega (arith, e))

pub above_some : (d : ℕ) (r : ℕ) → 0 < r → above_self_call r d ≡ r + d
above_some d zero l = absurd (omega (arith, l))
above_some d (suc r) l = refl

pub above_max : (a b x : ℕ) → max (above_self_call a x) (above_self_call b x) ≡ above_self_call (max a b) x
above_max zero b x = grind arith
above_max (suc a) zero x = grind arith
above_max (suc a) (suc b) x = let e = above_some x (max (suc a) (suc b)) (grind arith) in rw e (grind arith)

pub capped_above : (r d m : ℕ) → 0 < m → min (above_self_call (min r m) (min d m)) m ≡ min (above_self_call r d) m
capped_above zero d m l = rw (above_none (min d m) (min zero m) (grind arith)) refl
capped_above (suc r) d m l = rw (above_some (min d m) (min (suc r) m) (grind (arith, l))) (grind arith)
