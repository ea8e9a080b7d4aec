-- Counts of which one changes, and in how many regions a child lives.
use Rattle.std.proofs.Common.{◌≡◌, ◌≢◌, ℕ, zero, suc, ◌+◌, ◌-◌, ◌<◌, ◌≤◌, List, [], ◌∷◌, ◌++◌, set, replicate, take, length, Option, Some, cond, eqb, inl, inr, refl, sym, ap, ◌∙◌, subst, arith}
use Rattle.std.specs.Prelude.{slice_get}
use Rattle.std.specs.Option.{option_map_or}
use Rattle.std.proofs.lemmas.Bool.Decides.{eqb_tells}
use Rattle.std.proofs.lemmas.Option.{same_Some}
use Rattle.sync_join.specs.declared.count.RegionCount.{RegionCount}
use Rattle.sync_join.specs.Counting.{busy_by, busy_in, living_in}

-- ---- what is counted within a region

pub living_at : (counts : List RegionCount) (region : ℕ) (was : RegionCount) → slice_get counts region ≡ Some was → living_in counts region ≡ was.living
living_at counts region was there = ap (λ (o : Option RegionCount). option_map_or (λ (x : RegionCount). x.living) o 0) there

pub living_here : (counts : List RegionCount) (region : ℕ) (is : RegionCount) → region < length counts → living_in (set counts region is) region ≡ is.living
living_here [] region is there = absurd (omega (arith, there))
living_here (c ∷ cs) zero is there = refl
living_here (c ∷ cs) (suc region) is there = living_here cs region is (omega (arith, there))

living_elsewhere : (counts : List RegionCount) (region other : ℕ) (is : RegionCount) → region ≢ other → living_in (set counts region is) other ≡ living_in counts other
living_elsewhere [] region other is away = refl
living_elsewhere (c ∷ cs) zero zero is away = absurd (away refl)
living_elsewhere (c ∷ cs) zero (suc other) is away = refl
living_elsewhere (c ∷ cs) (suc region) zero is away = refl
living_elsewhere (c ∷ cs) (suc region) (suc other) is away = living_elsewhere cs region other is (λ e. away (ap suc e))

-- the region has this count now, and every other what it had
pub living_now : (counts : List RegionCount) (region other : ℕ) (is : RegionCount) → region < length counts → living_in (set counts region is) other ≡ cond (eqb region other) is.living (living_in counts other)
living_now counts region other is there =
    elim (eqb_tells region other) [
      | inl h ↦ rw h.0 (subst (λ (x : ℕ). living_in (set counts region is) x ≡ is.living) h.1 (living_here counts region is there))
      | inr h ↦ rw h.0 (living_elsewhere counts region other is h.1)
    ]

pub one_more : (counts : List RegionCount) (region other : ℕ) (was is : RegionCount) → region < length counts → slice_get counts region ≡ Some was → is.living ≡ was.living + 1 →
    living_in (set counts region is) other ≡ cond (eqb region other) (living_in counts region + 1) (living_in counts other)
one_more counts region other was is there at_region more =
    living_now counts region other is there
    ∙ ap (λ (n : ℕ). cond (eqb region other) n (living_in counts other)) (more ∙ ap (λ (n : ℕ). n + 1) (sym (living_at counts region was at_region)))

pub one_less : (counts : List RegionCount) (region other : ℕ) (was is : RegionCount) → region < length counts → slice_get counts region ≡ Some was → is.living + 1 ≡ was.living →
    living_in (set counts region is) other ≡ cond (eqb region other) (living_in counts region - 1) (living_in counts other)
one_less counts region other was is there at_region less =
    let same = living_at counts region was at_region in
    let left : is.living ≡ living_in counts region - 1 = omega (arith, less, same) in
    living_now counts region other is there ∙ ap (λ (n : ℕ). cond (eqb region other) n (living_in counts other)) left

pub none_counted : (n : ℕ) (none : RegionCount) → none.living ≡ 0 → (region : ℕ) → living_in (replicate n none) region ≡ 0
none_counted zero none is region = refl
none_counted (suc n) none is zero = is
none_counted (suc n) none is (suc region) = none_counted n none is region

-- ---- in how many regions a child lives

by_one : (n : ℕ) → busy_by n ≤ 1
by_one zero = omega arith
by_one (suc n) = omega arith

by_none : (n : ℕ) → busy_by n ≡ 0 → n ≡ 0
by_none zero none = refl
by_none (suc n) none = absurd (omega (arith, none))

by_some : (n : ℕ) → 0 < n → busy_by n ≡ 1
by_some zero some = absurd (omega (arith, some))
by_some (suc n) some = refl

pub busy_set : (counts : List RegionCount) (region : ℕ) (was is : RegionCount) → slice_get counts region ≡ Some was → busy_in (set counts region is) + busy_by was.living ≡ busy_in counts + busy_by is.living
busy_set [] region was is there = absurd cc
busy_set (c ∷ cs) zero was is there =
    let same : busy_by c.living ≡ busy_by was.living = ap (λ (x : RegionCount). busy_by x.living) (same_Some c was there) in
    omega (arith, same)
busy_set (c ∷ cs) (suc region) was is there = let more = busy_set cs region was is there in omega (arith, more)

pub few : (counts : List RegionCount) → busy_in counts ≤ length counts
few [] = omega arith
few (c ∷ cs) = let rest = few cs in let one = by_one c.living in omega (arith, rest, one)

-- in one, where one lives there
pub busy_above : (counts : List RegionCount) (region : ℕ) (was : RegionCount) → slice_get counts region ≡ Some was → 0 < was.living → 0 < busy_in counts
busy_above [] region was there some = absurd cc
busy_above (c ∷ cs) zero was there some =
    let busy : busy_by c.living ≡ 1 = ap (λ (x : RegionCount). busy_by x.living) (same_Some c was there) ∙ by_some was.living some in
    omega (arith, busy)
busy_above (c ∷ cs) (suc region) was there some = let rest = busy_above cs region was there some in omega (arith, rest)

-- with one child more within a region
pub busy_opened : (counts : List RegionCount) (region : ℕ) (was is : RegionCount) (busy : ℕ) → slice_get counts region ≡ Some was → is.living ≡ was.living + 1 → busy + busy_by was.living ≡ busy_in counts + 1 →
    busy ≡ busy_in (set counts region is)
busy_opened counts region was is busy there more count =
    let moved = busy_set counts region was is there in
    let one = by_some is.living (omega (arith, more)) in
    omega (arith, moved, one, count)

-- with one less
pub busy_closed : (counts : List RegionCount) (region : ℕ) (was is : RegionCount) (busy : ℕ) → slice_get counts region ≡ Some was → is.living + 1 ≡ was.living → busy + 1 ≡ busy_in counts + busy_by is.living →
    busy ≡ busy_in (set counts region is)
busy_closed counts region was is busy there less count =
    let moved = busy_set counts region was is there in
    let one = by_some was.living (omega (arith, less)) in
    omega (arith, moved, one, count)

pub none_busy : (n : ℕ) (none : RegionCount) → none.living ≡ 0 → busy_in (replicate n none) ≡ 0
none_busy zero none is = refl
none_busy (suc n) none is = let rest = none_busy n none is in let idle : busy_by none.living ≡ 0 = ap busy_by is in omega (arith, rest, idle)

-- as many regions as there are, after none
pub restarted : (old new : List RegionCount) (n m : ℕ) (none : RegionCount) → none.living ≡ 0 → old ≡ [] → new ≡ take n old ++ replicate m none → (busy_in new ≡ 0) × ((region : ℕ) → living_in new region ≡ 0)
restarted old new n m none is empty filled =
    let all : new ≡ replicate m none = filled ∙ (ap (λ (xs : List RegionCount). take n xs ++ replicate m none) empty ∙ ap (λ (xs : List RegionCount). xs ++ replicate m none) (of_none n)) in (
      ap busy_in all ∙ none_busy m none is,
      λ region. ap (λ (xs : List RegionCount). living_in xs region) all ∙ none_counted m none is region,
    )
  where
    of_none : (k : ℕ) → ◌≡◌ {A = List RegionCount} (take k []) []
    of_none zero = refl
    of_none (suc k) = refl

-- no child lives where none does in a region
pub none_lives : (counts : List RegionCount) → busy_in counts ≡ 0 → (region : ℕ) → living_in counts region ≡ 0
none_lives [] none region = refl
none_lives (c ∷ cs) none zero = by_none c.living (omega (arith, none))
none_lives (c ∷ cs) none (suc region) = none_lives cs (omega (arith, none)) region

pub lives_nowhere : (counts : List RegionCount) → ((region : ℕ) → living_in counts region ≡ 0) → busy_in counts ≡ 0
lives_nowhere [] each = refl
lives_nowhere (c ∷ cs) each =
    let here : c.living ≡ 0 = each 0 in
    let idle : busy_by c.living ≡ 0 = ap busy_by here in
    let rest = lives_nowhere cs (λ region. each (suc region)) in
    omega (arith, idle, rest)
