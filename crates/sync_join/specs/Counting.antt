-- What a frame counts: by region, the children that it detached within it and that still live.
use Rattle.std.specs.Prelude.{ℕ, zero, suc, ◌+◌, List, [], ◌∷◌, slice_get}
use Rattle.std.specs.Option.{option_map_or}
use Rattle.sync_join.specs.declared.count.RegionCount.{RegionCount}

-- by the register that names a region
pub record Counts : Type 0 where
  pub items : List RegionCount

-- the children that live within a region
abbrev pub living_in : List RegionCount → ℕ → ℕ
living_in counts region = option_map_or (λ (count : RegionCount). count.living) (slice_get counts region) 0

-- ---- for the functions of this crate alone: in how many regions a child lives

abbrev pub busy_by : ℕ → ℕ
busy_by zero = 0
busy_by (suc n) = 1

abbrev pub busy_in : List RegionCount → ℕ
busy_in [] = 0
busy_in (count ∷ counts) = busy_by count.living + busy_in counts
