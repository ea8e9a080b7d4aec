-- The table of all functions' costs and depths.
use Rattle.std.specs.Prelude.{◌≡◌, ℕ, zero, suc, ◌+◌, ◌-◌, ◌^◌, min, max, nat_le, List, length, Option, Some, None}
use Rattle.std.specs.Prelude.{slice_get, if◌then◌else◌}
use Rattle.program.specs.declared.function.Function.{Function}
use Rattle.program.specs.declared.function.Program.{Program}
use Rattle.ranges.specs.region_match.declared.task.Task.{Task}
use Rattle.ranges.specs.region_match.declared.tables.Regions.{Regions}
use Rattle.cost_table.specs.declared.entry.FunctionCost.{FunctionCost}
use Rattle.cost_table.specs.declared.table.Table.{Table}
use Rattle.cost_table.specs.Cost.{cost}
use Rattle.cost_table.specs.Depth.{flat_depth, self_calls_depth, first_depths, depth, tasks_of}

-- a number as 64 bits hold it: the greatest stands for all beyond
abbrev pub as_u64 : ℕ → ℕ
as_u64 n = min n (2 ^ 64 - 1)

-- and 128 bits
abbrev pub as_u128 : ℕ → ℕ
as_u128 n = min n (2 ^ 128 - 1)

-- ---- what a row says

-- so many frames under a self call, and those of the call on them; nothing where no self call is made
abbrev pub above_self_call : ℕ → ℕ → ℕ
above_self_call zero depth = 0
above_self_call (suc frames) depth = suc frames + depth

abbrev pub climbed : FunctionCost → ℕ → ℕ
climbed entry zero = entry.flat
climbed entry (suc m) = max entry.flat (as_u64 (above_self_call entry.rise (climbed entry m)))

-- ---- the table

-- the row of a function of this number, over the depths of those before it
pub record IsEntryOver (before : List ℕ) (f : ℕ) (tasks : List Task) (function : Function)
    (entry : FunctionCost) : Type 0 where
  pub bound : entry.bound ≡ function.measure.bound
  pub budget : entry.budget ≡ function.budget
  pub flat : entry.flat ≡ as_u64 (flat_depth before f tasks function.blocks)
  pub rise : entry.rise ≡ as_u64 (self_calls_depth f tasks function.blocks 0)

abbrev pub IsEntry : Program → Regions → ℕ → Function → FunctionCost → Type 0
IsEntry program regions f function entry =
    IsEntryOver (first_depths program regions f) f (tasks_of regions f) function entry

pub record IsTable (program : Program) (regions : Regions) (table : Table) : Type 0 where
  pub functions : length table.functions ≡ length program.functions
  pub each : (f : ℕ) (function : Function) (entry : FunctionCost) → slice_get program.functions f ≡ Some function →
      slice_get table.functions f ≡ Some entry
      → IsEntry program regions f function entry

abbrev pub bounded : ℕ → ℕ → ℕ → Option ℕ
bounded bound m value = if nat_le m bound then Some value else None

-- none outside 0 to the bound
abbrev pub within : ℕ → ℕ → ℕ → Option ℕ
within bound m value = bounded bound m (as_u64 value)

abbrev pub cost_in : Option Function → ℕ → Option ℕ
cost_in None m = None
cost_in (Some function) m = within function.measure.bound m (cost function m)

abbrev pub depth_in : Program → Regions → ℕ → Option Function → ℕ → Option ℕ
depth_in program regions f None m = None
depth_in program regions f (Some function) m = within function.measure.bound m (depth program regions f function m)

-- cost(f, m), none outside 0 to the bound
abbrev pub cost_at : Program → ℕ → ℕ → Option ℕ
cost_at program f m = cost_in (slice_get program.functions f) m

-- depth(f, m), none outside 0 to the bound
abbrev pub depth_at : Program → Regions → ℕ → ℕ → Option ℕ
depth_at program regions f m = depth_in program regions f (slice_get program.functions f) m
