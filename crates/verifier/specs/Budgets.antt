-- The budget and the depth of a module: the table's entries of `main` at its greatest measure.
use Rattle.std.specs.Prelude.{◌≡◌, ℕ, ◌≤◌, Option, Some, None, slice_get}
use Rattle.program.specs.declared.function.Function.{Function}
use Rattle.program.specs.declared.function.Program.{Program}
use Rattle.region_match.specs.declared.tables.Regions.{Regions}
use Rattle.cost_table.specs.declared.table.Table.{Table}
pub use Rattle.cost_table.specs.Cost.{cost, whole_cost_of}
use Rattle.cost_table.specs.Depth.{depth}
use Rattle.cost_table.specs.Tables.{IsTable, cost_at, depth_at}
use Rattle.verifier.specs.Accepted.{AreTasksOf, IsAccepted}

-- what a call of `main` costs at most
abbrev pub budget_of : Program → ℕ
budget_of program = whole_cost_of (slice_get program.functions program.main.0)

abbrev pub depth_in : Program → Regions → Option Function → ℕ
depth_in program regions None = 0
depth_in program regions (Some main) = depth program regions program.main.0 main main.measure.bound

-- how many frames a call of `main` stands on one another at most, where this is the table of the blocks' tasks
abbrev pub depth_of : Program → Regions → ℕ
depth_of program regions = depth_in program regions (slice_get program.functions program.main.0)

-- ---- by the tasks of the blocks

-- what a table says up to the bound of each function is the cost and the depth themselves: neither passes 64 bits
pub record AreWhole (program : Program) (regions : Regions) : Type 0 where
  pub costs : (f m : ℕ) (function : Function) → slice_get program.functions f ≡ Some function →
      m ≤ function.measure.bound → cost_at program f m ≡ Some (cost function m)
  pub depths : (f m : ℕ) (function : Function) → slice_get program.functions f ≡ Some function →
      m ≤ function.measure.bound
      → depth_at program regions f m ≡ Some (depth program regions f function m)

abbrev pub IsTableOf : Program → Table → Type 0
IsTableOf program table = (regions : Regions) × AreTasksOf program regions × IsTable program regions table ×
    AreWhole program regions

abbrev pub IsDepthOf : Program → ℕ → Type 0
IsDepthOf program n = (regions : Regions) × AreTasksOf program regions × (n ≡ depth_of program regions)

-- what is kept of an accepted program
pub record IsVerified (program : Program) (table : Table) (budget depth : ℕ) : Type 0 where
  pub is_accepted : IsAccepted program
  pub is_table : IsTableOf program table
  pub is_budget : budget ≡ budget_of program
  pub is_depth : IsDepthOf program depth
