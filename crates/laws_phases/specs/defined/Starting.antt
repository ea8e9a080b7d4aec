-- The first frame.
use Rattle.std.specs.Prelude.{◌≡◌, ℕ, List, [], length, true, is_some, ℤ, slice_get}
use Rattle.semantics.specs.Cells.{Shared, Memory, globals_of}
use Rattle.semantics.specs.Frames.{block_at, global_cells}
use Rattle.semantics.specs.State.{root_frame}
use Rattle.program.specs.declared.function.Program.{Program}
use Rattle.region_match.specs.Matched.{AreRegionsRight}
use Rattle.laws_conditions.specs.rules.Costs.{parameters_of}
use Rattle.laws_conditions.specs.rules.Registers.{Registered}
use Rattle.laws_phases.specs.defined.Names.{IsNamed}
use Rattle.laws_phases.specs.defined.Placed.{IsPlaced}
use Rattle.laws_phases.specs.defined.Defined.{IsAlways}
use Rattle.laws_phases.specs.defined.Regions.{OwnsRegions}
use Rattle.laws_phases.specs.defined.Values.{Full, HasValues}

-- `main` is there, gets as many arguments as it has parameters, and each cell of the globals has a value
pub record StartsRight (prog : Program) (arguments : List ℤ) (memory : Memory) : Type 0 where
  pub main : is_some (block_at prog prog.main.0 0) ≡ true
  pub count : length arguments ≡ parameters_of prog prog.main.0
  pub globals : (g : ℕ) → Full (global_cells (slice_get prog.globals g)) (Shared g) memory

pub record IsFirst (prog : Program) (arguments : List ℤ) (memory : Memory) : Type 0 where
  pub placed : IsPlaced prog (root_frame prog arguments)
  pub values : HasValues prog [] (root_frame prog arguments) (globals_of memory)
  pub regions : OwnsRegions prog [] (root_frame prog arguments)
  pub registers : Registered (IsAlways prog) [] (root_frame prog arguments) (globals_of memory)

abbrev pub StartsWell : Type 0
StartsWell = (prog : Program) → IsNamed prog → AreRegionsRight prog → (arguments : List ℤ) (memory : Memory) →
    StartsRight prog arguments memory →
    IsFirst prog arguments memory
