-- The law: the tasks of the blocks of a program have one table.
use Rattle.std.specs.Prelude.{◌≡◌, List}
use Rattle.cfg.specs.declared.structure.FunctionGraph.{FunctionGraph}
use Rattle.region_match.specs.declared.tables.FunctionTasks.{FunctionTasks}
use Rattle.region_match.specs.Tasks.{AreAllTasks}

abbrev pub TasksHaveOneTable : Type 0
TasksHaveOneTable = (graphs : List FunctionGraph) (a b : List FunctionTasks) → AreAllTasks graphs a →
    AreAllTasks graphs b → a ≡ b
