-- The table of depths, as the bridge to the schedule theorem asks for it.
use Rattle.std.specs.Prelude.{◌≡◌, ℕ, ◌≤◌, List, Option, Some, None, slice_get}
use Rattle.linear.specs.declared.form.RegisterId.{RegisterId}
use Rattle.semantics.specs.Frames.{Does, item_at}
use Rattle.program.specs.declared.function.Function.{Function}
use Rattle.program.specs.declared.function.Program.{Program}
use Rattle.program.specs.declared.identifier.FunctionId.{FunctionId}
use Rattle.program.specs.declared.instruction.Argument.{Argument}
use Rattle.program.specs.declared.instruction.Instruction.TheVariants as instruction
use Rattle.region_match.specs.declared.task.Task.{Task}
use Rattle.region_match.specs.declared.tables.Regions.{Regions}
use Rattle.laws_conditions.specs.rules.Depths.{DepthTable}
use Rattle.cost_table.specs.Depth.{detaches_around, depth_from, first_depths, tasks_of}

abbrev pub level_of : Regions → ℕ → ℕ → ℕ
level_of regions f b = detaches_around (tasks_of regions f) b

abbrev pub depth_in : List ℕ → ℕ → List Task → Option Function → ℕ → ℕ
depth_in before self tasks None m = 0
depth_in before self tasks (Some function) m = depth_from before self tasks function.blocks m

-- depth(f, m), and 0 where there is no such function
abbrev pub depth_of : Program → Regions → ℕ → ℕ → ℕ
depth_of program regions f m = depth_in (first_depths program regions f) f (tasks_of regions f)
    (slice_get program.functions f) m

-- each function calls itself or one further up in the text
abbrev pub CallsUpward : Program → Type 0
CallsUpward program =
    (function block index : ℕ) (d : Option RegisterId) (g : FunctionId) (arguments : List Argument) →
    item_at program function block index ≡ Some (Does (instruction.Call d g arguments)) → g.0 ≤ function

abbrev pub DepthsTabled : Type 0
DepthsTabled = (program : Program) (regions : Regions) → CallsUpward program →
    DepthTable program (level_of regions) (depth_of program regions)
