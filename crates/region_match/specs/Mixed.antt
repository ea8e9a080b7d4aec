-- 306: no two paths give one block different tasks.
use Rattle.std.specs.Prelude.{◌≡◌, ℕ, List, Some, Any, slice_get}
use Rattle.program.specs.declared.function.Block.{Block}
use Rattle.program.specs.declared.function.Function.{Function}
use Rattle.program.specs.declared.function.Program.{Program}
use Rattle.cfg.specs.declared.structure.BlockEdges.{BlockEdges}
use Rattle.refusal.specs.declared.broken.Broken.{Broken}
use Rattle.cfg.specs.Edges.{graph_of}
use Rattle.region_match.specs.Tasks.{HasTwoTasks}

-- at the label of a block
abbrev pub IsMixedBlock : List Block → List BlockEdges → Broken → Type 0
IsMixedBlock bodies blocks broken = (b : ℕ) × (block : Block) × (slice_get bodies b ≡ Some block) ×
    (broken.number ≡ 306) × (broken.line ≡ block.line) × HasTwoTasks blocks b

abbrev pub IsMixedIn : Function → Broken → Type 0
IsMixedIn function broken = IsMixedBlock function.blocks (graph_of function).blocks broken

abbrev pub IsMixed : Program → Broken → Type 0
IsMixed program broken = Any (λ function. IsMixedIn function broken) program.functions
