-- Where the objects of a run lie: globals where `Places` has them, and the allocas of each function's frame from its
-- home on.
use Rattle.std.specs.Prelude.{ℕ, List, reverse, Option, Some, None, ℤ, pos, ◌+ℤ◌, slice_get, slice_index_or}
use Rattle.semantics.specs.Cells.{Object, Shared, Local}
use Rattle.semantics.specs.Frames.{Frame, Role, Child, Body, cells_of, global_cells}
use Rattle.semantics.specs.State.{State}
use Rattle.program.specs.declared.function.Program.{Program}
use Rattle.program.specs.declared.identifier.ObjectName.TheVariants as object
use Rattle.frame.specs.declared.frame.Role as machine
use Rattle.frame.specs.declared.frame.Role.TheVariants as role
use Rattle.cactus.specs.declared.node.Node.{Node}
use Rattle.cactus.specs.Frames.{Frames}
use Rattle.cactus.specs.ByPath.{named}
use Rattle.frame_engine.specs.declared.activation.Places.{Places}
use Rattle.frame_engine.specs.Activation.{allocas_of}
use Rattle.frame_engine.specs.Shows.{Layout}
use Rattle.schedule_workers.specs.declared.activation.Activation.{Activation}

-- ---- how many cells

-- a detached child has no allocas of its own
abbrev pub own_cells : Role → ℕ → ℕ
own_cells Body cells = cells
own_cells (Child region continuation) cells = 0

abbrev pub alloca_cells : Program → Option Frame → ℕ → ℕ
alloca_cells prog None a = 0
alloca_cells prog (Some f) a = own_cells f.role (cells_of prog f.function (object.Alloca (record { 0 = a })))

-- the cells of an object in a state: none where its owner does not live
abbrev pub living : Program → State → Object → ℕ
living prog s (Shared g) = global_cells (slice_get prog.globals g)
living prog s (Local owner a) = alloca_cells prog (s.frames owner) a

-- ---- where they lie

abbrev pub number_in : List ℤ → ℕ → ℤ
number_in numbers n = slice_index_or numbers n (pos 0)

-- nowhere for a child, so that the layout stays where one begins or ends
abbrev pub own_at : machine.Role → ℤ → ℤ
own_at role.Body at = at
own_at (role.Child region continuation) at = pos 0

abbrev pub alloca_at : Places → Option (Node Activation) → ℕ → ℤ
alloca_at places None a = pos 0
alloca_at places (Some node) a =
    own_at node.frame.frame.role (node.frame.frame.home +ℤ number_in (allocas_of places node.frame.frame.function.0) a)

abbrev pub object_at : Places → Frames Activation → Object → ℤ
object_at places frames (Shared g) = number_in places.globals g
object_at places frames (Local owner a) = alloca_at places (named frames (reverse owner)) a

abbrev pub layout_of : Program → Places → Frames Activation → State → Layout
layout_of prog places frames s = record { at = object_at places frames; cells = living prog s }
