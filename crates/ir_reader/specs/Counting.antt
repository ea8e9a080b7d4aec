-- What is counted as the items come.
use Rattle.std.specs.Prelude.{ℕ, Bool, ◌&&◌, nat_le, Option, Some, None}
use Rattle.syntax.specs.declared.module.Function.{Function}
use Rattle.syntax.specs.declared.module.Module.{Module}
use Rattle.ir_reader.specs.declared.draft.Draft.{Draft}
use Rattle.ir_reader.specs.declared.limits.Counts.{Counts}
use Rattle.ir_reader.specs.Defined.{open_function}
use Rattle.ir_reader.specs.Limits.{global_cells, register_count, function_cells, is_place_within}

abbrev pub registers_in : Option Function → ℕ
registers_in None = 0
registers_in (Some f) = register_count f

abbrev pub cells_in : Option Function → ℕ
cells_in None = 0
cells_in (Some f) = function_cells f

abbrev pub counts_in : Module → Option Function → Counts
counts_in m open_one =
    record { global_cells = global_cells m; registers = registers_in open_one; alloca_cells = cells_in open_one }

abbrev pub counts_of : Draft → Counts
counts_of d = counts_in d.whole (open_function d.place)

abbrev pub are_counts_within : Counts → Bool
are_counts_within c = nat_le c.global_cells 1048576 && nat_le c.registers 4096 && nat_le c.alloca_cells 4096

-- what was read, of which all but the last item was within the limits, is within them
abbrev pub is_within_limits : Draft → Bool
is_within_limits d = are_counts_within (counts_of d) && is_place_within d.whole d.place
