use Rattle.std.proofs.Common.{◌≡◌, map}
use Rattle.ranges.proofs.Tabling.{Tabled}
use Rattle.cost_table.specs.Depth.{first_depths}
use Rattle.cost_table.specs.Tables.{as_u64, IsEntry}
use Rattle.cost_table.proofs.table.make_table.Given as goal

abbrev pub invariant-loop-index : goal.invariant-loop-index
invariant-loop-index l =
    record {
      depths : l.depths.items ≡ map as_u64 (first_depths l.program l.regions l.index);
      rows : Tabled (IsEntry l.program l.regions) l.functions l.index l.entries.items;
    }
