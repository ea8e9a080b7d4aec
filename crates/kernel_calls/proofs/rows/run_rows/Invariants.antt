use Rattle.std.proofs.Common.{◌≡◌, ◌*◌, Some, length}
use Rattle.std.specs.Prelude.{min}
use Rattle.kernel_calls.proofs.OneMore.{AreDone}
use Rattle.kernel_calls.proofs.rows.run_rows.Given as goal

abbrev pub invariant-loop-row : goal.invariant-loop-row
invariant-loop-row l = record {
  first : l.argument ≡ min (l.row * l.rows.arguments_each) (length l.rows.arguments.now);
  from : l.cell ≡ min (l.row * l.rows.cells_each) (length l.cells);
  done : AreDone (Some l.kernel) l.rows.fuel l.rows.arguments_each l.rows.cells_each l.rows.arguments.now l.initial.cells l.cells l.outcomes l.row;
}
