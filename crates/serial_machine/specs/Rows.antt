-- Globals in one row of cells, each after the one before it.
use Rattle.std.specs.Prelude.{◌≡◌, ℕ, ◌+◌, ◌<◌, List, length, sum, Option, Some, None, cond, nat_lt, ℤ, slice_get}
use Rattle.semantics.specs.Cells.{Object, Shared, Local, Memory}
use Rattle.semantics.specs.SerialMeaning.{Gave, IsSerialMeaning}
use Rattle.program.specs.declared.function.Program.{Program}
use Rattle.frame_engine.specs.declared.activation.Places.{Places}
use Rattle.serial_stack.specs.Steps.{starting}
use Rattle.serial_stack.specs.Layouts.{size_in, start_in}
use Rattle.serial_stack.specs.Runs.{HasEnded}
use Rattle.serial_stack.specs.declared.stack.Stack.{Stack}

-- what the row of globals of these sizes holds of an object
abbrev pub in_row : List ℕ → List ℤ → Object → ℕ → Option ℤ
in_row globals row (Shared g) i = cond (nat_lt i (size_in globals g)) (slice_get row (start_in globals g + i)) None
in_row globals row (Local owner n) i = None

abbrev pub row_memory : List ℕ → List ℤ → Memory
row_memory globals row c = in_row globals row c.object c.index

-- a run over a row that has ended comes to the serial meaning, whose memory stands in the row
abbrev pub RowsMean : Type 0
RowsMean =
    (prog : Program) (places : Places) (globals : List ℕ) (arguments row : List ℤ) → length row ≡ sum globals →
    sum globals < 9223372036854775808 →
    (done peak : ℕ) (k : Stack) (result : ℤ) →
    HasEnded globals prog places (starting prog arguments (row_memory globals row)) done peak k result →
    IsSerialMeaning prog arguments (row_memory globals row) (record {
      ending = Gave (Some result);
      memory = row_memory globals k.cells.cells.items;
      count = done;
      depth = peak;
    })
