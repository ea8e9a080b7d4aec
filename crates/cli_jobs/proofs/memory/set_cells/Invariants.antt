use Rattle.program.specs.declared.function.Program.{Program}
use Rattle.store.specs.Made.{IsMadeFor}
use Rattle.store.specs.Named.{HasGlobalCells}
use Rattle.cli_jobs.proofs.memory.set_cells.Given as goal

abbrev pub invariant-loop-setting : goal.invariant-loop-setting
invariant-loop-setting l =
    record {
      cells : (program : Program) → HasGlobalCells program l.fn.memory → HasGlobalCells program l.memory;
      made : (program : Program) → IsMadeFor program l.fn.memory → IsMadeFor program l.memory;
    }
