-- What a run that has ended comes to, by the serial meaning.
use Rattle.std.specs.Prelude.{◌≡◌, ℕ, List, map, Option, Some, None, ℤ}
use Rattle.semantics.specs.Cells.{Object, Shared, Local, Memory}
use Rattle.semantics.specs.SerialMeaning.{Gave, IsSerialMeaning}
use Rattle.program.specs.declared.function.Program.{Program}
use Rattle.store.specs.Cells.{NamedCells, cell_at}
use Rattle.store.specs.declared.outcome.Finished.{Finished}

-- what the globals hold of an object
abbrev pub global_cell : List NamedCells → Object → ℕ → Option ℤ
global_cell globals (Shared g) i = cell_at globals g i
global_cell globals (Local owner n) i = None

-- the cells of the globals alone
abbrev pub memory_of_globals : List NamedCells → Memory
memory_of_globals globals c = global_cell globals c.object c.index

abbrev pub names_of : List NamedCells → List (List ℕ)
names_of globals = map (λ (g : NamedCells). g.name) globals

-- the serial meaning, in full: its result, memory, count of instructions and depth
pub record IsMeant (prog : Program) (arguments : List ℤ) (memory : List NamedCells) (done : Finished) : Type 0 where
  pub meant : IsSerialMeaning prog arguments (memory_of_globals memory) (record {
    ending = Gave (Some done.result);
    memory = memory_of_globals done.memory;
    count = done.instructions;
    depth = done.peak;
  })
  pub names : names_of done.memory ≡ names_of memory
