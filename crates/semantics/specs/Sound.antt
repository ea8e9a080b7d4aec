-- Machines from which no events trap.
use Rattle.std.specs.Prelude.{◌≡◌, ℕ, List, None}
use Rattle.semantics.specs.Events.{Machine, Event}
use Rattle.program.specs.declared.function.Program.{Program}
use Rattle.semantics.specs.Replay.{replay}

abbrev pub NeverTraps : Program → ℕ → Machine → Type 0
NeverTraps prog workers m = (events : List Event) → (replay prog workers events m).trapped ≡ None
