-- Zones name what the rules on names let them, in each program that a module means.
use Rattle.std.specs.Prelude.{ℕ, List, Ok}
use Rattle.program.specs.declared.function.Program.{Program}
use Rattle.syntax.specs.declared.module.Module.{Module}
use Rattle.types.specs.Meaning.{Means}
use Rattle.verifier.specs.Accepted.{IsProgramOf}
use Rattle.laws_schedule.specs.zones.ByPhases.{NamesZones}

-- parameters that are named are the function's own, and the zones of its head are over its parameters
abbrev pub ZonesAreNamed : Type 0
ZonesAreNamed = (whole : Module) (program : Program) → Means whole (Ok program) → NamesZones program

-- so in each program that the verifier takes
abbrev pub AcceptedZonesAreNamed : Type 0
AcceptedZonesAreNamed = (text : List ℕ) (program : Program) → IsProgramOf text program → NamesZones program
