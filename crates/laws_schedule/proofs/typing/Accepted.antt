-- All of it for each program that the verifier takes.
use Rattle.std.proofs.Common.{Ok}
use Rattle.program.specs.declared.function.Program.{Program}
use Rattle.syntax.specs.declared.module.Module.{Module}
use Rattle.ir_reader.specs.Kept.{IsKeptModule}
use Rattle.ir_reader.proofs.Keeping.{answers_kept}
use Rattle.types.specs.Meaning.{Means}
use Rattle.verifier.specs.Accepted.{IsRight}
use Rattle.laws_phases.proofs.facts.Stable.{facts_are_stable}
use Rattle.laws_schedule.specs.typing.Accepted.{HasNamesAndTypes, AcceptedProgramsAreTyped}
use Rattle.laws_schedule.proofs.typing.Calls.{upward}
use Rattle.laws_schedule.proofs.typing.Named.{phis_apart}
use Rattle.laws_schedule.proofs.typing.Kinded.{kinds_are_right}
use Rattle.laws_schedule.proofs.typing.Laws.{names_are_right, types_are_right, parameters_are_named, objects_are_named}
use Rattle.laws_schedule.proofs.typing.Main.{main_there}
use Rattle.laws_schedule.proofs.typing.Uses.{uses_defined}

has_all : (whole : Module) (program : Program) → IsKeptModule whole → (m : Means whole (Ok program)) → IsRight program → HasNamesAndTypes program
has_all whole program kept m right = record {
  named = names_are_right whole program kept m right.graph;
  phis_apart = phis_apart whole kept program m;
  typed = types_are_right whole program m right.graph right.regions;
  parameters = parameters_are_named whole program m;
  objects = objects_are_named whole program kept m right.graph right.regions (uses_defined program right.definedness);
  upward = upward whole program m;
  kinds = kinds_are_right whole program kept m;
  stable = facts_are_stable program (names_are_right whole program kept m right.graph) (phis_apart whole kept program m) (types_are_right whole program m right.graph right.regions) right.graph right.regions (uses_defined program right.definedness);
  uses = uses_defined program right.definedness;
  main = record { there = (main_there whole kept program m).0; gives = (main_there whole kept program m).1 };
}

pub accepted_programs_are_typed : AcceptedProgramsAreTyped
accepted_programs_are_typed text program accepted =
    has_all accepted.0 program (answers_kept text accepted.0 accepted.1) accepted.2 accepted.3
