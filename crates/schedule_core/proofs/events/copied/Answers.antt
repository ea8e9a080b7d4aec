use Rattle.std.proofs.Common.{sym, subst}
use Rattle.frame_engine.specs.declared.activation.Places.{Places}
use Rattle.schedule_workers.specs.Starts.{ArePlaces}
use Rattle.schedule_core.specs.Stages.{program_of}
use Rattle.schedule_core.proofs.Commits.{places_kept}
use Rattle.schedule_core.proofs.Doubling.{doubled, machine_doubled}
use Rattle.schedule_core.proofs.events.copied.Goals as goal

pub returns-clause-same : goal.returns-clause-same
returns-clause-same c =
    let stage = c.args.stage.now in
    let at = subst (λ (p : Places). ArePlaces (program_of stage) p) (sym c.in_ok-places.ensures) (places_kept stage c.requires) in
    doubled stage c.requires c.in_ok-run.run' c.in_ok-run.ensures c.in_ok-places.places at c.in_ok-memory.memory c.in_ok-memory.ensures

pub returns-clause-machine : goal.returns-clause-machine
returns-clause-machine c =
    let stage = c.args.stage.now in
    let at = subst (λ (p : Places). ArePlaces (program_of stage) p) (sym c.in_ok-places.ensures) (places_kept stage c.requires) in
    machine_doubled stage c.requires c.in_ok-run.run' c.in_ok-run.ensures c.in_ok-places.places at c.in_ok-memory.memory c.in_ok-memory.ensures
