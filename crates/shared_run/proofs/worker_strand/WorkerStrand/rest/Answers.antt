use Rattle.std.proofs.Common.{◌≡◌, sym, ◌∙◌, subst}
use Rattle.program.specs.declared.function.Program.{Program}
use Rattle.schedule_core.specs.frame_engine.declared.activation.Places.{Places}
use Rattle.schedule_workers.specs.Starts.{ArePlaces}
use Rattle.schedule_core.proofs.Coding.{places_are}
use Rattle.shared_run.specs.Strands.{Holds}
use Rattle.shared_run.proofs.Resting.{same_places}
use Rattle.shared_run.proofs.worker_strand.WorkerStrand.rest.Goals as goal

pub returns-clause-stays : goal.returns-clause-stays
returns-clause-stays g c =
    let x = c.self.inside in
    λ places are.
    subst (λ (p : Places). Holds g.L.Bench.code p x.strand x.standing)
    (same_places g.L.Bench.code x.code.now.places places (subst (λ (q : Program). ArePlaces q x.code.now.places) c.self.invariant.0 (places_are x.verified.now x.code.now c.self.invariant.1)) are)
    (subst (λ (q : Program). Holds q x.code.now.places x.strand x.standing) c.self.invariant.0 c.self.invariant.2)
