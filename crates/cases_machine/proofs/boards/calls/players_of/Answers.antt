use Rattle.std.proofs.Common.{subst, sym}
use Rattle.shared_run.specs.schedule_core.frame_engine.declared.activation.Places.{Places}
use Rattle.shared_run.specs.schedule_workers.Starts.{ArePlaces}
use Rattle.shared_run.proofs.schedule_core.Coding.{places_are}
use Rattle.cases_machine.proofs.boards.calls.players_of.Goals as goal

pub blank_frame_strand-requires : goal.blank_frame_strand-requires
blank_frame_strand-requires g c =
    subst (λ (p : Places). ArePlaces c.args.verified.now p) (sym c.places.ensures) (places_are c.args.verified.now c.args.code.now c.requires.decoded)
