use Rattle.schedule_core.proofs.Begun.{kept_by}
use Rattle.schedule_core.proofs.schedule.replay.Goals as goal

pub apply_all-requires : goal.apply_all-requires
apply_all-requires c = ∣ c.in_ok-stage.ensures.machine ∣₁

pub returns-clause-replays : goal.returns-clause-replays
returns-clause-replays c = c.in-Ok.ensures.replays _ _ _ _ _ c.in_ok-stage.ensures.replays

pub returns-clause-keeps : goal.returns-clause-keeps
returns-clause-keeps c =
    kept_by c.args.verified.now c.args.arguments.now c.args.memory c.args.workers c.in_ok-stage.stage c.in_ok-stage.ensures.machine c.in_ok-stage.ensures.replays c.in_ok-stage.ensures.admitted.0 c.requires c.in_ok-stage.ensures.admitted.1.0 c.args.events.now

pub invariant_of-result : goal.invariant_of-result
invariant_of-result c = record { kept = c.apply_all.ensures.machine }
