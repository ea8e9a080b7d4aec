use Rattle.std.proofs.Common.{[]}
use Rattle.schedule_core.proofs.Begun.{kept_by}
use Rattle.schedule_core.proofs.machine.Machine.start.Goals as goal

pub returns-clause-schedule : goal.returns-clause-schedule
returns-clause-schedule c =
    kept_by c.args.verified.now c.args.arguments.now c.args.memory c.args.workers c.in_ok-stage.stage c.in_ok-stage.ensures.machine c.in_ok-stage.ensures.replays c.in_ok-stage.ensures.admitted.0 c.requires c.in_ok-stage.ensures.admitted.1.0 []

pub invariant_of-result : goal.invariant_of-result
invariant_of-result c = record { kept = ∣ c.in_ok-stage.ensures.machine ∣₁ }
