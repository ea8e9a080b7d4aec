use Rattle.std.proofs.Common.{take}
use Rattle.schedule_core.specs.Replaying.{IsMachine, ReplaysMore}
use Rattle.schedule_core.proofs.events.apply_all.Given as goal

abbrev pub invariant-loop-event : goal.invariant-loop-event
invariant-loop-event l = record { replays : ReplaysMore l.fn.stage l.stage (take l.event-index l.events); machine : ∥ IsMachine l.stage ∥₁ }
