use Rattle.std.specs.Prelude.{◌≡◌, ◌++◌, replicate}
use Rattle.frame.specs.declared.event.Event.TheVariants.{Step}
use Rattle.shared_run.proofs.history.spell_steps.Given as goal

abbrev pub invariant-loop-step : goal.invariant-loop-step
invariant-loop-step l = l.events.items ≡ l.fn.events.items ++ replicate l._step (Step l.worker)
