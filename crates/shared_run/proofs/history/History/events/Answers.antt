use Rattle.shared_run.proofs.Runs.{spelled_next}
use Rattle.shared_run.proofs.history.History.events.Goals as goal

pub loop-entry-preserved : goal.loop-entry-preserved
loop-entry-preserved c = spelled_next _ _ _ _ _ c.loop-entry-test.true c.entry-item.is c.loop-entry.invariant c.in_ok-spell.ensures
