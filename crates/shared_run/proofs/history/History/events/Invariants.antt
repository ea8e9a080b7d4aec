use Rattle.std.specs.Prelude.{◌≡◌, take}
use Rattle.shared_run.specs.Spelled.{spelled}
use Rattle.shared_run.proofs.history.History.events.Given as goal

abbrev pub invariant-loop-entry : goal.invariant-loop-entry
invariant-loop-entry l = l.events.items ≡ spelled (take l.entry-index l.entries)
