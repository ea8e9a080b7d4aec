-- What a contract sees of a run on threads.
use Rattle.std.specs.Prelude.{ℕ, List}
use Rattle.semantics.specs.Events.{Machine}
use Rattle.frame.specs.declared.event.Event.{Event}
use Rattle.program.specs.declared.function.Program.{Program}
use Rattle.shared_run.specs.Story.{Origin, reached}
use Rattle.kernel_calls.specs.hosted.Hosted.{start_of}
use Rattle.kernel_calls.specs.declared.hosted.run.HostedRun.{HostedRun}

-- where it began, the events since then, and how many instructions it may have done
pub record Run : Type 0 where
  pub start : Origin
  pub events : List Event
  pub fuel : ℕ

abbrev pub run_of : Program → HostedRun → Run
run_of program x = record { start = start_of program x; events = x.board.history.events; fuel = x.fuel }

-- the definitions' state that the events lead to
abbrev pub machine_of : Run → Machine
machine_of r = reached r.start r.events
