-- What a board has done since its start.
use Rattle.std.specs.Prelude.{◌≡◌, ℕ, ℤ, ◌<◌, List, length, map, Option, Some, None, slice_get}
use Rattle.semantics.specs.Events.{Machine}
use Rattle.program.specs.declared.function.Program.{Program}
use Rattle.schedule_core.specs.verifier.Accepted.{IsAccepted}
use Rattle.schedule_core.specs.store.Cells.{NamedCells}
use Rattle.schedule_core.specs.store.Made.{IsMadeFor}
use Rattle.frame.specs.declared.path.Path.{Path}
use Rattle.schedule_core.specs.store.Requirements.{unmet_in}
use Rattle.frame.specs.declared.event.Event.{Event}
use Rattle.schedule_core.specs.declared.stage.Stage.{Stage}
use Rattle.schedule_core.specs.Replaying.{AreEnabled, event_of, first_state, state_after, Replays}
use Rattle.schedule_core.specs.Admission.{IsNumberOfWorkers}
use Rattle.schedule_core.specs.Spots.{path_of_use}
use Rattle.schedule_core.specs.declared.ready.Ticket.{Ticket}

-- where a run begins
pub record Origin : Type 0 where
  pub program : Program
  pub arguments : List ℤ
  pub memory : List NamedCells
  pub workers : ℕ

abbrev pub origin : Program → List ℤ → List NamedCells → ℕ → Origin
origin program arguments memory workers = record {
  program = program;
  arguments = arguments;
  memory = memory;
  workers =
      workers;
}

-- the start, the events since then in their order, and the stage that they led to
pub record Story : Type 0 where
  pub start : Origin
  pub events : List Event
  pub stage : Stage

abbrev pub story : Origin → List Event → Stage → Story
story o events stage = record { start = o; events = events; stage = stage }

-- a seat's worker, and how many events the calls at this seat appended
pub record SeatView : Type 0 where
  pub worker : ℕ
  pub share : ℕ

abbrev pub place : ℕ → ℕ → SeatView
place worker share = record { worker = worker; share = share }

-- the definitions' state before the first event
abbrev pub first_of : Origin → Machine
first_of o = first_state o.program o.arguments o.memory

-- and after these events
abbrev pub reached : Origin → List Event → Machine
reached o events = state_after o.program o.arguments o.memory o.workers events

abbrev pub state_of : Story → Machine
state_of s = reached s.start s.events

-- the stage is the replay of the events, each of which was enabled; it is one of an accepted module, from arguments
-- that `main` takes and memory that was made for the module
pub record IsLegal (o : Origin) (events : List Event) (stage : Stage) : Type 0 where
  pub replays : Replays o.program o.arguments o.memory o.workers events stage
  pub enabled : AreEnabled o.program o.workers (map event_of events) (first_of o)
  pub manned : IsNumberOfWorkers o.workers
  pub accepted : IsAccepted o.program
  pub taken : unmet_in o.program o.arguments ≡ None
  pub made : IsMadeFor o.program o.memory

-- the path of the frame that lives in the use of a slot that the ticket names
abbrev pub named_by : Stage → Ticket → Option Path
named_by stage ticket = path_of_use stage.run.cactus ticket.slot ticket.generation

-- an unused seat for each worker, in their order
abbrev pub AreSeats : ℕ → List SeatView → Type 0
AreSeats workers seats = (length seats ≡ workers) ×
    ((worker : ℕ) → worker < workers → slice_get seats worker ≡ Some (place worker 0))
