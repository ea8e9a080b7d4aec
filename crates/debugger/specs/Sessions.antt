-- A debugger stands between two events of a list.
use Rattle.std.specs.Prelude.{◌≡◌, ◌⊎◌, ◌<◌, ◌≤◌, ℕ, ℤ, List, All, length, take}
use Rattle.semantics.specs.Events as running
use Rattle.program.specs.declared.function.Program.{Program}
use Rattle.frame.specs.declared.path.Path.{Path}
use Rattle.schedule_core.specs.store.Cells.{NamedCells}
use Rattle.frame.specs.declared.event.Event.{Event}
use Rattle.schedule_core.specs.declared.stage.Stage.{Stage}
use Rattle.schedule_core.specs.Lines.{StandsAt}
use Rattle.schedule_core.specs.declared.task.TaskView.{TaskView}
use Rattle.schedule_core.specs.Replaying.{HasLineAfter, LeavesAsBefore, Replays, state_after}
use Rattle.schedule_core.specs.Viewed.{place_in}
use Rattle.debugger.specs.declared.debugger.Debugger.{Debugger}
use Rattle.debugger.specs.declared.marks.Mark.{Mark}
use Rattle.debugger.specs.declared.marks.Marks.{Marks}

-- what is debugged: a schedule of a program, from arguments and globals
pub record Session : Type 0 where
  pub program : Program
  pub arguments : List ℤ
  pub globals : List NamedCells
  pub workers : ℕ
  pub events : List Event

-- the definitions' state after so many events
abbrev pub state_at : Session → ℕ → running.Machine
state_at s n = state_after s.program s.arguments s.globals s.workers (take n s.events)

-- the stage is the replay of so many events from the start
abbrev pub IsAt : Session → ℕ → Stage → Type 0
IsAt s n stage = Replays s.program s.arguments s.globals s.workers (take n s.events) stage

abbrev pub IsMark : Session → Mark → Type 0
IsMark s mark = IsAt s mark.position mark.machine.stage

pub record AreMarks (s : Session) (marks : Marks) : Type 0 where
  pub first : IsAt s 0 marks.first.stage
  pub rest : All (IsMark s) marks.rest.items

pub record Debugs (s : Session) (d : Debugger) : Type 0 where
  pub events : d.events.items ≡ s.events
  pub at : IsAt s d.position d.machine.stage
  pub marks : AreMarks s d.marks

-- the view has the line of its task of this path, at this position
abbrev pub HasLineAt : Session → ℕ → Path → TaskView → Type 0
HasLineAt s n path view = HasLineAfter s.program s.arguments s.globals s.workers (take n s.events) (place_in path) view

-- after the one position the other is the first at which a worker's next instruction stands on the line, or the end
pub record IsFirstStop (s : Session) (line old new : ℕ) : Type 0 where
  pub later : old ≤ new
  pub past : (n : ℕ) → old < n → n < new → ¬ StandsAt s.program (state_at s n) line
  pub stops : ((old < new) × StandsAt s.program (state_at s new) line) ⊎ (new ≡ length s.events)

-- position and state stay
pub record Stays (old new : Debugger) : Type 0 where
  pub position : new.position ≡ old.position
  pub state : LeavesAsBefore old.machine.stage new.machine.stage
