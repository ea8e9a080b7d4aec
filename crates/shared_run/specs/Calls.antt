-- What the calls of a board do.
use Rattle.std.specs.Prelude.{◌≡◌, ◌≢◌, ◌↔◌, ℕ, ℤ, ◌+◌, List, [], ◌∷◌, ◌++◌, length, replicate}
use Rattle.std.specs.Prelude.{Option, Some, None, Bool, true, false, is_none, is_some, IsSome, IfSome}
use Rattle.std.specs.Option.{option_map}
use Rattle.semantics.specs.Paths.{Path as RunningPath}
use Rattle.semantics.specs.Frames.{Frame}
use Rattle.semantics.specs.Effect.{Detach, action_of}
use Rattle.semantics.specs.Events as running
use Rattle.semantics.specs.Events.{Machine, event, top_of}
use Rattle.program.specs.declared.function.Program.{Program}
use Rattle.frame.specs.declared.path.Path.{Path}
use Rattle.frame.specs.declared.event.Event.{Event}
use Rattle.frame.specs.declared.event.Event.TheVariants.{Step, Steal}
use Rattle.schedule_core.specs.FrameStrands.{Absorbs, FrameStrandFits, IsLoaded}
use Rattle.schedule_core.specs.schedule_commit.Absorbing.{steps_in}
use Rattle.schedule_core.specs.frame_strand.declared.outside.FrameStrand.{FrameStrand}
use Rattle.schedule_core.specs.frame_strand.declared.standing.FrameStrandPause.TheVariants.{Blank, Border, Need}
use Rattle.schedule_core.specs.frame_engine.Flat.{cell_in}
use Rattle.schedule_core.specs.Replaying.{event_of, LeavesAsBefore, Replays}
use Rattle.schedule_core.specs.Viewed.{place_in, status_in, IsFirstReady}
use Rattle.schedule_core.specs.declared.ready.Ticket.{Ticket}
use Rattle.shared_run.specs.declared.answers.Stepped.{Stepped}
use Rattle.shared_run.specs.declared.answers.Stepped.TheVariants as stepped
use Rattle.shared_run.specs.declared.answers.Fetched.{Fetched}
use Rattle.shared_run.specs.declared.answers.Fetched.TheVariants as fetched
use Rattle.shared_run.specs.declared.answers.Committed.{Committed}
use Rattle.shared_run.specs.declared.answers.Committed.TheVariants as committed
use Rattle.shared_run.specs.declared.answers.Claimed.{Claimed}
use Rattle.shared_run.specs.declared.answers.Claimed.TheVariants as claimed
use Rattle.shared_run.specs.Story.{Origin, Story, SeatView, place, named_by, state_of, story}

-- nothing has happened yet
pub record Begins (o : Origin) (s : Story) : Type 0 where
  pub start : s.start ≡ o
  pub events : s.events ≡ []
  pub stage : Replays o.program o.arguments o.memory o.workers [] s.stage

-- board and seat are as they were
abbrev pub Same : Story → Story → SeatView → SeatView → Type 0
Same s t p q = (t ≡ s) × (q ≡ p)

-- start, history and seat are as they were, and the machine stands as it did
pub record Stays (s t : Story) (p q : SeatView) : Type 0 where
  pub start : t.start ≡ s.start
  pub events : t.events ≡ s.events
  pub stage : LeavesAsBefore s.stage t.stage
  pub seat : q ≡ p

-- memory was refused for the event
abbrev pub Leaves : Event → Story → Story → SeatView → SeatView → Type 0
Leaves (Step worker) s t p q = Stays s t p q
Leaves (Steal worker path) s t p q = Same s t p q

-- just these events were appended, and counted in the seat's share
pub record Appends (more : List Event) (s t : Story) (p q : SeatView) : Type 0 where
  pub start : t.start ≡ s.start
  pub events : t.events ≡ s.events ++ more
  pub share : q ≡ place p.worker (p.share + length more)

-- the strand has one cell more that it read, and goes on
pub record IsFilled (x y : FrameStrand) (at z : ℤ) : Type 0 where
  pub reads : y.course.cells.reads ≡ x.course.cells.reads ++ record { at = at; value = z } ∷ []
  pub loaded : y.course.loaded ≡ x.course.loaded
  pub path : y.course.path ≡ x.course.path
  pub present : y.course.present ≡ x.course.present
  pub done : y.course.done ≡ x.course.done
  pub pause : y.pause ≡ None

-- why a strand gets nothing: it holds a frame, and needs no cell, or one that is not there
abbrev pub IsStranger : Story → FrameStrand → Type 0
IsStranger s x = (x.pause ≢ Some Blank) × ((at : ℤ) → x.pause ≡ Some (Need at) →
    cell_in s.stage.run.cells.cells.items at ≡ None)

-- what the event makes of the state, where it is enabled
abbrev pub outcome : Story → Event → Option Machine
outcome s e = event s.start.program s.start.workers (event_of e) (state_of s)

-- the event was enabled and is done; or it was not, and nothing was done
abbrev pub Tries : Event → Story → Story → SeatView → SeatView → Bool → Type 0
Tries e s t p q true = Appends (e ∷ []) s t p q × (outcome s e ≡ Some (state_of t))
Tries e s t p q false = Same s t p q × (outcome s e ≡ None)

-- ---- a step

-- the next instruction of the worker is a detach
pub record IsDetach (program : Program) (m : Machine) (worker : ℕ) : Type 0 where
  pub path : RunningPath
  pub frame : Frame
  pub hand : m.hands worker ≡ Some path
  pub stands : m.core.frames path ≡ Some frame
  pub region : ℕ
  pub body : ℕ
  pub continuation : ℕ
  pub action : action_of program path frame m.core.memory ≡ Detach region body continuation

-- the ticket names the task, ready now, whose top the worker ran before
pub record IsParents (s t : Story) (worker : ℕ) (ticket : Ticket) : Type 0 where
  pub path : Path
  pub named : named_by t.stage ticket ≡ Some path
  pub ready : status_in t.start.workers (state_of t) path ≡ Some running.Ready
  pub top : (state_of s).hands worker ≡ Some (top_of (state_of t).core (place_in path))

-- how many frames stand below the one that the worker runs next
abbrev pub depth_in : Machine → ℕ → Option ℕ
depth_in m worker = option_map (λ (p : RunningPath). length p) (m.hands worker)

-- the second depth is one more than the first
abbrev pub IsOneBelow : Option ℕ → Option ℕ → Type 0
IsOneBelow before now = (depth : ℕ) × (before ≡ Some depth) × (now ≡ Some (depth + 1))

-- one step of the seat's worker, or nothing
abbrev pub Steps : Story → Story → SeatView → SeatView → Stepped → Type 0
Steps s t p q (stepped.Done ready idle ended) =
    Appends (Step p.worker ∷ []) s t p q
    × (IsSome ready ↔ IsDetach s.start.program (state_of s) p.worker)
    × IfSome ready (IsParents s t p.worker)
    × (idle ≡ is_none ((state_of t).hands p.worker))
    × (ended ≡ is_some (state_of t).core.result)
Steps s t p q stepped.Idle = Same s t p q × ((state_of s).hands p.worker ≡ None)
Steps s t p q stepped.OutOfMemory = Stays s t p q

-- ---- a strand

-- what a strand gets
abbrev pub Fetches : Story → SeatView → FrameStrand → FrameStrand → Fetched → Type 0
Fetches s p x y fetched.Frame = (x.pause ≡ Some Blank) × IsLoaded s.stage p.worker y
Fetches s p x y fetched.Cell = (at z : ℤ) × (x.pause ≡ Some (Need at)) ×
    (cell_in s.stage.run.cells.cells.items at ≡ Some z) × IsFilled x y at z
Fetches s p x y fetched.Idle = (y ≡ x) × (x.pause ≡ Some Blank) × ((state_of s).hands p.worker ≡ None)
Fetches s p x y fetched.Stranger = (y ≡ x) × IsStranger s x

-- as many steps of the worker as a strand did instructions, up to its border's
abbrev pub before_border : Story → SeatView → FrameStrand → Story
before_border s p x = story s.start (s.events ++ replicate x.course.done (Step p.worker)) s.stage

-- it stands at a detach
abbrev pub EndsInDetach : Story → SeatView → FrameStrand → Type 0
EndsInDetach s p x = (x.pause ≡ Some Border) × IsDetach s.start.program (state_of (before_border s p x)) p.worker

-- the strand's instructions and its border's as steps of the seat's worker, or nothing
abbrev pub Commits : FrameStrand → Story → Story → SeatView → SeatView → Committed → Type 0
Commits x s t p q (committed.After ready idle ended) =
    FrameStrandFits s.stage p.worker x
    × Appends (replicate (steps_in x.pause x.course.done) (Step p.worker)) s t p q
    × (IsSome ready ↔ EndsInDetach s p x)
    × IfSome ready (IsParents (before_border s p x) t p.worker)
    × (idle ≡ is_none ((state_of t).hands p.worker))
    × (ended ≡ is_some (state_of t).core.result)
Commits x s t p q committed.Stranger = Same s t p q × ¬ FrameStrandFits s.stage p.worker x
Commits x s t p q committed.OutOfMemory = Stays s t p q

-- the strand fits, and its steps were appended; or it does not, and nothing was
abbrev pub Absorbing : FrameStrand → Story → Story → SeatView → SeatView → Bool → Type 0
Absorbing x s t p q true =
    FrameStrandFits s.stage p.worker x × Appends (replicate (steps_in x.pause x.course.done) (Step p.worker)) s t p q ×
    Absorbs s.stage t.stage p.worker x
Absorbing x s t p q false = Same s t p q × ¬ FrameStrandFits s.stage p.worker x

-- ---- a claim

-- the worker is idle, and the task of the path is ready
abbrev pub CanTake : Story → SeatView → Path → Type 0
CanTake s p path = ((state_of s).hands p.worker ≡ None) ×
    (status_in s.start.workers (state_of s) path ≡ Some running.Ready)

-- one steal of the task of the path by the seat's worker, or nothing
abbrev pub Takes : Path → Story → Story → SeatView → SeatView → Claimed → Type 0
Takes path s t p q claimed.Taken = Appends (Steal p.worker path ∷ []) s t p q × CanTake s p path
Takes path s t p q claimed.Gone = Same s t p q × ¬ CanTake s p path
Takes path s t p q claimed.OutOfMemory = Same s t p q

-- the same for the ticket's task
abbrev pub Claims : Ticket → Story → Story → SeatView → SeatView → Claimed → Type 0
Claims ticket s t p q claimed.Taken = (path : Path) × (named_by s.stage ticket ≡ Some path) ×
    Takes path s t p q claimed.Taken
Claims ticket s t p q claimed.Gone = Same s t p q × ((path : Path) → named_by s.stage ticket ≡ Some path →
    ¬ CanTake s p path)
Claims ticket s t p q claimed.OutOfMemory = Same s t p q

-- the same for the ready task of least path
abbrev pub ClaimsFirst : Story → Story → SeatView → SeatView → Claimed → Type 0
ClaimsFirst s t p q claimed.Taken = (path : Path) × IsFirstReady s.start.workers (state_of s) path ×
    Takes path s t p q claimed.Taken
ClaimsFirst s t p q claimed.Gone = Same s t p q × ((path : Path) → ¬ CanTake s p path)
ClaimsFirst s t p q claimed.OutOfMemory = Same s t p q
