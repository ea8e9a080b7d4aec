-- What is so of each living frame, and stays so by every step: it is so in each state that a schedule leads to.
use Rattle.std.specs.Prelude.{◌≡◌, ℕ, ◌≤◌, List, length, Some, Bool, true, ℤ}
use Rattle.semantics.specs.Paths.{Path}
use Rattle.semantics.specs.Cells.{Memory}
use Rattle.semantics.specs.Frames.{Frame}
use Rattle.semantics.specs.State.{State}
use Rattle.semantics.specs.Events.{Machine, Event, start}
use Rattle.semantics.specs.Replay.{replay}
use Rattle.semantics.specs.Sound.{NeverTraps}
use Rattle.program.specs.declared.function.Program.{Program}
use Rattle.laws_schedule.specs.zones.ByPhases.{IsKeptBySteps}

-- it is so of each living frame
abbrev pub OfAll : State → (Path → Frame → Type 0) → Type 0
OfAll s holds = (p : Path) (f : Frame) → s.frames p ≡ Some f → holds p f

-- what each step keeps of each frame is so of all frames
abbrev pub KeepsEverywhere : Program → (Path → Frame → Type 0) → Type 0
KeepsEverywhere prog holds =
    IsKeptBySteps prog holds → (workers : ℕ) (m : Machine) → NeverTraps prog workers m → OfAll m.core holds →
    (events : List Event) →
    OfAll (replay prog workers events m).core holds

-- for what is told by a test
abbrev pub KeptIsEverywhere : Type 0
KeptIsEverywhere = (prog : Program) (test : Path → Frame → Bool) → KeepsEverywhere prog (λ p f. test p f ≡ true)

-- no number of a frame is above n: its place in its block, the children that it made, the frames above it
pub record IsWithin (n : ℕ) (p : Path) (f : Frame) : Type 0 where
  pub index : f.index ≤ n
  pub made : f.made ≤ n
  pub depth : length p ≤ n

-- nor above the instructions done
abbrev pub FramesAreCounted : Type 0
FramesAreCounted =
    (prog : Program) (arguments : List ℤ) (memory : Memory) (workers : ℕ) →
    NeverTraps prog workers (start prog arguments memory) → (events : List Event) →
    OfAll (replay prog workers events (start prog arguments memory)).core
    (IsWithin (replay prog workers events (start prog arguments memory)).core.done)
