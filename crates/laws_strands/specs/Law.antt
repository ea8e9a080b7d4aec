-- A frame strand whose frame and reads are those of a machine is steps of the worker that runs the frame.
use Rattle.std.specs.Prelude.{◌≡◌, ℕ, zero, suc, ◌+◌, List, [], ◌∷◌, Some, None, true, is_some, ℤ}
use Rattle.std.specs.List.{All}
use Rattle.semantics.specs.Cells.{Cell}
use Rattle.semantics.specs.State.{override, only, may_go}
use Rattle.semantics.specs.Events.{Machine, Event, Step, event}
use Rattle.semantics.specs.Replay.{replay}
use Rattle.semantics.specs.Sound.{NeverTraps}
use Rattle.laws_strands.specs.Footprint.{Delta, write_at, put}
use Rattle.laws_strands.specs.FrameStrands.{FrameStrand, IsFrameStrand}
use Rattle.semantics.specs.program.declared.function.Program.{Program}

abbrev pub steps_by : ℕ → ℕ → List Event
steps_by w zero = []
steps_by w (suc n) = Step w ∷ steps_by w n

-- the events are enabled, one after another, and lead from m to the machine
abbrev pub Happen : Program → ℕ → List Event → Machine → Machine → Type 0
Happen prog workers [] m after = m ≡ after
Happen prog workers (e ∷ events) m after = (next : Machine) × (event prog workers e m ≡ Some next) ×
    Happen prog workers events next after

-- the worker runs the loaded frame at its path, and each cell that was read holds what was read
pub record Fits (m : Machine) (w : ℕ) (s : FrameStrand) : Type 0 where
  pub hand : m.hands w ≡ Some s.path
  pub frame : m.core.frames s.path ≡ Some s.loaded
  pub reads : All (λ r. m.core.memory r.0 ≡ Some r.1) s.footprint.reads

-- the machine with the strand's frame, writes and count; deltas are added to what its cells hold
abbrev pub absorbed : Machine → FrameStrand → Machine
absorbed m s =
    record m {
      core = record m.core {
        frames = λ x. override (only s.path (Some s.present) x) (m.core.frames x);
        memory = λ x. put (write_at s.footprint x) (m.core.memory x);
        done = s.done + m.core.done;
      };
    }

-- ---- of a machine that never traps, as the schedule theorem says of each machine that a schedule of a checked program
-- leads to

pub record IsSteps (prog : Program) (workers : ℕ) (m : Machine) (w : ℕ) (s : FrameStrand) : Type 0 where
  pub steps : Happen prog workers (steps_by w s.done) m (absorbed m s)
  -- what a delta is added to is there
  pub deltas : (x : Cell) (z : ℤ) → write_at s.footprint x ≡ Some (Delta z) → is_some (m.core.memory x) ≡ true

abbrev pub FrameStrandsAreSteps : Type 0
FrameStrandsAreSteps =
    (prog : Program) (workers : ℕ) (m : Machine) (w : ℕ) (s : FrameStrand) → IsFrameStrand prog s → Fits m w s →
    NeverTraps prog workers m →
    IsSteps prog workers m w s

-- ---- reads that the machine need not hold yet

-- a cell that was read holds what was read, where it holds a number
abbrev pub ReadsAgree : Machine → FrameStrand → Type 0
ReadsAgree m s = All (λ r. (z : ℤ) → m.core.memory r.0 ≡ Some z → z ≡ r.1) s.footprint.reads

-- then it does hold a number: a machine that never traps loads it
abbrev pub FrameReadsAreThere : Type 0
FrameReadsAreThere =
    (prog : Program) (workers : ℕ) (m : Machine) (w : ℕ) (s : FrameStrand) → IsFrameStrand prog s →
    m.hands w ≡ Some s.path →
    m.core.frames s.path ≡ Some s.loaded → NeverTraps prog workers m → ReadsAgree m s → Fits m w s

-- ---- of any machine

-- it has not trapped, the loaded frame may go on, and each cell that was written holds a value
pub record HasValues (m : Machine) (s : FrameStrand) : Type 0 where
  pub sound : m.trapped ≡ None
  pub goes : may_go m.core s.path s.loaded.made s.loaded.waits ≡ true
  pub values : (x : Cell) → is_some (write_at s.footprint x) ≡ true → is_some (m.core.memory x) ≡ true

abbrev pub FrameStrandsAreStepsWhereDefined : Type 0
FrameStrandsAreStepsWhereDefined =
    (prog : Program) (workers : ℕ) (m : Machine) (w : ℕ) (s : FrameStrand) → IsFrameStrand prog s → Fits m w s →
    HasValues m s →
    Happen prog workers (steps_by w s.done) m (absorbed m s)

-- ---- with the border's instruction

-- the strand's steps and one more of the worker, which is enabled and does not trap
pub record IsStepsWithBorder (prog : Program) (workers : ℕ) (m : Machine) (w : ℕ) (s : FrameStrand) : Type 0 where
  pub after : Machine
  pub border : event prog workers (Step w) (absorbed m s) ≡ Some after
  pub steps : Happen prog workers (steps_by w (suc s.done)) m after
  pub sound : after.trapped ≡ None

abbrev pub FrameStrandsGoOverBorders : Type 0
FrameStrandsGoOverBorders =
    (prog : Program) (workers : ℕ) (m : Machine) (w : ℕ) (s : FrameStrand) → IsFrameStrand prog s → Fits m w s →
    NeverTraps prog workers m →
    IsStepsWithBorder prog workers m w s

-- ---- where a schedule leads

-- where no schedule traps, no machine that one leads to ever traps
abbrev pub ReachedNeverTraps : Type 0
ReachedNeverTraps =
    (prog : Program) (workers : ℕ) (first : Machine) (events : List Event) → NeverTraps prog workers first →
    NeverTraps prog workers (replay prog workers events first)
