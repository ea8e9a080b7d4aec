-- A strand whose base and reads are those of a machine is steps of the worker that runs the base.
use Rattle.std.specs.Prelude.{◌≡◌, Bool, ℕ, suc, ◌+◌, ◌<◌, ◌≤◌, max, List, [], ◌∷◌, Option, Some, None, true, cond}
use Rattle.std.specs.Prelude.{is_some, ℤ}
use Rattle.std.specs.List.{All}
use Rattle.semantics.specs.Paths.{Path, same_path}
use Rattle.semantics.specs.Cells.{Cell, Memory}
use Rattle.semantics.specs.Frames.{Free, OnCall, Role, Frame}
use Rattle.semantics.specs.Effect.{Reattach, Return}
use Rattle.semantics.specs.State.{State, Change, apply, none_within, outside_role, may_go, change_of}
use Rattle.semantics.specs.Tree.{Tree}
use Rattle.semantics.specs.Events.{Machine, Event, Step, event, with_hand, Running, Ready, top_status, start}
use Rattle.semantics.specs.Counts.{Counts, count_of}
use Rattle.semantics.specs.Replay.{replay}
use Rattle.semantics.specs.Sound.{NeverTraps}
use Rattle.laws_strands.specs.Law.{steps_by, Happen}
use Rattle.laws_strands.specs.stacks.Footprint.{Delta, put}
use Rattle.laws_strands.specs.stacks.Strands.{Placed, Strand, next_action, IsStrand}
use Rattle.linear.specs.declared.form.RegisterId.{RegisterId}
use Rattle.program.specs.declared.function.Program.{Program}

-- each frame but the root has a parent that made it, and each worker's frame lives and is no other worker's
pub record IsOrderly (m : Machine) : Type 0 where
  pub tree : Tree m.core
  pub alone : (v w : ℕ) (p : Path) → m.hands v ≡ Some p → m.hands w ≡ Some p → v ≡ w
  pub lives : (w : ℕ) (p : Path) → m.hands w ≡ Some p → is_some (m.core.frames p) ≡ true

-- the worker runs the base, and no older child of the base lives in a region that it synced
pub record Runs (m : Machine) (w : ℕ) (d : Strand) : Type 0 where
  pub hand : m.hands w ≡ Some d.base.path
  pub frame : m.core.frames d.base.path ≡ Some d.base.frame
  pub synced : All (λ r. none_within m.core d.base.path d.base.frame.made r ≡ true) d.synced

-- and each cell that was read holds what was read
pub record Fits (m : Machine) (w : ℕ) (d : Strand) : Type 0 where
  pub runs : Runs m w d
  pub reads : (x : Cell) (v : ℤ) → d.footprint.reads x ≡ Some v → m.core.memory x ≡ Some v

-- the frames with these put at their paths
abbrev pub with_frames : List Placed → (Path → Option Frame) → Path → Option Frame
with_frames [] frames x = frames x
with_frames (g ∷ more) frames x = cond (same_path g.path x) (Some g.frame) (with_frames more frames x)

-- the machine with the strand's frames, writes and count, and the worker on the top frame; deltas are added to what its
-- cells hold
abbrev pub absorbed : Machine → ℕ → Strand → Machine
absorbed m w d =
    record {
      core = record m.core {
        frames = λ x. with_frames (d.top ∷ d.below) m.core.frames x;
        memory = λ x. put (d.footprint.writes x) (m.core.memory x);
        done = d.done + m.core.done;
        peak = max m.core.peak d.deepest;
      };
      hands = with_hand m.hands w (Some d.top.path);
      trapped = m.trapped;
    }

-- the steps happen one after another, and what a delta is added to is there
pub record IsSteps (prog : Program) (workers : ℕ) (m : Machine) (w : ℕ) (d : Strand) : Type 0 where
  pub steps : Happen prog workers (steps_by w d.done) m (absorbed m w d)
  pub deltas : (x : Cell) (z : ℤ) → d.footprint.writes x ≡ Some (Delta z) → is_some (m.core.memory x) ≡ true

abbrev pub StrandsAreSteps : Type 0
StrandsAreSteps =
    (prog : Program) (workers : ℕ) (m : Machine) (w : ℕ) (d : Strand) → IsStrand prog d → Fits m w d → IsOrderly m →
    NeverTraps prog workers m →
    IsSteps prog workers m w d

-- ---- with one step more

-- the strand's steps and one more of the worker, as where the base ends: it is enabled and does not trap
pub record IsStepsWithBorder (prog : Program) (workers : ℕ) (m : Machine) (w : ℕ) (d : Strand) : Type 0 where
  pub after : Machine
  pub border : event prog workers (Step w) (absorbed m w d) ≡ Some after
  pub steps : Happen prog workers (steps_by w (suc d.done)) m after
  pub sound : after.trapped ≡ None

abbrev pub StrandsGoOverBorders : Type 0
StrandsGoOverBorders =
    (prog : Program) (workers : ℕ) (m : Machine) (w : ℕ) (d : Strand) → IsStrand prog d → Fits m w d → IsOrderly m →
    NeverTraps prog workers m →
    IsStepsWithBorder prog workers m w d

-- ---- reads that the machine need not hold yet

-- a cell that was read holds what was read, where it holds a number
abbrev pub ReadsAgree : Machine → Strand → Type 0
ReadsAgree m d = (x : Cell) (v z : ℤ) → d.footprint.reads x ≡ Some v → m.core.memory x ≡ Some z → z ≡ v

-- then it does hold a number: a machine that never traps loads it
abbrev pub ReadsAreThere : Type 0
ReadsAreThere =
    (prog : Program) (workers : ℕ) (m : Machine) (w : ℕ) (d : Strand) → IsStrand prog d → Runs m w d → IsOrderly m →
    NeverTraps prog workers m →
    ReadsAgree m d → Fits m w d

-- ---- the tasks that are left

-- the worker runs the top frame's task, and those of the frames behind a detach are ready
pub record LeavesTasks (workers : ℕ) (m : Machine) (w : ℕ) (d : Strand) : Type 0 where
  pub runs : top_status workers (absorbed m w d) d.top.path ≡ Some (Running w)
  pub ready : All (λ g. g.frame.waits ≡ Free → top_status workers (absorbed m w d) g.path ≡ Some Ready) d.below

abbrev pub StrandsLeaveTasks : Type 0
StrandsLeaveTasks =
    (prog : Program) (workers : ℕ) (m : Machine) (w : ℕ) (d : Strand) → IsStrand prog d → Runs m w d → IsOrderly m →
    w < workers →
    LeavesTasks workers m w d

-- ---- the children that are counted

-- a frame of this role counts as one within the region of its detach
abbrev pub counts_in : Role → ℕ → ℕ
counts_in role region = cond (outside_role region role) 0 1

abbrev pub no_count : ℕ → ℕ
no_count region = 0

-- each frame of the strand counts the one above it and no other child, but for the base, which counts its older ones
-- too
abbrev pub CountsAre : Counts → (ℕ → ℕ) → (ℕ → ℕ) → Placed → List Placed → Type 0
CountsAre counts older newest t [] = (region : ℕ) → counts t.path region ≡ newest region + older region
CountsAre counts older newest t (g ∷ rest) =
    ((region : ℕ) → counts t.path region ≡ newest region) × CountsAre counts older (counts_in t.frame.role) g rest

abbrev pub StrandsCount : Type 0
StrandsCount =
    (prog : Program) (m : Machine) (w : ℕ) (d : Strand) → IsStrand prog d → Runs m w d → IsOrderly m →
    CountsAre (count_of (absorbed m w d).core) (count_of m.core d.base.path) no_count d.top d.below

-- ---- the frame below

-- it waits for what the top frame is: a detached child, or a call
abbrev pub EndsMatch : Type 0
EndsMatch =
    (prog : Program) (d : Strand) (g : Placed) (rest : List Placed) → IsStrand prog d → d.below ≡ g ∷ rest →
    ((region : ℕ) → next_action prog d ≡ Reattach region → g.frame.waits ≡ Free) ×
    ((result : Option ℤ) → next_action prog d ≡ Return result → (k : ℕ) × (register : Option RegisterId) ×
    (g.frame.waits ≡ OnCall k register))

-- ---- what rests on no memory

-- it holds whatever the cells hold, and each step that does not trap keeps it
pub record IsKept (prog : Program) (good : State → Type 0) : Type 0 where
  pub memory : (s : State) (memory : Memory) → good s → good (record s { memory = memory })
  pub steps : (s : State) (p : Path) (c : Change) → good s → change_of prog s p ≡ Some c → c.trap ≡ None →
      good (apply c s)

-- then it holds wherever a strand comes, whatever it read
abbrev pub KeptByStrands : Program → (State → Type 0) → Type 0
KeptByStrands prog good =
    IsKept prog good → (m : Machine) (w : ℕ) (d : Strand) → IsStrand prog d → Runs m w d → IsOrderly m →
    may_go m.core d.base.path d.base.frame.made d.base.frame.waits ≡ true → good m.core → good (absorbed m w d).core

-- for what is told by a test
abbrev pub StrandsKeep : Type 0
StrandsKeep = (prog : Program) (test : State → Bool) → KeptByStrands prog (λ s. test s ≡ true)

-- ---- where a schedule leads

abbrev pub ReachedAreOrderly : Type 0
ReachedAreOrderly =
    (prog : Program) (arguments : List ℤ) (memory : Memory) (workers : ℕ) → 1 ≤ workers → (events : List Event) →
    (replay prog workers events (start prog arguments memory)).trapped ≡ None →
    IsOrderly (replay prog workers events (start prog arguments memory))
