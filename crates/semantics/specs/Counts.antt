-- A count of living children for each frame and region, as the steps keep it: a detach adds one, a reattach takes one
-- away (Tapir, PPoPP 2017, section 5, keeps it in the frame). The state itself keeps no count; that it says the same is
-- the law below.
use Rattle.std.specs.Prelude.{◌≡◌, ℕ, zero, suc, ◌≤◌, List, [], ◌∷◌, Option, Some, None, true, cond, ◌&&◌, eqb, ℤ}
use Rattle.semantics.specs.Paths.{Path, same_path}
use Rattle.semantics.specs.Cells.{Memory}
use Rattle.semantics.specs.Frames.{Frame}
use Rattle.semantics.specs.Effect.{Action, Detach, Reattach, action_of}
use Rattle.semantics.specs.State.{State, Change, none_within, change_of}
use Rattle.semantics.specs.CoreSteps.{children_within}
use Rattle.semantics.specs.Events.{Machine, Event, Step, Steal, event, start}
use Rattle.semantics.specs.Replay.{or_unchanged, replay}
use Rattle.program.specs.declared.function.Program.{Program}

-- by the frame's path and the region
abbrev pub Counts : Type 0
Counts = Path → ℕ → ℕ

abbrev pub no_counts : Counts
no_counts p region = 0

abbrev pub raised : ℕ → ℕ
raised n = suc n

abbrev pub lowered : ℕ → ℕ
lowered zero = zero
lowered (suc n) = n

-- the count of the frame at p within the region is changed
abbrev pub changed_at : Path → ℕ → (ℕ → ℕ) → Counts → Counts
changed_at p region change counts q r = cond (same_path p q && eqb region r) (change (counts q r)) (counts q r)

-- the child at this path leaves its parent's count
abbrev pub left_by : Path → ℕ → Counts → Counts
left_by [] region counts = counts
left_by (k ∷ above) region counts = changed_at above region lowered counts

abbrev pub counts_after : Path → Action → Counts → Counts
counts_after p (Detach region body continuation) counts = changed_at p region raised counts
counts_after p (Reattach region) counts = left_by p region counts
counts_after p other counts = counts

-- an end with a child left traps, and changes no count
abbrev pub if_changed : Option Change → Counts → Counts → Counts
if_changed None after before = before
if_changed (Some c) after before = after

abbrev pub counts_of_frame : Program → State → Path → Option Frame → Counts → Counts
counts_of_frame prog s p None counts = counts
counts_of_frame prog s p (Some f) counts =
    if_changed (change_of prog s p) (counts_after p (action_of prog p f s.memory) counts) counts

abbrev pub counts_of_hand : Program → State → Option Path → Counts → Counts
counts_of_hand prog s None counts = counts
counts_of_hand prog s (Some p) counts = counts_of_frame prog s p (s.frames p) counts

abbrev pub counts_by : Program → Machine → Event → Counts → Counts
counts_by prog m (Step w) counts = counts_of_hand prog m.core (m.hands w) counts
counts_by prog m (Steal w t) counts = counts

-- an event that is not enabled changes nothing
abbrev pub if_enabled : Option Machine → Counts → Counts → Counts
if_enabled None after before = before
if_enabled (Some next) after before = after

-- along a schedule
abbrev pub counts_along : Program → ℕ → List Event → Machine → Counts → Counts
counts_along prog workers [] m counts = counts
counts_along prog workers (e ∷ events) m counts =
    counts_along prog workers events (or_unchanged (event prog workers e m) m)
    (if_enabled (event prog workers e m) (counts_by prog m e counts) counts)

-- the living children of the frame at a path that it detached within the region
abbrev pub count_in : State → Path → Option Frame → ℕ → ℕ
count_in s p None region = 0
count_in s p (Some f) region = children_within s p f.made region

abbrev pub count_of : State → Counts
count_of s p region = count_in s p (s.frames p) region

-- the counts are those of living children, and a sync passes where its count is none
pub record CountsChildren (counts : Counts) (s : State) : Type 0 where
  pub same : (p : Path) (region : ℕ) → counts p region ≡ count_of s p region
  pub passes : (p : Path) (f : Frame) (region : ℕ) → s.frames p ≡ Some f → counts p region ≡ 0 →
      none_within s p f.made region ≡ true
  pub stalls : (p : Path) (f : Frame) (region : ℕ) → s.frames p ≡ Some f → none_within s p f.made region ≡ true →
      counts p region ≡ 0

abbrev pub RegionCounts : Type 0
RegionCounts =
    (prog : Program) (arguments : List ℤ) (memory : Memory) (workers : ℕ) → 1 ≤ workers → (events : List Event) →
    CountsChildren (counts_along prog workers events (start prog arguments memory) no_counts)
    (replay prog workers events (start prog arguments memory)).core
