-- The schedule theorem: what every schedule of a checked program keeps, against its serial meaning.
use Rattle.std.specs.Prelude.{◌≡◌, ◌≢◌, ℕ, ◌*◌, ◌≤◌, ◌<◌, List, [], ◌∷◌, Option, Some, None, Bool, true, false, ◌||◌}
use Rattle.std.specs.Prelude.{◌⊎◌, ℤ, pos, ◌≤ℤ◌}
use Rattle.semantics.specs.Paths.{Path}
use Rattle.semantics.specs.Cells.{Cell, Memory, globals_of}
use Rattle.semantics.specs.Frames.{Halted, Frame}
use Rattle.semantics.specs.State.{State, Change, apply, childless, change_of, root_frame}
use Rattle.semantics.specs.SerialMeaning.{Gave, Outcome, IsSerialMeaning}
use Rattle.semantics.specs.Events.{Machine, Event, Step, Steal, event, start}
use Rattle.semantics.specs.Replay.{replay, has_ended, CountsFrames}
use Rattle.laws_conditions.specs.theorem.SerialConditions.{Says, Finds, Rank}
use Rattle.laws_conditions.specs.theorem.Budgets.{RunsSerially}
use Rattle.laws_conditions.specs.theorem.Conditions.{Zone, OwnedBelow, StaysInZone, PassesZonesOn, ClosesRegions}
use Rattle.program.specs.declared.function.Program.{Program}

-- ---- a worker is undisturbed by the others

-- these changes, one after another, are the steps of the frame at p
abbrev pub StepsOf : Program → Path → List Change → State → State → Type 0
StepsOf prog p [] s t = s ≡ t
StepsOf prog p (c ∷ cs) s t = (change_of prog s p ≡ Some c) × StepsOf prog p cs (apply c s) t

abbrev pub read_by : List Change → Cell → Bool
read_by [] x = false
read_by (c ∷ cs) x = c.reads x || read_by cs x

abbrev pub worker_of : Event → ℕ
worker_of (Step w) = w
worker_of (Steal w t) = w

abbrev pub NoneBy : ℕ → List Event → Type 0
NoneBy w [] = Unit {0}
NoneBy w (e ∷ events) = (worker_of e ≢ w) × NoneBy w events

-- whatever the other workers do in between, this one's frame, its next steps and the cells that they read stay the same
pub record Undisturbed (prog : Program) (m later : Machine) (w : ℕ) (p : Path) : Type 0 where
  pub hand : later.hands w ≡ Some p
  pub frame : later.core.frames p ≡ m.core.frames p
  pub steps : (cs : List Change) (t : State) → StepsOf prog p cs m.core t → (u : State) × StepsOf prog p cs later.core u
  pub cells : (cs : List Change) (t : State) (x : Cell) → StepsOf prog p cs m.core t → read_by cs x ≡ true →
      later.core.memory x ≡ m.core.memory x

-- ---- the theorem

-- of a machine that some schedule has led to, where o is the serial meaning
pub record KeepsSchedule (prog : Program) (workers : ℕ) (o : Outcome) (m : Machine) : Type 0 where
  -- no step has trapped
  pub no_trap : (m.trapped ≡ None) × ((p : Path) (f : Frame) → m.core.frames p ≡ Some f → f.waits ≢ Halted)
  pub within_budget : m.core.done ≤ o.count
  pub few_frames : (n : ℕ) → CountsFrames m.core n → n ≤ workers * o.depth
  -- a run that has ended holds what the serial run does
  pub same_memory : has_ended m ≡ true → m.core.memory ≡ o.memory
  pub same_result : has_ended m ≡ true → o.ending ≡ Gave m.core.result
  pub same_count : has_ended m ≡ true → m.core.done ≡ o.count
  pub same_peak : has_ended m ≡ true → m.core.peak ≡ o.depth
  -- each frame without children is on top of a task that a worker runs
  pub busy_leaves : (p : Path) (f : Frame) → m.core.frames p ≡ Some f → childless m.core p f.made ≡ true → (w : ℕ) ×
      (w < workers) × (m.hands w ≡ Some p)
  -- until the run has ended some worker's step is enabled, and a run of as many instructions as the serial one has
  -- ended
  pub goes_on : has_ended m ≡ false → (w : ℕ) × (next : Machine) × (w < workers) ×
      (event prog workers (Step w) m ≡ Some next)
  pub ends_in_time : m.core.done ≡ o.count → has_ended m ≡ true
  pub undisturbed : (w : ℕ) (p : Path) (others : List Event) → m.hands w ≡ Some p → NoneBy w others →
      Undisturbed prog m (replay prog workers others m) w p

-- The serial run exists, and is the only one; it is within the budget and the depth; and on any number of workers,
-- whatever the events, enabled or not, the machine keeps the schedule theorem.
pub record RunsAsSerial (prog : Program) (arguments : List ℤ) (memory : Memory) (budget depth : ℕ) : Type 0 where
  pub outcome : Outcome
  pub serial : IsSerialMeaning prog arguments memory outcome
  pub only_one : (o : Outcome) → IsSerialMeaning prog arguments memory o → o ≡ outcome
  pub within_budget : outcome.count ≤ budget
  pub within_depth : outcome.depth ≤ depth
  pub every_schedule : (workers : ℕ) → 1 ≤ workers → (events : List Event) →
      KeepsSchedule prog workers outcome (replay prog workers events (start prog arguments memory))

-- ---- for conditions that are given by tests

-- the cells that pass, and the allocas of the owner's frame and of those below it
pub record TestedZone : Type 0 where
  pub owner : Path
  pub reads : Cell → Bool
  pub adds : Cell → Bool
  pub gives : Option ℤ → Bool

abbrev pub tested : TestedZone → Zone
tested z = record {
  reads = λ x. (z.reads x ≡ true) ⊎ OwnedBelow z.owner x.object;
  adds = λ x. (z.adds x ≡ true) ⊎ OwnedBelow z.owner x.object;
  gives = λ v. z.gives v ≡ true;
}

-- what is known of frames, each a test, and the numbers that fall
pub record Tests : Type 0 where
  pub fits : Path → Frame → TestedZone → Bool
  pub pending : Path → Frame → ℕ → TestedZone
  pub expects : Frame → TestedZone → Bool
  pub holds : Path → Frame → Bool
  pub opens : Path → Frame → ℕ → Bool
  pub good : Path → Frame → Memory → Bool
  pub finds : Path → Frame → Memory → Outcome → Bool
  pub rank : Frame → Rank
  pub may_use : Frame → ℤ
  pub may_reach : Frame → ℕ

abbrev pub IsGood : Tests → Says
IsGood t p f m = t.good p f m ≡ true

abbrev pub IsFound : Tests → Finds
IsFound t p f m o = t.finds p f m o ≡ true

-- all local conditions
pub record MeetsConditions (prog : Program) (t : Tests) : Type 0 where
  pub stays : StaysInZone TestedZone tested prog (λ p f z. t.fits p f z ≡ true) t.pending
  pub passes : PassesZonesOn TestedZone tested prog (λ p f z. t.fits p f z ≡ true) t.pending (λ f z. t.expects f z
      ≡ true)
  pub closes : ClosesRegions prog (λ p f. t.holds p f ≡ true) t.opens
  pub serial : RunsSerially prog (IsGood t) (IsFound t) t.rank t.may_use t.may_reach

-- for these arguments and this memory they hold at the root, within the budget and the depth
pub record HoldsAtRoot (prog : Program) (t : Tests) (arguments : List ℤ) (memory : Memory)
    (budget depth : ℕ) : Type 0 where
  pub zone : TestedZone
  pub fits : t.fits [] (root_frame prog arguments) zone ≡ true
  pub holds : t.holds [] (root_frame prog arguments) ≡ true
  pub good : t.good [] (root_frame prog arguments) (globals_of memory) ≡ true
  pub may_use : t.may_use (root_frame prog arguments) ≤ℤ pos budget
  pub may_reach : t.may_reach (root_frame prog arguments) ≤ depth

abbrev pub EverySchedule : Type 0
EverySchedule = (prog : Program) (t : Tests) → MeetsConditions prog t → (arguments : List ℤ) (memory : Memory) (budget
    depth : ℕ) → HoldsAtRoot prog t arguments memory budget depth → RunsAsSerial prog arguments memory budget depth
