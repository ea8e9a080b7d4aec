-- What a worker's frame finds at its next step, where no step traps.
use Rattle.std.specs.Prelude.{◌≡◌, ℕ, ◌<◌, List, [], ◌∷◌, Option, Some, None, true, is_some, ℤ}
use Rattle.semantics.specs.Paths.{Path}
use Rattle.semantics.specs.Cells.{Shared, Memory}
use Rattle.semantics.specs.Frames.{OnCall, Child, Body, Frame}
use Rattle.semantics.specs.Effect.{Action, Plain, Reattach, Return, action_of}
use Rattle.semantics.specs.State.{State, may_go, childless}
use Rattle.semantics.specs.Events.{Event, start}
use Rattle.semantics.specs.Replay.{replay}
use Rattle.semantics.specs.Sound.{NeverTraps}
use Rattle.linear.specs.declared.form.RegisterId.{RegisterId}
use Rattle.program.specs.declared.function.Program.{Program}
use Rattle.laws_phases.specs.facts.Traps.{IsReady}

-- the first frame runs `main`, and is no child
pub record IsFirst (prog : Program) (f : Frame) : Type 0 where
  pub function : f.function ≡ prog.main.0
  pub role : f.role ≡ Body

abbrev pub KnowsFirst : Program → Path → Frame → Type 0
KnowsFirst prog p f = p ≡ [] → IsFirst prog f

-- the frame above a child, which made it
pub record HasParent (s : State) (p : Path) : Type 0 where
  pub number : ℕ
  pub above : Path
  pub place : p ≡ number ∷ above
  pub parent : Frame
  pub lives : s.frames above ≡ Some parent
  pub made : number < parent.made

-- a frame that ends has no children left: a child of the region joins the living frame that made it, ..
pub record Joins (s : State) (p : Path) (f : Frame) (region : ℕ) : Type 0 where
  pub none_left : childless s p f.made ≡ true
  pub continuation : ℕ
  pub role : f.role ≡ Child region continuation
  pub parent : HasParent s p

-- .. and a function's frame returns to the one that waits for it, unless it is the first
pub record Returns (s : State) (p : Path) (f : Frame) : Type 0 where
  pub none_left : childless s p f.made ≡ true
  pub role : f.role ≡ Body
  pub caller : (number : ℕ) (above : Path) → p ≡ number ∷ above →
      (g : Frame) × (d : Option RegisterId) × (s.frames above ≡ Some g) × (g.waits ≡ OnCall number d)

-- what the step is about to do: no trap, and no end with a child left
abbrev pub Does : State → Path → Frame → Action → Type 0
Does s p f (Plain e) = e.trap ≡ None
Does s p f (Reattach region) = Joins s p f region
Does s p f (Return result) = Returns s p f
Does s p f other = Unit {0}

-- it may go on, all that its instruction or terminator reads is there, and it does what that says
pub record IsSteady (prog : Program) (s : State) (p : Path) (f : Frame) : Type 0 where
  pub may : may_go s p f.made f.waits ≡ true
  pub ready : IsReady prog p f s.memory
  pub does : Does s p f (action_of prog p f s.memory)

abbrev pub HeldFramesAreSteady : Type 0
HeldFramesAreSteady =
    (prog : Program) (arguments : List ℤ) (memory : Memory) (workers : ℕ) →
    NeverTraps prog workers (start prog arguments memory) → (events : List Event) →
    (w : ℕ) (p : Path) (f : Frame) → (replay prog workers events (start prog arguments memory)).hands w ≡ Some p →
    (replay prog workers events (start prog arguments memory)).core.frames p ≡ Some f →
    IsSteady prog (replay prog workers events (start prog arguments memory)).core p f

-- no cell of a global loses its value
abbrev pub GlobalsStay : Type 0
GlobalsStay =
    (prog : Program) (arguments : List ℤ) (memory : Memory) (workers : ℕ) →
    NeverTraps prog workers (start prog arguments memory) → (events : List Event) →
    (g i : ℕ) → is_some (memory (record { object = Shared g; index = i })) ≡ true →
    is_some ((replay prog workers events (start prog arguments memory)).core.memory (record {
      object = Shared g;
      index =
          i;
    })) ≡ true
