-- A frame that goes on apart from the machine, whatever the cells that it loads hold meanwhile.
use Rattle.std.specs.Prelude.{◌≡◌, ℕ, suc, None, IsSome}
use Rattle.semantics.specs.Paths.{Path}
use Rattle.semantics.specs.Cells.{Cell, Memory}
use Rattle.semantics.specs.Frames.{Frame}
use Rattle.semantics.specs.Effect.{Effect, Plain, action_of}
use Rattle.semantics.specs.State.{went}
use Rattle.program.specs.declared.function.Program.{Program}
use Rattle.frame_engine.specs.Activation.{ShowsFrame}
use Rattle.frame_engine.specs.Shows.{Layout, IsIn, Safe}
use Rattle.frame_engine.specs.declared.activation.Frame as machine
use Rattle.frame_engine.specs.declared.activation.Places.{Places}
use Rattle.frame_strand.specs.Showing.{AreApart}

-- each cell of a living object holds a number
abbrev pub IsFull : Layout → Memory → Type 0
IsFull l m = (c : Cell) → IsIn l c → IsSome (m c)

-- n plain steps, none of which traps, lead the frame at p from f to g; at each of them the cells may hold other numbers
pub data AloneSteps (prog : Program) (l : Layout) (p : Path) (f : Frame) : ℕ → Frame → Type 0 where
  here : AloneSteps prog l p f 0 f
  more : {n : ℕ} {g : Frame} (m : Memory) (e : Effect) → AloneSteps prog l p f n g → IsFull l m →
      action_of prog p g m ≡ Plain e → e.trap ≡ None →
      AloneSteps prog l p f (suc n) (went g e)

-- wherever such steps lead, the next one is safe
abbrev pub StaysSafeAlone : Program → Layout → Path → Frame → Type 0
StaysSafeAlone prog l p f = (n : ℕ) (g : Frame) → AloneSteps prog l p f n g → (m : Memory) → IsFull l m →
    Safe prog l p g m

-- the machine's frame shows one that may go on alone
pub record GoesAlone (prog : Program) (places : Places) (l : Layout) (p : Path) (g : Frame)
    (f : machine.Frame) : Type 0 where
  pub shown : ShowsFrame l places p g f
  pub apart : AreApart l
  pub stays : StaysSafeAlone prog l p g
