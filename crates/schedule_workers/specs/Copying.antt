-- A run that is another's copy: it holds the same, in lists of its own.
use Rattle.std.specs.Prelude.{◌≡◌}
use Rattle.semantics.specs.Events.{Machine}
use Rattle.program.specs.declared.function.Program.{Program}
use Rattle.cactus.specs.Copies.{AreCopies}
use Rattle.frame_engine.specs.declared.activation.Frame.{Frame}
use Rattle.frame_engine.specs.declared.activation.Places.{Places}
use Rattle.schedule_workers.specs.declared.activation.Activation.{Activation}
use Rattle.schedule_workers.specs.declared.run.Run.{Run}
use Rattle.schedule_workers.specs.Follows.{AreGiven, Follows}
use Rattle.schedule_workers.specs.RunShown.{IsShown}
use Rattle.schedule_workers.specs.Stalls.{KeepsStalls}

pub record IsFrameCopy (f copy : Frame) : Type 0 where
  pub only : copy ≡ record f { registers = copy.registers }
  pub registers : copy.registers.items ≡ f.registers.items

pub record IsActivationCopy (a copy : Activation) : Type 0 where
  pub only : copy ≡ record a { frame = copy.frame; counts = copy.counts }
  pub frame : IsFrameCopy a.frame copy.frame
  pub counts : copy.counts.items ≡ a.counts.items

pub record HoldsSame (k copy : Run) : Type 0 where
  pub only : copy ≡ record k {
    cactus = copy.cactus;
    cells = copy.cells;
    blocks = copy.blocks;
    hands = copy.hands;
    moves = copy.moves;
  }
  pub frames : AreCopies IsActivationCopy k.cactus copy.cactus
  pub cells : copy.cells.cells.items ≡ k.cells.cells.items
  pub blocks : copy.blocks.items ≡ k.blocks.items
  pub hands : copy.hands.items ≡ k.hands.items
  pub moves : copy.moves.items ≡ k.moves.items

-- so it shows what the run shows, and what is kept of the one is kept of the other
pub record IsCopy (k copy : Run) : Type 0 where
  pub holds : HoldsSame k copy
  pub shown : (prog : Program) (places : Places) (m : Machine) → IsShown prog places m k → IsShown prog places m copy
  pub stalls : KeepsStalls k.cactus copy.cactus
  pub follows : Follows k.cactus copy.cactus
  pub given : AreGiven k.cactus → AreGiven copy.cactus
