-- A run in which nothing has changed that is seen of it.
use Rattle.std.specs.Prelude.{◌≡◌}
use Rattle.program.specs.declared.function.Program.{Program}
use Rattle.frame_engine.specs.declared.activation.Places.{Places}
use Rattle.schedule_workers.specs.declared.run.Run.{Run}
use Rattle.schedule_workers.specs.Follows.{KeepsUses}
use Rattle.schedule_workers.specs.Going.{KeepsShown}
use Rattle.schedule_workers.specs.Stalls.{KeepsStalls}

-- what was shown is shown, workers run what they ran, and frames stand in their uses of slots and are stalled where
-- they were
pub record LeavesAsShown (prog : Program) (places : Places) (old new : Run) : Type 0 where
  pub shown : KeepsShown prog places old new
  pub hands : new.hands ≡ old.hands
  pub uses : KeepsUses old.cactus new.cactus
  pub stalls : KeepsStalls old.cactus new.cactus
