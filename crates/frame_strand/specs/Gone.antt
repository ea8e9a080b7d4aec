-- For the functions of this crate alone: where the engine's loop leads a strand.
use Rattle.std.specs.Prelude.{◌≢◌, ℕ, reverse, Some}
use Rattle.semantics.specs.Frames.{Frame}
use Rattle.program.specs.declared.function.Program.{Program}
use Rattle.frame_engine.specs.Shows.{Layout}
use Rattle.frame_engine.specs.declared.activation.Places.{Places}
use Rattle.frame_engine.specs.declared.turning.Pause as engine
use Rattle.frame_engine.specs.declared.turning.Pause.TheVariants as engine_pause
use Rattle.frame_strand.specs.Alone.{GoesAlone}
use Rattle.frame_strand.specs.Along.{IsUnderWay, PausesAt}
use Rattle.frame_strand.specs.declared.cells.CellStop.{CellStop}
use Rattle.frame_strand.specs.declared.cells.CellStop.TheVariants as stop
use Rattle.frame_strand.specs.declared.standing.Course.{Course}
use Rattle.frame_strand.specs.declared.standing.FrameStrandPause.{FrameStrandPause}
use Rattle.frame_strand.specs.declared.standing.FrameStrandPause.TheVariants.{Border, Limit, Full, Need}

-- short of the limit it is the strand's pause
abbrev pub named : engine.Pause CellStop → FrameStrandPause
named engine_pause.Border = Border
named engine_pause.Limit = Limit
named (engine_pause.Stopped stop.Full) = Full
named (engine_pause.Stopped (stop.Need at)) = Need at

pub record Gone (prog : Program) (places : Places) (x : Course) (stopped : engine.Pause CellStop) (limit : ℕ)
    : Type 0 where
  pub way : IsUnderWay prog places x
  pub pauses : x.done ≢ limit →
      (l : Layout) (g : Frame) (goes : GoesAlone prog places l (reverse x.path.items) g x.loaded) →
      PausesAt prog l (way.along l g goes).strand (Some (named stopped))
