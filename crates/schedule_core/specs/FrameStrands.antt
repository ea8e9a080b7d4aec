-- What frame strands are to a stage: copies of a worker's frame that went on apart.
use Rattle.std.specs.Prelude.{◌≡◌, ◌≢◌, ℕ, ◌≤◌, [], replicate, Some, vec_capacity}
use Rattle.semantics.specs.Events as running
use Rattle.semantics.specs.Replay.{replay}
use Rattle.program.specs.declared.function.Program.{Program}
use Rattle.schedule_commit.specs.Absorbing.{steps_in}
use Rattle.schedule_commit.specs.Fitting.{FitsRun}
use Rattle.schedule_commit.specs.frame_strand.declared.outside.FrameStrand.{FrameStrand}
use Rattle.schedule_commit.specs.frame_strand.declared.standing.FrameStrandPause.TheVariants.{Blank}
use Rattle.schedule_commit.specs.laws_strands.Law.{steps_by}
use Rattle.schedule_workers.specs.Starts.{ArePlaces}
use Rattle.serial_machine.specs.verifier.Budgets.{IsDepthOf}
use Rattle.frame.specs.declared.event.Event.TheVariants.{Step}
use Rattle.schedule_core.specs.declared.stage.Stage.{Stage}
use Rattle.schedule_core.specs.Replaying.{AreEnabled, ReplaysMore}
use Rattle.schedule_core.specs.Stages.{IsState, program_of, workers_of}

-- so many numbers of a path are room for each frame of the module's runs
pub record HasRoomFor (program : Program) (room : ℕ) : Type 0 where
  pub depth : ℕ
  pub is_depth : IsDepthOf program depth
  pub within : depth ≤ room

-- the strand was made for the module, with room for the path of each frame
pub record IsMadeOf (program : Program) (x : FrameStrand) : Type 0 where
  pub module_is : x.program.now ≡ program
  pub places_are : ArePlaces program x.places.now
  pub room : ∥ HasRoomFor program (vec_capacity x.course.path) ∥₁

-- the worker runs the frame that was loaded, word for word, at its path, and each cell that was read holds what was
-- read
abbrev pub FrameStrandFits : Stage → ℕ → FrameStrand → Type 0
FrameStrandFits stage worker x = (x.pause ≢ Some Blank) × ((slot : ℕ) × FitsRun stage.run worker x slot)

-- the strand is of the worker's frame, before its first instruction
pub record IsLoaded (stage : Stage) (worker : ℕ) (x : FrameStrand) : Type 0 where
  pub fits : FrameStrandFits stage worker x
  pub done : x.course.done ≡ 0
  pub reads : x.course.cells.reads ≡ []

-- so many steps of the worker are enabled one after the other, and after them the stage is the other
pub record TakesSteps (old new : Stage) (worker steps : ℕ) : Type 0 where
  pub replays : ReplaysMore old new (replicate steps (Step worker))
  pub enabled : (m : running.Machine) → IsState old m →
      AreEnabled (program_of old) (workers_of old) (steps_by worker steps) m

-- A strand is its instructions, and the border's where it stands at one; up to the border the worker runs the same
-- frame.
pub record Absorbs (old new : Stage) (worker : ℕ) (x : FrameStrand) : Type 0 where
  pub steps : TakesSteps old new worker (steps_in x.pause x.course.done)
  pub hand : (m : running.Machine) → IsState old m →
      (replay (program_of old) (workers_of old) (steps_by worker x.course.done) m).hands worker ≡ m.hands worker
