-- The lines of a module at which frames stand.
use Rattle.std.specs.Prelude.{◌≡◌, ℕ, List, Option, Some, None, option_and_then, slice_get}
use Rattle.std.specs.Option.{option_map, option_map_or}
use Rattle.semantics.specs.Paths.{Path as RunningPath}
use Rattle.semantics.specs.Frames.{block_at}
use Rattle.semantics.specs.Frames as running_frames
use Rattle.semantics.specs.Events as running
use Rattle.semantics.specs.Replay.{replay}
use Rattle.program.specs.declared.function.Block.{Block}
use Rattle.program.specs.declared.function.Program.{Program}
use Rattle.program.specs.declared.identifier.BlockId.{BlockId}
use Rattle.program.specs.declared.identifier.FunctionId.{FunctionId}
use Rattle.program.specs.declared.instruction.Step.{Step}
use Rattle.program.specs.declared.instruction.Ending.{Ending}
use Rattle.frame_engine.specs.declared.activation.Frame.{Frame}
use Rattle.schedule_workers.specs.Stalls.{Blocks, no_blocks, last_blocks}
use Rattle.schedule_core.specs.declared.task.Status.{Status}
use Rattle.schedule_core.specs.declared.task.Status.TheVariants.{Running, Ready, Stalled}

-- the line of the block's terminator
abbrev pub ending_line : Block → Option ℕ
ending_line block = option_map (λ (e : Ending). e.line) block.ending

abbrev pub step_line : Block → Option Step → Option ℕ
step_line block None = ending_line block
step_line block (Some step) = Some step.line

-- the line of the instruction with this index; the terminator stands behind the last one
abbrev pub line_in : Block → ℕ → Option ℕ
line_in block index = step_line block (slice_get block.steps index)

-- the line of the frame's next instruction
abbrev pub next_line : Program → Frame → Option ℕ
next_line prog f = option_and_then (λ (block : Block). line_in block f.place.index)
    (block_at prog f.function.0 f.place.block.0)

-- the line of the sync that ends a block
abbrev pub sync_line : Program → FunctionId → BlockId → Option ℕ
sync_line prog function block = option_and_then ending_line (block_at prog function.0 block.0)

-- the line at which a task stands with this frame on top: where it is stalled, that of its sync, which ends the block
abbrev pub line_by : Program → Frame → Option BlockId → Status → Option ℕ
line_by prog f stalled_in (Stalled region) = option_and_then (sync_line prog f.function) stalled_in
line_by prog f stalled_in Ready = next_line prog f
line_by prog f stalled_in (Running worker) = next_line prog f

-- 0 where no instruction stands there
abbrev pub line_or_zero : Option ℕ → ℕ
line_or_zero line = option_map_or (λ (line : ℕ). line) line 0

-- ---- by the definitions

-- the line of the next instruction of a frame
abbrev pub place_line : Program → running_frames.Frame → Option ℕ
place_line prog f = option_and_then (λ (block : Block). line_in block f.index) (block_at prog f.function f.block)

-- the line of the sync that ends a block of the frame's function
abbrev pub ending_at : Program → Option ℕ → running_frames.Frame → Option ℕ
ending_at prog block f = option_and_then (λ (b : ℕ). option_and_then ending_line (block_at prog f.function b)) block

-- the line of a task with this top: where it is stalled, that of its sync, which was the top's last instruction and
-- ended this block; else that of the top's next instruction
abbrev pub line_at_top : Program → running.Machine → Option ℕ → RunningPath → running.Status → Option ℕ
line_at_top prog c last top (running.Stalled region) = option_and_then (ending_at prog last) (c.core.frames top)
line_at_top prog c last top running.Ready = option_and_then (place_line prog) (c.core.frames top)
line_at_top prog c last top (running.Running worker) = option_and_then (place_line prog) (c.core.frames top)

-- the line of the task of a path, where frames did their last instructions in these blocks
abbrev pub line_of_task : Program → ℕ → running.Machine → Blocks → RunningPath → Option ℕ
line_of_task prog workers c last t =
    option_and_then (line_at_top prog c (last (running.top_of c.core t)) (running.top_of c.core t))
    (running.status_of workers c t)

-- after the events of a schedule from this state
abbrev pub line_after : Program → ℕ → List running.Event → running.Machine → RunningPath → Option ℕ
line_after prog workers events c t = line_of_task prog workers (replay prog workers events c)
    (last_blocks prog workers events c no_blocks) t

-- the line of the next instruction of the worker's task
abbrev pub line_of_worker : Program → running.Machine → ℕ → Option ℕ
line_of_worker prog c worker = option_and_then (λ p. option_and_then (place_line prog) (c.core.frames p))
    (c.hands worker)

-- some worker's next instruction stands on the line
abbrev pub StandsAt : Program → running.Machine → ℕ → Type 0
StandsAt prog c line = (worker : ℕ) × (line_of_worker prog c worker ≡ Some line)
