-- The line of a view is that of its task, by the events that lead here.
use Rattle.std.proofs.Common.{◌≡◌, ℕ, List, map, reverse, Option, Some, None, refl, sym, ap, ◌∙◌, ℤ}
use Rattle.std.specs.Prelude.{IfSome, option_and_then}
use Rattle.std.specs.Option.{option_map}
use Rattle.linear.specs.declared.form.RegisterId.{RegisterId}
use Rattle.semantics.specs.Paths.{Path as RunningPath}
use Rattle.semantics.specs.Frames.{Frame as RunningFrame, block_at}
use Rattle.semantics.specs.Events as running
use Rattle.semantics.specs.Events.{Machine}
use Rattle.program.specs.declared.function.Block.{Block}
use Rattle.program.specs.declared.function.Program.{Program}
use Rattle.program.specs.declared.identifier.BlockId.{BlockId}
use Rattle.frame.specs.declared.frame.Wait.{Wait}
use Rattle.frame.specs.declared.frame.Wait.TheVariants as wait
use Rattle.frame.specs.declared.path.Path.{Path}
use Rattle.serial_machine.specs.store.Cells.{NamedCells}
use Rattle.frame_engine.specs.declared.activation.Frame.{Frame}
use Rattle.schedule_workers.specs.RunShown.{place_of}
use Rattle.schedule_workers.specs.Stalls.{Blocks, StallsAgree, last_blocks, no_blocks}
use Rattle.schedule_workers.proofs.Onward.{seen}
use Rattle.frame.specs.declared.event.Event.{Event}
use Rattle.schedule_core.specs.declared.stage.Stage.{Stage}
use Rattle.schedule_core.specs.declared.task.Status.{Status}
use Rattle.schedule_core.specs.declared.task.Status.TheVariants.{Running, Ready, Stalled}
use Rattle.schedule_core.specs.declared.task.TaskView.{TaskView}
use Rattle.schedule_core.specs.Lines.{ending_at, ending_line, line_at_top, line_by, line_in, line_of_task, line_or_zero, next_line, place_line, sync_line}
use Rattle.schedule_core.specs.Replaying.{HasLine, HasLineAfter, Replays, event_of, first_state, state_after}
use Rattle.schedule_core.specs.Stages.{IsState, program_of, workers_of}
use Rattle.schedule_core.specs.Viewed.{IsRunBy, IsTask, Shows, place_in, seen_status, status_by}

stalled_by : (o : Option ℕ) (w : Wait) (region : RegisterId) → status_by o w ≡ Stalled region → (o ≡ None) × (w ≡ wait.Region region)
stalled_by None wait.Nothing region e = absurd (cc)
stalled_by None (wait.Region r) region e = (refl, (let same : Stalled r ≡ Stalled region = e in let one : r ≡ region = cc in ap wait.Region one))
stalled_by None (wait.Call child register) region e = absurd (cc)
stalled_by (Some worker) w region e = absurd (cc)

sync_there : (prog : Program) (f : Frame) (g : RunningFrame) (stalled_in : Option BlockId) → g.function ≡ f.function.0 → option_and_then (sync_line prog f.function) stalled_in ≡ ending_at prog (option_map (λ (b : BlockId). b.0) stalled_in) g
sync_there prog f g None same = refl
sync_there prog f g (Some b) same = ap (λ n. option_and_then ending_line (block_at prog n b.0)) (sym same)

module _ (stage : Stage) (m : Machine) (state : IsState stage m) (last : Blocks) (agree : StallsAgree last stage.run.cactus) (view : TaskView) (low high : ℕ) (shows : Shows stage low high view) where
  abbrev prog : Program
  prog = program_of stage

  abbrev top : RunningPath
  top = place_of shows.above

  abbrev top_frame : Frame
  top_frame = shows.above.frame.frame

  -- the top's frame in the definitions
  record There : Type 0 where
    frame : RunningFrame
    is : m.core.frames top ≡ Some frame
    function : frame.function ≡ top_frame.function.0
    next : place_line prog frame ≡ next_line prog top_frame

  there : There
  there =
      let g = seen prog stage.places stage.run high shows.above shows.above.frame shows.stands_above m state.shown in
      record {
        frame = g.frame;
        is = g.is;
        function = g.shows.shown.function;
        next = λ i. option_and_then (λ (block : Block). line_in block (g.shows.shown.index i)) (block_at prog (g.shows.shown.function i) (g.shows.shown.block i));
      }

  next_there : next_line prog top_frame ≡ option_and_then (place_line prog) (m.core.frames top)
  next_there = sym (ap (λ (o : Option RunningFrame). option_and_then (place_line prog) o) there.is ∙ there.next)

  line_there : (s : Status) → view.status ≡ s → line_by prog top_frame shows.above.frame.stalled_in s ≡ line_at_top prog m (last top) top (seen_status s)
  line_there (Stalled region) is =
      let (free, waits) = stalled_by shows.above.frame.runner top_frame.waits region (sym shows.status ∙ is) in
      sync_there prog top_frame there.frame shows.above.frame.stalled_in there.function
      ∙ (ap (λ (b : Option ℕ). ending_at prog b there.frame) (agree high shows.above shows.stands_above region free waits)
      ∙ sym (ap (λ (o : Option RunningFrame). option_and_then (ending_at prog (last top)) o) there.is))
  line_there Ready is = next_there
  line_there (Running worker) is = next_there

  pub line_shown : (path : Path) → IsTask stage m path view → view.line ≡ line_or_zero (line_of_task prog (workers_of stage) m last (place_in path))
  line_shown path task =
      let high_is : running.top_of m.core (place_in path) ≡ top = task.top_path ∙ ap (λ (p : Path). reverse p.numbers) shows.top_path in
      shows.line ∙ ap line_or_zero
      (line_there view.status refl
      ∙ (ap (λ (q : RunningPath). line_at_top prog m (last q) q (seen_status view.status)) (sym high_is)
      ∙ sym (ap (λ (s : Option running.Status). option_and_then (line_at_top prog m (last (running.top_of m.core (place_in path))) (running.top_of m.core (place_in path))) s) task.status)))

-- ---- after events

module _ (stage : Stage) (prog : Program) (arguments : List ℤ) (globals : List NamedCells) (workers : ℕ) (events : List Event) (r : Replays prog arguments globals workers events stage) where
  line_after_events : (view : TaskView) (low high : ℕ) (path : Path) → Shows stage low high view → IsTask stage (state_after prog arguments globals workers events) path view →
      HasLineAfter prog arguments globals workers events (place_in path) view
  line_after_events view low high path shows task =
      let c = state_after prog arguments globals workers events in
      let last = last_blocks prog workers (map event_of events) (first_state prog arguments globals) no_blocks in
      line_shown stage c r.state last r.stalls view low high shows path task
      ∙ (ap (λ n. line_or_zero (line_of_task (program_of stage) n c last (place_in path))) r.as_many ∙ ap (λ q. line_or_zero (line_of_task q workers c last (place_in path))) r.program)

pub line_if : (stage : Stage) (o : Option TaskView) (low high : ℕ) (path : Path) → IfSome o (Shows stage low high) → ((m : Machine) → IsState stage m → IfSome o (IsTask stage m path)) → IfSome o (HasLine stage (place_in path))
line_if stage None low high path shows task = tt
line_if stage (Some view) low high path shows task = λ prog arguments globals workers events r. line_after_events stage prog arguments globals workers events r view low high path shows (task _ r.state)

pub run_line_if : (stage : Stage) (o : Option TaskView) (low high worker : ℕ) → IfSome o (Shows stage low high) → ((m : Machine) → IsState stage m → IfSome o (IsRunBy stage m worker)) → IfSome o (λ view. HasLine stage (place_in view.path.now) view)
run_line_if stage None low high worker shows by = tt
run_line_if stage (Some view) low high worker shows by = λ prog arguments globals workers events r. line_after_events stage prog arguments globals workers events r view low high view.path.now shows (by _ r.state).task
