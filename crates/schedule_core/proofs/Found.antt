-- The views that `task` and `task_of` find.
use Rattle.std.proofs.Common.{◌≡◌, ℕ, Option, Some, None, refl, sym, ◌∙◌, subst}
use Rattle.std.specs.Prelude.{IfNone, IfSome, IsSome}
use Rattle.semantics.specs.Events.{Machine}
use Rattle.frame.specs.declared.path.Path.{Path}
use Rattle.cactus.specs.declared.node.Node.{Node}
use Rattle.cactus.specs.Frames.{Frames, node_at, HasPath, Lives}
use Rattle.cactus.specs.ByPath.{IsTree}
use Rattle.schedule_workers.specs.declared.activation.Activation.{Activation}
use Rattle.schedule_workers.specs.Lowest.{IsLowestBelow}
use Rattle.schedule_workers.specs.Scheduling.{hand_of}
use Rattle.schedule_workers.specs.RunShown.{place_of}
use Rattle.schedule_workers.specs.Tasks.{FindsTop, nobody, no_task, task, top_within}
use Rattle.schedule_workers.proofs.Stealing.{top_place}
use Rattle.schedule_workers.proofs.Topmost.{TopIs, ended_at}
use Rattle.schedule_core.specs.declared.stage.Stage.{Stage}
use Rattle.schedule_core.specs.declared.task.TaskView.{TaskView}
use Rattle.schedule_core.specs.Stages.{IsState, program_of}
use Rattle.schedule_core.specs.Viewed.{IsRunBy, IsTask, Shows}
use Rattle.schedule_core.proofs.TasksShown.{low_lives, run_shown, task_shown}
use Rattle.schedule_core.proofs.Views.{has_node}

pub lives_by : (frames : Frames Activation) (slot : ℕ) (node : Node Activation) → node_at frames slot ≡ Some node → Lives frames slot
lives_by frames slot node stands = rw stands refl

-- a view of two frames that live is one
pub never_none : (P : Type 0) (o : Option TaskView) → IsSome o → IfNone o P
never_none P None some = absurd (cc)
never_none P (Some view) some = tt

module _ (stage : Stage) (m : Machine) (state : IsState stage m) where
  pub shown_if : (o : Option TaskView) (low high generation : ℕ) (path : Path) → FindsTop stage.run.cactus stage.run.peak path (Some high) → HasPath stage.run.cactus low generation path → IfSome o (Shows stage low high) → IfSome o (IsTask stage m path)
  shown_if None low high generation path finds has shows = shows
  shown_if (Some view) low high generation path finds has shows =
      let h = has_node stage.run.cactus low generation path has in
      task_shown stage m state view low high path shows finds h.0 h.1 h.2

  -- the top that is found lives
  pub top_lives : (path : Path) (high : ℕ) → FindsTop stage.run.cactus stage.run.peak path (Some high) → Lives stage.run.cactus high
  top_lives path high finds = from (Some high) finds refl
    where
      ends : (slot : ℕ) (node : Node Activation) → node_at stage.run.cactus slot ≡ Some node → Some high ≡ top_within stage.run.cactus stage.run.peak slot → Lives stage.run.cactus high
      ends slot node stands at = by t.node.frame.callee (at ∙ t.last)
        where
          t : TopIs (program_of stage) stage.places m stage.run state.shown m.core.peak (place_of node) (top_within stage.run.cactus stage.run.peak slot)
          t = top_place (program_of stage) stage.places m stage.run state.shown slot node stands

          by : (c : Option ℕ) → Some high ≡ ended_at t.slot c → Lives stage.run.cactus high
          by None e = let same : high ≡ t.slot = (let f : Some high ≡ Some t.slot = e in cc) in subst (λ x. Lives stage.run.cactus x) (sym same) (lives_by stage.run.cactus t.slot t.node t.stands)
          by (Some c) e = absurd (let f : Some high ≡ None = e in cc)

      from : (o : Option ℕ) → FindsTop stage.run.cactus stage.run.peak path o → o ≡ Some high → Lives stage.run.cactus high
      from o (nobody none) is = absurd (cc)
      from o (no_task s n there same other) is = absurd (cc)
      from o (task s n p there same low_is at) is = ends s n there (sym is ∙ at)

  pub run_if : (o : Option TaskView) (low high worker : ℕ) → IsLowestBelow stage.run.cactus high low → hand_of stage.run.hands.items worker ≡ Some high → IfSome o (Shows stage low high) → IfSome o (IsRunBy stage m worker)
  run_if None low high worker below hand shows = shows
  run_if (Some view) low high worker below hand shows = run_shown stage m state view low high worker shows below hand

  pub run_never_none : (P : Type 0) (o : Option TaskView) (low high worker : ℕ) → IsLowestBelow stage.run.cactus high low → hand_of stage.run.hands.items worker ≡ Some high → (Lives stage.run.cactus low → Lives stage.run.cactus high → IsSome o) → IfNone o P
  run_never_none P o low high worker below hand found = never_none P o (found (low_lives stage.run.cactus high low below) (state.shown.agrees.held worker high hand))

  -- a frame in a hand stands on a task
  pub low_found : (P : Type 0) (o : Option ℕ) (high worker : ℕ) → o ≡ None → hand_of stage.run.hands.items worker ≡ Some high → (IsTree stage.run.cactus → Lives stage.run.cactus high → IsSome o) → P
  low_found P o high worker none hand found = absurd (let some : IsSome o = found state.shown.agrees.tree (state.shown.agrees.held worker high hand) in let e : IsSome {T = ℕ} None = subst (λ x. IsSome x) none some in cc)
