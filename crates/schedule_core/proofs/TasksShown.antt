-- A view of two slots shows a task of the definitions.
use Rattle.std.proofs.Common.{◌≡◌, ℕ, [], reverse, Option, Some, None, true, cond, refl, sym, ap, ◌∙◌, subst}
use Rattle.semantics.specs.State.{may_go}
use Rattle.semantics.specs.Events as running
use Rattle.semantics.specs.Events.{Machine}
use Rattle.frame.specs.declared.path.Path.{Path}
use Rattle.frame.specs.declared.frame.Wait.{Wait}
use Rattle.frame.specs.declared.frame.Wait.TheVariants as wait
use Rattle.frame_engine.specs.declared.activation.Frame.{Frame}
use Rattle.cactus.specs.declared.node.Node.{Node}
use Rattle.cactus.specs.Frames.{Frames, node_at, Lives}
use Rattle.schedule_workers.specs.declared.activation.Activation.{Activation}
use Rattle.schedule_workers.specs.Layouts.{layout_of}
use Rattle.schedule_workers.specs.Lowest.{IsLowestBelow, lowest, under}
use Rattle.schedule_workers.specs.Scheduling.{hand_of}
use Rattle.schedule_workers.specs.RunShown.{CalleeStands, ShowsNode, place_of}
use Rattle.schedule_workers.specs.Tasks.{FindsTop, nobody, no_task, task, top_within, IsLowest}
use Rattle.schedule_workers.proofs.Onward.{free_callee, seen}
use Rattle.schedule_workers.proofs.Standing.{may_go_on}
use Rattle.schedule_workers.proofs.Stealing.{standing, standing_is, status_of_nobody, status_of_no_task, status_of_top, top_place}
use Rattle.schedule_workers.proofs.Topmost.{TopIs, ended_at, holder_is}
use Rattle.schedule_core.specs.declared.stage.Stage.{Stage}
use Rattle.schedule_core.specs.declared.task.TaskView.{TaskView}
use Rattle.schedule_core.specs.Stages.{IsState, program_of, workers_of}
use Rattle.schedule_core.specs.Viewed.{status_by, seen_status, status_in, Shows, IsTask, ShowsTop, IsRunBy}
use Rattle.schedule_core.proofs.Spots.{same_node}
use Rattle.schedule_core.proofs.TaskPlaces.{lowest_is_task, parts, top_of_slots}
use Rattle.schedule_core.proofs.Views.{hand_is}

stands_as : (stage : Stage) (node : Node Activation) (o : Option ℕ) (w : Wait) → CalleeStands stage.run.cactus node w None → standing o w ≡ Some (seen_status (status_by o w))
stands_as stage node None wait.Nothing c = refl
stands_as stage node None (wait.Region region) c = refl
stands_as stage node None (wait.Call child register) c = let (slot, called, some, rest, numbers) = c in absurd (cc)
stands_as stage node (Some worker) w c = refl

module _ (stage : Stage) (m : Machine) (state : IsState stage m) where
  -- a frame in a worker's hand waits for no call
  pub no_callee : (worker slot : ℕ) (node : Node Activation) → node_at stage.run.cactus slot ≡ Some node → hand_of stage.run.hands.items worker ≡ Some slot → node.frame.callee ≡ None
  no_callee worker slot node stands hand =
      let g = seen (program_of stage) stage.places stage.run slot node node.frame stands m state.shown in
      let goes = ((state.well.safe []).steps worker (place_of node) g.frame (hand_is stage m state worker slot node hand stands) g.is).goes in
      let go = may_go_on (program_of stage) (workers_of stage) worker (place_of node) m g.frame g.is goes in
      free_callee m.core (place_of node) g.frame.made stage.run.cactus node node.frame.frame.waits (ap (may_go m.core (place_of node) g.frame.made) (sym g.shows.waits) ∙ go)
      (state.shown.agrees.nodes slot node stands).callee

  -- how the task stands whose lowest frame and top are in these slots
  pub status_of_slots : (slot : ℕ) (node low : Node Activation) → node_at stage.run.cactus slot ≡ Some node → running.is_task (place_of low) (m.core.frames (place_of low)) ≡ true → running.top_of m.core (place_of low) ≡ place_of node →
      running.status_of (workers_of stage) m (place_of low) ≡ standing node.frame.runner node.frame.frame.waits
  status_of_slots slot node low stands is_one top =
      let g = seen (program_of stage) stage.places stage.run slot node node.frame stands m state.shown in
      ap (λ b. cond b (running.top_status (workers_of stage) m (running.top_of m.core (place_of low))) None) is_one
      ∙ (ap (running.top_status (workers_of stage) m) top
      ∙ (ap (λ o. running.status_at o (running.holder (workers_of stage) m.hands (place_of node))) g.is
      ∙ (ap (running.status_at (Some g.frame)) (holder_is (program_of stage) stage.places m stage.run state.shown slot node stands)
      ∙ standing_is g.frame node.frame.runner node.frame.frame.waits g.shows.waits)))

  module _ (view : TaskView) (low high : ℕ) (shows : Shows stage low high view) where
    place_is : place_of shows.above ≡ reverse view.top_path.now.numbers
    place_is = sym (ap (λ (p : Path). reverse p.numbers) shows.top_path)

    shows_top : ShowsTop stage m view
    shows_top =
        let g = seen (program_of stage) stage.places stage.run high shows.above shows.above.frame shows.stands_above m state.shown in
        let l = layout_of (program_of stage) stage.places stage.run.cactus m.core in
        record {
          frame = g.frame;
          stands = subst (λ p. m.core.frames p ≡ Some g.frame) place_is g.is;
          shown = subst (λ p. ShowsNode l stage.places p g.frame view.top.now) place_is (subst (λ (f : Frame). ShowsNode l stage.places (place_of shows.above) g.frame f) (sym shows.top) g.shows);
        }

    -- where the slots are those of a task
    pub shows_task : (path : Path) → shows.below.path ≡ path → running.is_task (place_of shows.below) (m.core.frames (place_of shows.below)) ≡ true → running.top_of m.core (place_of shows.below) ≡ place_of shows.above → shows.above.frame.callee ≡ None → IsTask stage m path view
    shows_task path named is_one top none =
        let place : place_of shows.below ≡ reverse path.numbers = ap (λ (p : Path). reverse p.numbers) named in
        let callee : CalleeStands stage.run.cactus shows.above shows.above.frame.frame.waits None =
        subst (λ o. CalleeStands stage.run.cactus shows.above shows.above.frame.frame.waits o) none (state.shown.agrees.nodes high shows.above shows.stands_above).callee in
        record {
          named = shows.path ∙ named;
          status = subst (λ p. running.status_of (workers_of stage) m p ≡ Some (seen_status view.status)) place
              (status_of_slots high shows.above shows.below shows.stands_above is_one top
              ∙ (stands_as stage shows.above shows.above.frame.runner shows.above.frame.frame.waits callee ∙ ap (λ x. Some (seen_status x)) (sym shows.status)));
          top_path = subst (λ p. running.top_of m.core p ≡ reverse view.top_path.now.numbers) place (top ∙ place_is);
          top = shows_top;
        }

-- ---- the task of a path

module _ (stage : Stage) (m : Machine) (state : IsState stage m) where
  -- the top that is found is the task's
  found_task : (view : TaskView) (low high : ℕ) (shows : Shows stage low high view) (s : ℕ) (node : Node Activation) (path : Path) → node_at stage.run.cactus s ≡ Some node → node.path ≡ path → IsLowest node → shows.below.path ≡ path → shows.below ≡ node → Some high ≡ top_within stage.run.cactus stage.run.peak s → IsTask stage m path view
  found_task view low high shows s node path stands named is_low below one at = from t.node.frame.callee refl (at ∙ t.last)
    where
      t : TopIs (program_of stage) stage.places m stage.run state.shown m.core.peak (place_of node) (top_within stage.run.cactus stage.run.peak s)
      t = top_place (program_of stage) stage.places m stage.run state.shown s node stands

      from : (o : Option ℕ) → t.node.frame.callee ≡ o → Some high ≡ ended_at t.slot o → IsTask stage m path view
      from (Some c) is e = absurd (let f : Some high ≡ None = e in cc)
      from None is e =
          let f : Some high ≡ Some t.slot = e in
          let same : high ≡ t.slot = cc in
          let top : t.node ≡ shows.above = same_node (node_at stage.run.cactus high) t.node shows.above (subst (λ x. node_at stage.run.cactus x ≡ Some t.node) (sym same) t.stands) shows.stands_above in
          shows_task stage m state view low high shows path below
          (subst (λ (n : Node Activation). running.is_task (place_of n) (m.core.frames (place_of n)) ≡ true) (sym one) (lowest_is_task stage m state s node stands is_low))
          (subst (λ (n : Node Activation). running.top_of m.core (place_of n) ≡ place_of shows.above) (sym one) (t.place ∙ ap place_of top))
          (ap (λ (n : Node Activation). n.frame.callee) (sym top) ∙ is)

  pub task_shown : (view : TaskView) (low high : ℕ) (path : Path) → Shows stage low high view → FindsTop stage.run.cactus stage.run.peak path (Some high) → (node : Node Activation) → node_at stage.run.cactus low ≡ Some node → node.path ≡ path → IsTask stage m path view
  task_shown view low high path shows finds node stands named = from (Some high) finds refl
    where
      below_is : shows.below ≡ node
      below_is = same_node (node_at stage.run.cactus low) shows.below node shows.stands_below stands

      from : (o : Option ℕ) → FindsTop stage.run.cactus stage.run.peak path o → o ≡ Some high → IsTask stage m path view
      from o (nobody none) is = absurd (cc)
      from o (no_task s n there same other) is = absurd (cc)
      from o (task s n p there same low_is at) is =
          let one : low ≡ s = state.shown.agrees.tree.distinct low s node n stands there (ap (λ (q : Path). q.numbers) (named ∙ sym same)) in
          let nodes : shows.below ≡ n = below_is ∙ same_node (node_at stage.run.cactus low) node n stands (subst (λ x. node_at stage.run.cactus x ≡ Some n) (sym one) there) in
          found_task view low high shows s n path there same low_is (ap (λ (x : Node Activation). x.path) nodes ∙ same) nodes (sym is ∙ at)

  -- each task has a top
  top_lost : (s : ℕ) (node : Node Activation) → node_at stage.run.cactus s ≡ Some node → IsLowest node → None ≡ top_within stage.run.cactus stage.run.peak s → ⊥
  top_lost s node stands is_low at = from t.node.frame.callee refl (at ∙ t.last)
    where
      t : TopIs (program_of stage) stage.places m stage.run state.shown m.core.peak (place_of node) (top_within stage.run.cactus stage.run.peak s)
      t = top_place (program_of stage) stage.places m stage.run state.shown s node stands

      calls_on : (c : ℕ) → t.node.frame.callee ≡ Some c → (w : Wait) → t.node.frame.frame.waits ≡ w → (o : Option ℕ) → t.node.frame.runner ≡ o → CalleeStands stage.run.cactus t.node w t.node.frame.callee → (x : running.Status) → standing o w ≡ Some x → ⊥
      calls_on c is wait.Nothing at2 o runs callee x e = let f : None ≡ Some c = sym callee ∙ is in cc
      calls_on c is (wait.Region region) at2 o runs callee x e = let f : None ≡ Some c = sym callee ∙ is in cc
      calls_on c is (wait.Call child register) at2 None runs callee x e = let f : None ≡ Some x = e in cc
      calls_on c is (wait.Call child register) at2 (Some w) runs callee x e =
          let hand : hand_of stage.run.hands.items w ≡ Some t.slot = (state.shown.agrees.runners t.slot w t.node t.stands).0 runs in
          let none : t.node.frame.callee ≡ None = no_callee stage m state w t.slot t.node t.stands hand in
          let f : None ≡ Some c = sym none ∙ is in
          cc

      from : (o : Option ℕ) → t.node.frame.callee ≡ o → None ≡ ended_at t.slot o → ⊥
      from None is e = let f : None ≡ Some t.slot = e in cc
      from (Some c) is e =
          let (x, status) = (parts stage m state).status state.shown.shows.trapped (place_of node) (lowest_is_task stage m state s node stands is_low) in
          calls_on c is t.node.frame.frame.waits refl t.node.frame.runner refl (state.shown.agrees.nodes t.slot t.node t.stands).callee x
          (sym (status_of_top (program_of stage) stage.places m stage.run state.shown s node stands is_low t) ∙ status)

  pub no_top : (path : Path) → FindsTop stage.run.cactus stage.run.peak path None → status_in (workers_of stage) m path ≡ None
  no_top path finds = from None finds refl
    where
      from : (o : Option ℕ) → FindsTop stage.run.cactus stage.run.peak path o → o ≡ None → status_in (workers_of stage) m path ≡ None
      from o (nobody none) is = status_of_nobody (program_of stage) stage.places m stage.run state.shown path none
      from o (no_task s n there same other) is = subst (λ (p : Path). status_in (workers_of stage) m p ≡ None) same (status_of_no_task (program_of stage) stage.places m stage.run state.shown s n there other)
      from o (task s n p there same low_is at) is = absurd (top_lost s n there low_is (sym is ∙ at))

  -- ---- the task that a worker runs

  pub lowest_low : (high low : ℕ) → IsLowestBelow stage.run.cactus high low → (node : Node Activation) → node_at stage.run.cactus low ≡ Some node → IsLowest node
  lowest_low high low (lowest s n at is_low) node stands = subst (λ (x : Node Activation). IsLowest x) (same_node (node_at stage.run.cactus s) n node at stands) is_low
  lowest_low high low (under s caller l n at off has rest) node stands = lowest_low caller l rest node stands

  pub run_shown : (view : TaskView) (low high worker : ℕ) → Shows stage low high view → IsLowestBelow stage.run.cactus high low → hand_of stage.run.hands.items worker ≡ Some high → IsRunBy stage m worker view
  run_shown view low high worker shows below hand =
      let runs : shows.above.frame.runner ≡ Some worker = (state.shown.agrees.runners high worker shows.above shows.stands_above).1 hand in
      let none : shows.above.frame.callee ≡ None = no_callee stage m state worker high shows.above shows.stands_above hand in
      record {
        task = shows_task stage m state view low high shows view.path.now (sym shows.path)
            (lowest_is_task stage m state low shows.below shows.stands_below (lowest_low high low below shows.below shows.stands_below))
            (top_of_slots stage m state high low below shows.above shows.below shows.stands_above shows.stands_below none) none;
        status = shows.status ∙ ap (λ o. status_by o shows.above.frame.frame.waits) runs;
        hand = hand_is stage m state worker high shows.above hand shows.stands_above ∙ ap Some (place_is stage m state view low high shows);
      }

-- a path with a top has a frame
pub has_spot : (stage : Stage) (path : Path) (high : ℕ) → FindsTop stage.run.cactus stage.run.peak path (Some high) → (s : ℕ) × (n : Node Activation) × (node_at stage.run.cactus s ≡ Some n) × (n.path ≡ path)
has_spot stage path high finds = from (Some high) finds refl
  where
    from : (o : Option ℕ) → FindsTop stage.run.cactus stage.run.peak path o → o ≡ Some high → (s : ℕ) × (n : Node Activation) × (node_at stage.run.cactus s ≡ Some n) × (n.path ≡ path)
    from o (nobody none) is = absurd (cc)
    from o (no_task s n there same other) is = absurd (cc)
    from o (task s n p there same low_is at) is = (s, n, there, same)

-- the lowest frame of a task lives, and so does its top
pub low_lives : (frames : Frames Activation) (high low : ℕ) → IsLowestBelow frames high low → Lives frames low
low_lives frames high low (lowest s n at is_low) = rw at refl
low_lives frames high low (under s caller l n at off has rest) = low_lives frames caller l rest
