-- Tasks by slots are the tasks of the definitions.
use Rattle.std.proofs.Common.{◌≡◌, ◌≢◌, ℕ, suc, ◌≤◌, List, [], ◌∷◌, length, reverse, Option, Some, None, true, false, ◌⊎◌, inl, inr, refl, sym, ap, ◌∙◌, subst, arith}
use Rattle.std.proofs.lemmas.List.{reverse-reverse}
use Rattle.linear.specs.declared.form.RegisterId.{RegisterId}
use Rattle.semantics.specs.Paths.{Path}
use Rattle.semantics.specs.Below.{Under, itself, deeper}
use Rattle.semantics.specs.Frames.{Frame, OnCall, Body}
use Rattle.semantics.specs.State.{State}
use Rattle.semantics.specs.Tree.{Tree}
use Rattle.semantics.specs.Tasks.{OnTask, is_lowest, is_called, PartIntoTasks}
use Rattle.semantics.specs.Events as running
use Rattle.semantics.specs.Events.{Machine}
use Rattle.semantics.proofs.TaskLaws.{frames_on_tasks}
use Rattle.frame.specs.declared.frame.Wait.{Wait as Waits}
use Rattle.frame.specs.declared.frame.Wait.TheVariants as waits
use Rattle.frame.specs.declared.frame.Role.{Role}
use Rattle.frame.specs.declared.frame.Role.TheVariants as role
use Rattle.frame.specs.Reading.{role_of, wait_of}
use Rattle.cactus.specs.declared.node.Node.{Node}
use Rattle.cactus.specs.Frames.{node_at}
use Rattle.cactus.specs.ByPath.{named, IsBelow}
use Rattle.cactus.proofs.ByPathLemmas.{FoundAt, named_found}
use Rattle.schedule_workers.specs.declared.activation.Activation.{Activation}
use Rattle.schedule_workers.specs.Layouts.{layout_of}
use Rattle.schedule_workers.specs.Lowest.{IsLowestBelow, lowest, under}
use Rattle.schedule_workers.specs.RunShown.{CalleeStands, ShowsAt, place_of}
use Rattle.schedule_workers.specs.Tasks.{IsLowest}
use Rattle.schedule_workers.proofs.Onward.{seen}
use Rattle.schedule_workers.proofs.Stealing.{task_tells}
use Rattle.schedule_workers.proofs.Topmost.{reverse_last, same_place}
use Rattle.schedule_core.specs.declared.stage.Stage.{Stage}
use Rattle.schedule_core.specs.Stages.{IsState, program_of, workers_of}
use Rattle.schedule_core.proofs.Spots.{same_node}

-- ---- in the definitions

under_tells : (p q : Path) → Under p q → (p ≡ q) ⊎ ((k : ℕ) × (y : Path) × (q ≡ k ∷ y) × Under p y)
under_tells p q itself = inl refl
under_tells p q (deeper k {y = z} u) = inr (k, z, refl, u)

under_longer : (p q : Path) → Under p q → length p ≤ length q
under_longer p q itself = omega arith
under_longer p q (deeper k {y = z} u) = let h = under_longer p z u in omega (arith, h)

task_shorter : (s : State) (t p : Path) → OnTask s t p → length t ≤ length p
task_shorter s t p (is_lowest a) = omega arith
task_shorter s t p (is_called k {p = q} f on is role) = let h = task_shorter s t q on in omega (arith, h)

-- of a task, nothing stands above a frame that waits for no call
module _ (s : State) (tree : Tree s) (t p : Path) (on : OnTask s t p) (free : (f : Frame) (k : ℕ) (d : Option RegisterId) → s.frames p ≡ Some f → f.waits ≢ OnCall k d) where
  no_deeper : (q : Path) → OnTask s t q → Under p q → p ≡ q
  no_deeper q (is_lowest a) u =
      elim (under_tells p q u) [
        | inl e ↦ e
        | inr h ↦
            let long : length p ≤ length h.1 = under_longer p h.1 h.3 in
            let short : length t ≤ length p = task_shorter s t p on in
            let one : length t ≡ suc (length h.1) = ap (λ (l : Path). length l) h.2 in
            absurd (omega arith)
      ]
  no_deeper q (is_called k {p = r} f above is role) u =
      elim (under_tells p q u) [
        | inl e ↦ e
        | inr h ↦
            let rest : k ∷ r ≡ h.0 ∷ h.1 = h.2 in
            let same : h.1 ≡ r = cc in
            let here : p ≡ r = no_deeper r above (subst (λ y. Under p y) same h.3) in
            let (g, d, over, wait) = tree.awaited k r f is role in
            absurd (free g k d (ap s.frames here ∙ over) wait)
      ]

-- ---- of a stage

module _ (stage : Stage) (m : Machine) (state : IsState stage m) where
  pub parts : PartIntoTasks (workers_of stage) m
  parts = subst (λ x. PartIntoTasks (workers_of stage) x) state.reached.after (frames_on_tasks (program_of stage) state.reached.arguments state.reached.memory (workers_of stage) state.manned state.reached.events)

  tree : Tree m.core
  tree = (state.well.safe []).tree

  -- the frame of the definitions that is shown in a slot
  pub record Here (node : Node Activation) : Type 0 where
    pub frame : Frame
    pub is : m.core.frames (place_of node) ≡ Some frame
    pub role : frame.role ≡ role_of node.frame.frame.role
    pub waits : frame.waits ≡ wait_of node.frame.frame.waits

  pub here_at : (slot : ℕ) (node : Node Activation) → node_at stage.run.cactus slot ≡ Some node → Here node
  here_at slot node stands =
      let g = seen (program_of stage) stage.places stage.run slot node node.frame stands m state.shown in
      record { frame = g.frame; is = g.is; role = g.shows.shown.role; waits = g.shows.waits }

  pub lowest_is_task : (slot : ℕ) (node : Node Activation) → node_at stage.run.cactus slot ≡ Some node → IsLowest node → running.is_task (place_of node) (m.core.frames (place_of node)) ≡ true
  lowest_is_task slot node stands low = elim (task_tells (program_of stage) stage.places m stage.run state.shown slot node stands) [ inl h ↦ h.1 | inr h ↦ absurd (h.0 low) ]

  is_body : (r : Role) → ¬ (r ≢ role.Body) → role_of r ≡ Body
  is_body role.Body off = refl
  is_body (role.Child region continuation) off = absurd (off (λ e. cc))

  body_is : (r : Role) → role_of r ≡ Body → r ≡ role.Body
  body_is role.Body e = refl
  body_is (role.Child region continuation) e = absurd (cc)

  -- the path of a frame is its parent's with its own number
  pub below_place : (slot parent : ℕ) (node : Node Activation) → node_at stage.run.cactus slot ≡ Some node → node.parent ≡ Some parent → (above : Node Activation) × (number : ℕ) × (node_at stage.run.cactus parent ≡ Some above) × (place_of node ≡ number ∷ place_of above)
  below_place slot parent node stands has =
      let b : IsBelow stage.run.cactus parent node.path.numbers = state.shown.agrees.tree.below slot parent node stands has in
      (b.above, b.number, b.stands, ap reverse b.is ∙ reverse_last b.above.path.numbers b.number)

  -- a frame is on the task that stands below it
  pub on_task : (slot low : ℕ) → IsLowestBelow stage.run.cactus slot low → (node lowest_node : Node Activation) → node_at stage.run.cactus slot ≡ Some node → node_at stage.run.cactus low ≡ Some lowest_node → OnTask m.core (place_of lowest_node) (place_of node)
  on_task slot low (lowest s n at is_low) node lowest_node stands below =
      let same : n ≡ node = same_node (node_at stage.run.cactus s) n node at stands in
      let same_low : n ≡ lowest_node = same_node (node_at stage.run.cactus s) n lowest_node at below in
      subst (λ (x : Node Activation). OnTask m.core (place_of lowest_node) (place_of x)) (sym same_low ∙ same)
      (is_lowest (lowest_is_task s lowest_node below (subst (λ (x : Node Activation). IsLowest x) same_low is_low)))
  on_task slot low (under s caller l n at high has rest) node lowest_node stands below =
      let same : n ≡ node = same_node (node_at stage.run.cactus s) n node at stands in
      let (above, number, there, place) = below_place s caller n at has in
      let on : OnTask m.core (place_of lowest_node) (place_of above) = on_task caller l rest above lowest_node there below in
      let g = here_at s n at in
      let called : OnTask m.core (place_of lowest_node) (number ∷ place_of above) = is_called number g.frame on (ap m.core.frames (sym place) ∙ g.is) (g.role ∙ is_body n.frame.frame.role (λ off. high (inr off))) in
      subst (λ (x : Node Activation). OnTask m.core (place_of lowest_node) (place_of x)) same (subst (λ p. OnTask m.core (place_of lowest_node) p) (sym place) called)

  -- and the other way round
  pub lowest_of : (t p : Path) → OnTask m.core t p → (slot low : ℕ) (node lowest_node : Node Activation) → node_at stage.run.cactus slot ≡ Some node → place_of node ≡ p → node_at stage.run.cactus low ≡ Some lowest_node → place_of lowest_node ≡ t → IsLowestBelow stage.run.cactus slot low
  lowest_of t p (is_lowest task) slot low node lowest_node stands at below is =
      let one : slot ≡ low = same_place (program_of stage) stage.places m stage.run state.shown slot low node lowest_node stands below (at ∙ sym is) in
      subst (λ x. IsLowestBelow stage.run.cactus slot x) one (lowest slot node stands
      (elim (task_tells (program_of stage) stage.places m stage.run state.shown slot node stands) [
        | inl h ↦ h.0
        | inr h ↦ absurd (let yes : running.is_task (place_of node) (m.core.frames (place_of node)) ≡ true = subst (λ x. running.is_task x (m.core.frames x) ≡ true) (sym at) task in let no : running.is_task (place_of node) (m.core.frames (place_of node)) ≡ false = h.1 in let e : true ≡ false = sym yes ∙ no in cc)
      ]))
  lowest_of t p (is_called number {p = q} f on frame_is body) slot low node lowest_node stands at below is = by_parent node.parent refl (λ s n a b. lowest_of t q on s low n lowest_node a b below is)
    where
      role_is : node.frame.frame.role ≡ role.Body
      role_is =
          let g = here_at slot node stands in
          let e : Some g.frame ≡ Some f = sym g.is ∙ (ap m.core.frames at ∙ frame_is) in
          let same : g.frame ≡ f = cc in
          body_is node.frame.frame.role (sym g.role ∙ (ap (λ (x : Frame). x.role) same ∙ body))

      by_parent : (o : Option ℕ) → node.parent ≡ o → ((s : ℕ) (n : Node Activation) → node_at stage.run.cactus s ≡ Some n → place_of n ≡ q → IsLowestBelow stage.run.cactus s low) → IsLowestBelow stage.run.cactus slot low
      by_parent None none rest = absurd (let nil : [] ≡ number ∷ q = sym (ap (λ (l : List ℕ). reverse l) (state.shown.agrees.tree.root slot node stands none)) ∙ at in cc)
      by_parent (Some parent) has rest =
          let (above, last, there, place) = below_place slot parent node stands has in
          let e : last ∷ place_of above ≡ number ∷ q = sym place ∙ at in
          let up : place_of above ≡ q = cc in
          under slot parent low node stands (λ low_of. elim low_of [ inl none ↦ (let f : None ≡ Some parent = sym none ∙ has in cc) | inr other ↦ other role_is ]) has (rest parent above there up)

  -- the top of the task that stands below a frame that waits for no call is that frame
  pub top_of_slots : (slot low : ℕ) → IsLowestBelow stage.run.cactus slot low → (node lowest_node : Node Activation) → node_at stage.run.cactus slot ≡ Some node → node_at stage.run.cactus low ≡ Some lowest_node → node.frame.callee ≡ None → running.top_of m.core (place_of lowest_node) ≡ place_of node
  top_of_slots slot low below node lowest_node stands at none =
      let on : OnTask m.core (place_of lowest_node) (place_of node) = on_task slot low below node lowest_node stands at in
      let whole : PartIntoTasks (workers_of stage) m = parts in
      let (up, u) = whole.top (place_of lowest_node) (place_of node) on in
      sym (no_deeper m.core tree (place_of lowest_node) (place_of node) on calls_nothing (running.top_of m.core (place_of lowest_node)) up u)
    where
      no_call : (w : Waits) → CalleeStands stage.run.cactus node w None → (j : ℕ) (d : Option RegisterId) → wait_of w ≢ OnCall j d
      no_call waits.Nothing c j d e = cc
      no_call (waits.Region region) c j d e = cc
      no_call (waits.Call child register) c j d e = let (s, called, some, rest, numbers) = c in absurd (cc)

      calls_nothing : (f : Frame) (j : ℕ) (d : Option RegisterId) → m.core.frames (place_of node) ≡ Some f → f.waits ≢ OnCall j d
      calls_nothing f j d is wait =
          let g = here_at slot node stands in
          let e : Some g.frame ≡ Some f = sym g.is ∙ is in
          let same : g.frame ≡ f = cc in
          no_call node.frame.frame.waits (subst (λ o. CalleeStands stage.run.cactus node node.frame.frame.waits o) none (state.shown.agrees.nodes slot node stands).callee) j d (sym g.waits ∙ (ap (λ (x : Frame). x.waits) same ∙ wait))

  -- a path of the state is a slot's
  pub slot_of : (p : Path) (f : Frame) → m.core.frames p ≡ Some f → (slot : ℕ) × (node : Node Activation) × (node_at stage.run.cactus slot ≡ Some node) × (place_of node ≡ p)
  slot_of p f is = from (named stage.run.cactus (reverse p)) refl (subst (λ o. ShowsAt (layout_of (program_of stage) stage.places stage.run.cactus m.core) stage.places p o (named stage.run.cactus (reverse p))) is (state.shown.shows.frames p))
    where
      from : (o : Option (Node Activation)) → named stage.run.cactus (reverse p) ≡ o → ShowsAt (layout_of (program_of stage) stage.places stage.run.cactus m.core) stage.places p (Some f) (named stage.run.cactus (reverse p)) →
          (slot : ℕ) × (node : Node Activation) × (node_at stage.run.cactus slot ≡ Some node) × (place_of node ≡ p)
      from None at h = absurd (subst (λ o. ShowsAt (layout_of (program_of stage) stage.places stage.run.cactus m.core) stage.places p (Some f) o) at h)
      from (Some node) at h =
          let found : FoundAt stage.run.cactus (reverse p) node = named_found stage.run.cactus (reverse p) node at in
          (found.slot, node, found.stands, ap reverse found.is ∙ reverse-reverse p)
