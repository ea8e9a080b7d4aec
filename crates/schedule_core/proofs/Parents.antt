-- The slot of a child's parent is that of the task whose top detached it.
use Rattle.std.proofs.Common.{◌≡◌, ◌≢◌, ℕ, List, [], ◌∷◌, reverse, Option, Some, None, true, refl, sym, ap, ◌∙◌, subst}
use Rattle.std.specs.Prelude.{IfSome}
use Rattle.semantics.specs.Paths.{Path as RunningPath}
use Rattle.semantics.specs.Frames as defined
use Rattle.semantics.specs.Events as running
use Rattle.semantics.specs.Events.{Machine}
use Rattle.linear.specs.declared.form.RegisterId.{RegisterId}
use Rattle.program.specs.declared.identifier.BlockId.{BlockId}
use Rattle.frame.specs.declared.frame.Role.{Role}
use Rattle.frame.specs.declared.frame.Role.TheVariants as role
use Rattle.frame.specs.Reading.{role_of}
use Rattle.cactus.specs.declared.node.Node.{Node}
use Rattle.cactus.specs.Frames.{node_at}
use Rattle.schedule_workers.specs.declared.activation.Activation.{Activation}
use Rattle.schedule_workers.specs.declared.run.Run.{Run}
use Rattle.schedule_workers.specs.Scheduling.{hand_of}
use Rattle.schedule_workers.specs.RunShown.{place_of}
use Rattle.schedule_workers.proofs.Topmost.{hand_found}
use Rattle.schedule_core.specs.declared.ready.Ticket.{Ticket}
use Rattle.schedule_core.specs.declared.stage.Stage.{Stage}
use Rattle.schedule_core.specs.ReadyBelow.{IsNotReady, IsSpotOf}
use Rattle.schedule_core.specs.Parents.{HasNoParentSlot, HasNoReadyParent, IsParentSlot, IsReadyParent}
use Rattle.schedule_core.specs.Stages.{IsState, workers_of}
use Rattle.schedule_core.specs.Viewed.{place_in}
use Rattle.schedule_core.proofs.ReadyBelow.{ready_top, unready}
use Rattle.schedule_core.proofs.TaskPlaces.{below_place, here_at}
use Rattle.schedule_core.proofs.Views.{hand_is}

is_detached : (r : Role) → r ≢ role.Body → running.is_child (role_of r) ≡ true
is_detached role.Body off = absurd (off refl)
is_detached (role.Child region continuation) off = refl

no_body : (r : Role) → running.is_child (role_of r) ≡ true → r ≢ role.Body
no_body role.Body is e = cc
no_body (role.Child region continuation) is e = cc

-- a child's parent
pub slot_if : (m : Run) (worker top : ℕ) (child : Node Activation) (region : RegisterId) (continuation : BlockId) (o : Option ℕ) → hand_of m.hands.items worker ≡ Some top → node_at m.cactus top ≡ Some child →
    child.frame.frame.role ≡ role.Child region continuation → child.parent ≡ o → IfSome o (IsParentSlot m worker)
slot_if m worker top child region continuation None hand stands is at = tt
slot_if m worker top child region continuation (Some slot) hand stands is at =
    record { top = top; hand = hand; child = child; stands = stands; role = λ e. (let f : role.Child region continuation ≡ role.Body = sym is ∙ e in cc); parent = at }

module _ (stage : Stage) (m : Machine) (state : IsState stage m) (worker : ℕ) where
  pub shown : (slot : ℕ) (spot : Ticket) → IsParentSlot stage.run worker slot → IsSpotOf stage.run.cactus slot spot → IsReadyParent stage.run m worker spot.slot spot.generation
  shown slot spot p is =
      let (above, number, there, place) = below_place stage m state p.top slot p.child p.stands p.parent in
      let t = ready_top stage m state slot above there spot is in
      let child : place_of p.child ≡ number ∷ running.top_of m.core (place_in t.path) = place ∙ ap (λ q. number ∷ q) (sym t.is_top) in
      let here = here_at stage m state p.top p.child p.stands in
      record {
        path = t.path;
        named = t.named;
        ready = t.ready;
        number = number;
        hand = hand_is stage m state worker p.top p.child p.hand p.stands ∙ ap Some child;
        child = here.frame;
        stands = subst (λ q. m.core.frames q ≡ Some here.frame) child here.is;
        is_child = ap running.is_child here.role ∙ is_detached p.child.frame.frame.role p.role;
      }

  -- the role of the frame in the worker's hand
  hand_role : (number : ℕ) (above : RunningPath) (f : defined.Frame) (node : Node Activation) (slot : ℕ) → node_at stage.run.cactus slot ≡ Some node → place_of node ≡ number ∷ above → m.core.frames (number ∷ above) ≡ Some f → running.is_child f.role ≡ true → node.frame.frame.role ≢ role.Body
  hand_role number above f node slot stands place at child =
      let here = here_at stage m state slot node stands in
      let e : Some here.frame ≡ Some f = sym here.is ∙ (ap m.core.frames place ∙ at) in
      let same : here.frame ≡ f = cc in
      no_body node.frame.frame.role (ap running.is_child (sym here.role) ∙ (ap (λ (g : defined.Frame). running.is_child g.role) same ∙ child))

  pub no_parent : HasNoParentSlot stage.run worker → HasNoReadyParent (workers_of stage) m worker
  no_parent none number above f hand at child status =
      let (slot, node, has, stands, place) = hand_found stage.run.cactus stage.run.hands.items worker (number ∷ above) (sym (state.shown.shows.hands worker) ∙ hand) in
      let root : node.path.numbers ≡ [] = state.shown.agrees.tree.root slot node stands (none slot node has stands (hand_role number above f node slot stands place at child)) in
      let e : [] ≡ number ∷ above = sym (ap (λ (l : List ℕ). reverse l) root) ∙ place in
      cc

  pub not_ready : (slot : ℕ) → IsParentSlot stage.run worker slot → IsNotReady stage.run.cactus slot → HasNoReadyParent (workers_of stage) m worker
  not_ready slot p off number above f hand at child status =
      let (over, n, there, place) = below_place stage m state p.top slot p.child p.stands p.parent in
      let e : Some (number ∷ above) ≡ Some (n ∷ place_of over) = sym hand ∙ (hand_is stage m state worker p.top p.child p.hand p.stands ∙ ap Some place) in
      let same : above ≡ place_of over = cc in
      unready stage m state slot over there off (ap (λ q. running.top_status (workers_of stage) m q) (sym same) ∙ status)
