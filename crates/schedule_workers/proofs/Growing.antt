-- A detach and a call make a frame.
use Rattle.std.proofs.Common.{◌≡◌, ℕ, List, length, Option, Some, sym, ap, ◌∙◌, subst}
use Rattle.std.specs.Prelude.{Result, Ok, Err, OnErr}
use Rattle.linear.specs.declared.form.RegisterId.{RegisterId}
use Rattle.semantics.specs.Paths.{Path}
use Rattle.semantics.specs.Frames.{Does, Ends, Frame, item_at, region_of}
use Rattle.semantics.specs.Effect.{Action, Call, Detach, action_of, item_action}
use Rattle.semantics.specs.Events.{Machine}
use Rattle.program.specs.declared.function.Program.{Program}
use Rattle.program.specs.declared.identifier.BlockId.{BlockId}
use Rattle.program.specs.declared.identifier.FunctionId.{FunctionId}
use Rattle.program.specs.declared.instruction.Argument.{Argument}
use Rattle.program.specs.declared.instruction.Instruction.TheVariants as instruction
use Rattle.program.specs.declared.instruction.Terminator.TheVariants as terminator
use Rattle.cactus.specs.declared.node.Node.{Node}
use Rattle.cactus.specs.Frames.{node_at}
use Rattle.frame_engine.specs.declared.activation.Places.{Places}
use Rattle.frame_engine.specs.Shows.{TrapFree}
use Rattle.schedule_workers.specs.declared.activation.Activation.{Activation}
use Rattle.schedule_workers.specs.declared.run.Run.{Run}
use Rattle.schedule_workers.specs.Events.{Grows, GrowsAtStep, MakesFrame}
use Rattle.schedule_workers.specs.Going.{RunsSafely}
use Rattle.schedule_workers.specs.Layouts.{object_at}
use Rattle.schedule_workers.specs.Scheduling.{hand_of}
use Rattle.schedule_workers.specs.RunShown.{IsShown, item_here, place_of}
use Rattle.schedule_workers.proofs.Calling.{act}
use Rattle.schedule_workers.proofs.Onward.{seen, standing}
use Rattle.schedule_workers.proofs.Standing.{can_step}
use Rattle.schedule_workers.proofs.Syncing.{own}
use Rattle.schedule_workers.proofs.Views.{node_tells}

module _ (prog : Program) (places : Places) (k : Run) (slot : ℕ) (node : Node Activation) (stands : node_at k.cactus slot ≡ Some node) (m : Machine) (shown : IsShown prog places m k)
    (w : ℕ) (hand : hand_of k.hands.items w ≡ Some slot) (safe : RunsSafely prog (length k.hands.items) m) where
  abbrev p : Path
  p = place_of node

  abbrev g : Frame
  g = (seen prog places k slot node node.frame stands m shown).frame

  grows_at : (x : Action) → action_of prog p g m.core.memory ≡ x → MakesFrame x → GrowsAtStep prog m w
  grows_at x is makes =
      let s = standing prog places k slot node node.frame stands m shown w hand safe in
      record { path = p; hand = s.hand; frame = g; stands = s.frame; makes = subst MakesFrame (sym is) makes }

  detach_grows : (r : RegisterId) (b n : BlockId) → item_here prog node.frame.frame ≡ Some (Ends (terminator.Detach r b n)) → GrowsAtStep prog m w
  detach_grows r b n item =
      let t = (seen prog places k slot node node.frame stands m shown).shows.shown in
      let can = can_step prog (length k.hands.items) w p m g m.core.memory (standing prog places k slot node node.frame stands m shown w hand safe) in
      let placed : item_at prog g.function g.block g.index ≡ Some (Ends (terminator.Detach r b n)) = (λ j. item_at prog (t.function j) (t.block j) (t.index j)) ∙ item in
      let here = ap (item_action prog p g m.core.memory) placed in
      let free = (can.safe (object_at places k.cactus)).trap_free in
      grows_at (Detach r.0 b.0 n.0) (here ∙ own p g (Detach r.0 b.0 n.0) (region_of (g.registers r.0)) (subst TrapFree here free)) tt

  call_grows : (d : Option RegisterId) (callee : FunctionId) (arguments : List Argument) → item_here prog node.frame.frame ≡ Some (Does (instruction.Call d callee arguments)) → GrowsAtStep prog m w
  call_grows d callee arguments item =
      let does = act prog places k slot node node.frame stands m shown d callee arguments item w hand safe in
      grows_at (Call d callee.0 does.0) does.2 tt

-- ---- whatever machine is shown

pub on_err : {X E : Type 0} {P : Type 0} (r : Result X E) → P → OnErr r P
on_err (Ok x) p = tt
on_err (Err e) p = p

module _ (prog : Program) (places : Places) (k : Run) (slot w : ℕ) (hand : hand_of k.hands.items w ≡ Some slot) where
  pub detaching : (r : RegisterId) (b n : BlockId) → ((node : Node Activation) → node_at k.cactus slot ≡ Some node → item_here prog node.frame.frame ≡ Some (Ends (terminator.Detach r b n))) → Grows prog places k w
  detaching r b n item m shown safe =
      let (node, stands) = node_tells k.cactus slot (shown.agrees.held w slot hand) in
      detach_grows prog places k slot node stands m shown w hand safe r b n (item node stands)

  pub calling : (d : Option RegisterId) (callee : FunctionId) (arguments : List Argument) → ((node : Node Activation) → node_at k.cactus slot ≡ Some node → item_here prog node.frame.frame ≡ Some (Does (instruction.Call d callee arguments))) → Grows prog places k w
  calling d callee arguments item m shown safe =
      let (node, stands) = node_tells k.cactus slot (shown.agrees.held w slot hand) in
      call_grows prog places k slot node stands m shown w hand safe d callee arguments (item node stands)
