-- What a call needs of the run, and that its step is the definitions'.
use Rattle.std.proofs.Common.{◌≡◌, ℕ, ◌+◌, ◌<◌, ◌≤◌, List, [], length, max, Option, Some, None, refl, sym, ap, ◌∙◌, subst, arith}
use Rattle.std.specs.Prelude.{slice_get}
use Rattle.std.specs.Vec.{with_item}
use Rattle.std.proofs.lemmas.Option.{same_Some, slice_get_within}
use Rattle.linear.specs.declared.form.RegisterId.{RegisterId}
use Rattle.semantics.specs.Paths.{Path}
use Rattle.semantics.specs.Frames as frames
use Rattle.semantics.specs.Frames.{Does}
use Rattle.semantics.specs.State.{waiting}
use Rattle.semantics.specs.Events.{Machine}
use Rattle.program.specs.declared.function.Function.{Function}
use Rattle.program.specs.declared.function.Program.{Program}
use Rattle.program.specs.declared.identifier.FunctionId.{FunctionId}
use Rattle.program.specs.declared.instruction.Argument.{Argument}
use Rattle.program.specs.declared.instruction.Instruction.TheVariants as instruction
use Rattle.cactus.specs.declared.node.Node.{Node}
use Rattle.cactus.specs.Frames.{Frames, frame_at, node_at, AddsChild}
use Rattle.cactus.specs.ByPath.{GrowsMap}
use Rattle.cactus.specs.Lending.{with_frame}
use Rattle.frame_engine.specs.declared.activation.Frame.{Frame}
use Rattle.frame_engine.specs.declared.activation.Places.{Places}
use Rattle.frame_engine.specs.Activation.{FrameFits, ShowsFrame}
use Rattle.frame_engine.specs.Shows.{Layout}
use Rattle.schedule_workers.specs.declared.activation.Activation.{Activation}
use Rattle.schedule_workers.specs.declared.run.Block.{Block}
use Rattle.schedule_workers.specs.declared.run.Run.{Run}
use Rattle.schedule_workers.specs.Calls.{IsCallee, waiting_on}
use Rattle.schedule_workers.specs.Going.{DoesStep, RunsSafely, TextFits}
use Rattle.schedule_workers.specs.Rooms.{IsRoom, IsRoomier}
use Rattle.schedule_workers.specs.Scheduling.{hand_of}
use Rattle.schedule_workers.specs.RunShown.{IsShown, cells_in, item_here, place_of}
use Rattle.schedule_workers.proofs.Callee.{called_shown}
use Rattle.schedule_workers.proofs.Onward.{seen, standing}
use Rattle.schedule_workers.proofs.Roomy.{roomy_shown}
use Rattle.schedule_workers.proofs.Standing.{can_step}

-- ---- the text

pub callee_there : (prog : Program) (places : Places) (moves : ℕ) (f : Frame) (d : Option RegisterId) (callee : FunctionId) (arguments : List Argument) → TextFits prog places moves → item_here prog f ≡ Some (Does (instruction.Call d callee arguments)) → callee.0 < length prog.functions
callee_there prog places moves f d callee arguments text item = let t = text.calls f.function.0 f.place.block.0 f.place.index d callee arguments item in slice_get_within prog.functions callee.0 t.0 t.1

pub arguments_fit : (prog : Program) (places : Places) (moves : ℕ) (f : Frame) (d : Option RegisterId) (callee : FunctionId) (arguments : List Argument) → TextFits prog places moves → item_here prog f ≡ Some (Does (instruction.Call d callee arguments)) → (g : Function) → slice_get prog.functions callee.0 ≡ Some g → length arguments ≤ length g.registers
arguments_fit prog places moves f d callee arguments text item g is =
    let t = text.calls f.function.0 f.place.block.0 f.place.index d callee arguments item in
    let few = t.2 in
    let same : length t.0.registers ≡ length g.registers = ap (λ (x : Function). length x.registers) (same_Some t.0 g (sym t.1 ∙ is)) in
    omega (arith, few, same)

pub allocas_there : (prog : Program) (places : Places) (moves : ℕ) (f : Frame) → TextFits prog places moves → FrameFits prog f → f.function.0 < length places.allocas
allocas_there prog places moves f text fits = let same = text.fits.allocas in let low = fits.there in omega (arith, same, low)

-- the caller is as it was
pub caller_kept : (old mid : Frames Activation) (slot number child : ℕ) (b : Activation) → AddsChild old mid slot number b child → (node : Node Activation) → node_at old slot ≡ Some node → (a : Activation) → frame_at mid slot ≡ Some a → node.frame ≡ a
caller_kept old mid slot number child b adds node stands a is =
    let same : node_at mid slot ≡ Some node = adds.added.change.others slot (λ e. let none : node_at old slot ≡ None = subst (λ s. node_at old s ≡ None) (sym e) adds.added.free in let x : None ≡ Some node = sym none ∙ stands in absurd cc) ∙ stands in
    let e : Some node.frame ≡ Some a = rw same at is in
    cc

module _ (prog : Program) (places : Places) (k : Run) (slot : ℕ) (n : Node Activation) (a : Activation) (stands : node_at k.cactus slot ≡ Some (record n { frame = a })) (w : ℕ) (hand : hand_of k.hands.items w ≡ Some slot) where
  -- numbers are small
  pub record IsLow : Type 0 where
    pub depth : a.frame.depth + 2 < 18446744073709551616
    pub made : a.frame.made + 1 < 18446744073709551616
    pub index : a.frame.place.index + 1 < 18446744073709551616
    pub counted : k.instructions + 2 < 9223372036854775808
    pub frames : k.cactus.made + 1 < 9223372036854775808

  pub is_low : (m : Machine) → IsShown prog places m k → RunsSafely prog (length k.hands.items) m → IsLow
  is_low m shown safe =
      let see = seen prog places k slot n a stands m shown in
      let can = can_step prog (length k.hands.items) w (place_of (record n { frame = a })) m see.frame m.core.memory (standing prog places k slot n a stands m shown w hand safe) in
      let depth = can.depth in
      let made = can.made in
      let index = can.index in
      let same_depth = see.shows.shown.depth in
      let same_made = see.shows.shown.made in
      let same_index = see.shows.shown.index in
      let counted = (safe []).counted in
      let done = shown.shows.done in
      let frames = shown.agrees.made in
      record {
        depth = omega (arith, depth, same_depth);
        made = omega (arith, made, same_made);
        index = omega (arith, index, same_index);
        counted = omega (arith, counted, done);
        frames = omega (arith, counted, done, frames);
      }

  module _ (moves : ℕ) (text : TextFits prog places moves) (d : Option RegisterId) (callee : FunctionId) (arguments : List Argument) (item : item_here prog a.frame ≡ Some (Does (instruction.Call d callee arguments))) (within : w < length k.hands.items)
      (roomy : Run) (more : IsRoomier k roomy) (mid : Frames Activation) (b : Activation) (child : ℕ) (adds : AddsChild roomy.cactus mid slot a.frame.made b child) (grows : GrowsMap roomy.cactus mid slot a.frame.made b)
      (f : Function) (is : slice_get prog.functions callee.0 ≡ Some f) (block : Block) (room : IsRoom roomy child (cells_in (Some f)) block)
      (begins : IsCallee places a.frame w callee (length f.registers) arguments block.start b)
      (went : (x : Layout) (at : Places) (q : Path) (h : frames.Frame) → ShowsFrame x at q h a.frame → ShowsFrame x at q (waiting h d) (waiting_on d child a).frame) where
    -- the run after it
    abbrev pub gone_into : Run → Run
    gone_into x = record x {
      cactus = with_frame mid slot (waiting_on d child a);
      blocks = with_item x.blocks child block;
      end = max x.end (block.start + block.cells);
      hands = with_item x.hands w (Some child);
      instructions = x.instructions + 1;
      peak = max x.peak (a.frame.depth + 1 + 1);
    }

    pub call_steps : DoesStep prog places k (gone_into roomy) w
    call_steps m shown safe =
        let large : Run = record k { cells = roomy.cells; blocks = roomy.blocks } in
        let large_shown : IsShown prog places m large = roomy_shown prog places k roomy more m shown in
        let made = (seen prog places large slot n a stands m large_shown).shows.shown.made in
        let slots : roomy.cactus ≡ k.cactus = ap (λ (x : Run). x.cactus) more.only in
        let adds_here = subst (λ y. AddsChild k.cactus mid slot y b child) (sym made) (subst (λ x. AddsChild x mid slot a.frame.made b child) slots adds) in
        let grows_here = subst (λ y. GrowsMap k.cactus mid slot y b) (sym made) (subst (λ x. GrowsMap x mid slot a.frame.made b) slots grows) in
        let room_here = subst (λ (x : Run). IsRoom x child (cells_in (Some f)) block) more.only room in
        let t = called_shown prog places moves text large slot n a stands m large_shown d callee arguments item w hand safe mid b child adds_here grows_here f is block room_here begins within went (a.frame.depth + 1) refl large.moves in
        (t.0, t.1, subst (λ (x : Run). IsShown prog places t.0 x) (sym (ap gone_into more.only)) t.2)
