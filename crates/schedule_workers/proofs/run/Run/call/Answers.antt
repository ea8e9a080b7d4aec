use Rattle.std.proofs.Common.{rules, true, ◌≡◌, ◌+◌, ◌<◌, ℕ, List, [], length, max, Option, Some, None, sym, ap, ◌∙◌, subst, arith}
use Rattle.std.specs.Prelude.{map, sum}
use Rattle.std.specs.Vec.{vec_len, with_item}
use Rattle.std.specs.Option.{option_copied, option_copied_mut}
use Rattle.std.proofs.Math.Logic.{∥∥₁_elim}
use Rattle.std.proofs.Props.{props}
use Rattle.linear.specs.declared.form.RegisterId.{RegisterId}
use Rattle.semantics.specs.Paths.{Path}
use Rattle.semantics.specs.Frames as frames
use Rattle.semantics.specs.State.{waiting}
use Rattle.program.specs.declared.function.Alloca.{Alloca}
use Rattle.semantics.specs.Events.{Step}
use Rattle.cactus.specs.Frames.{AddsChild, Frames, node_at}
use Rattle.cactus.specs.Lending.{with_frame}
use Rattle.frame_engine.specs.declared.activation.Places.{Places}
use Rattle.frame_engine.specs.Shows.{Layout}
use Rattle.frame_engine.specs.Activation.{FrameFits, ShowsFrame}
use Rattle.schedule_workers.specs.declared.activation.Activation.{Activation}
use Rattle.schedule_workers.specs.Calls.{IsCallee, waiting_on}
use Rattle.schedule_workers.specs.Rooms.{IsRoom, IsRoomier}
use Rattle.schedule_workers.specs.declared.run.Run.{Run}
use Rattle.schedule_workers.specs.Going.{DoesStep}
use Rattle.schedule_workers.proofs.Called.{allocas_there, arguments_fit, call_steps, callee_there, caller_kept, is_low}
use Rattle.schedule_workers.proofs.Callee.{call_names}
use Rattle.schedule_workers.proofs.Living.{as_many_hands, lives_at, parent_lives, room_small, room_there}
use Rattle.schedule_workers.proofs.Onward.{fits_prop, not_there}
use Rattle.schedule_workers.proofs.Stepping.{same_room}
use Rattle.schedule_workers.proofs.Views.{node_tells}
use Rattle.schedule_workers.specs.Follows.{Follows}
use Rattle.schedule_workers.specs.Stalls.{NotesStalls}
use Rattle.schedule_workers.proofs.Growing.{calling, on_err}
use Rattle.schedule_workers.proofs.Noted.{calling_free, child_notes, run_free}
use Rattle.schedule_workers.proofs.Uses.{child_follows, follows_same}
use Rattle.schedule_workers.proofs.run.Run.call.Goals as goal

abbrev Goes : Activation → Option RegisterId → ℕ → Type 0
Goes a d child = (x : Layout) (at : Places) (q : Path) (h : frames.Frame) → ShowsFrame x at q h a.frame → ShowsFrame x at q (waiting h d) (waiting_on d child a).frame

pub function_at-called-requires : goal.function_at-called-requires
function_at-called-requires c = ∥∥₁_elim c.requires.safe (hlevel props) (λ s.
    let (n, at) = node_tells c.args.self.now.cactus c.args.slot (s.shown.agrees.held c.args.worker c.args.slot c.requires.hand) in
    callee_there c.args.program.now c.args.places.now _ n.frame.frame c.args.call.register c.args.call.callee c.args.call.arguments.now c.requires.text (c.requires.item n at))

pub returns-in_default-clause-left : goal.returns-in_default-clause-left
returns-in_default-clause-left c = same_room c.args.self.now

pub returns-in_err-block-clause-left : goal.returns-in_err-block-clause-left
returns-in_err-block-clause-left c = on_err c.from_residual.result c.make_room.ensures.roomier

pub returns-in_err-begun-clause-left : goal.returns-in_err-begun-clause-left
returns-in_err-begun-clause-left c = on_err c.from_residual-in_err-begun.result c.make_room.ensures.roomier

pub returns-in_err-push_call_in-clause-left : goal.returns-in_err-push_call_in-clause-left
returns-in_err-push_call_in-clause-left c =
    let r = c.make_room.new.self in
    on_err c.from_residual-in_err-push_call_in.result
    (subst (λ (x : Frames Activation). IsRoomier c.args.self.now (record r { cactus = x })) (sym c.in_err-push_call_in.ensures.err) c.make_room.ensures.roomier)

pub unreachable-requires : goal.unreachable-requires
unreachable-requires c = ∥∥₁_elim c.requires.safe (hlevel props) (λ s.
    let (n, at) = node_tells c.args.self.now.cactus c.args.slot (s.shown.agrees.held c.args.worker c.args.slot c.requires.hand) in
    let slots = ap (λ (x : Run). x.cactus) c.make_room.ensures.roomier.only in
    let none : node_at c.args.self.now.cactus c.args.slot ≡ None = ap (λ x. node_at x c.args.slot) (sym slots) ∙ sym c.node.ensures ∙ ap option_copied c.in_default-node.is in
    let e : None ≡ Some n = sym none ∙ at in
    absurd cc)

pub callee_of-requires-clause-depth : goal.callee_of-requires-clause-depth
callee_of-requires-clause-depth c =
    let k = c.args.self.now in
    let n = c.in-Some-node.node.now in
    let slots = ap (λ (x : Run). x.cactus) c.make_room.ensures.roomier.only in
    let at : node_at k.cactus c.args.slot ≡ Some n = ap (λ x. node_at x c.args.slot) (sym slots) ∙ sym c.node.ensures ∙ ap option_copied c.in-Some-node.is in
    let low : n.frame.frame.depth + 2 < 18446744073709551616 = ∥∥₁_elim c.requires.safe (hlevel props) (λ s. (is_low c.args.program.now c.args.places.now k c.args.slot n n.frame at c.args.worker c.requires.hand s.machine s.shown s.safe).depth) in
    omega (arith, low)

pub callee_of-requires-clause-there : goal.callee_of-requires-clause-there
callee_of-requires-clause-there c =
    let k = c.args.self.now in
    let n = c.in-Some-node.node.now in
    let slots = ap (λ (x : Run). x.cactus) c.make_room.ensures.roomier.only in
    let at : node_at k.cactus c.args.slot ≡ Some n = ap (λ x. node_at x c.args.slot) (sym slots) ∙ sym c.node.ensures ∙ ap option_copied c.in-Some-node.is in
    let fits : FrameFits c.args.program.now n.frame.frame = ∥∥₁_elim c.requires.safe (fits_prop _ _) (λ s. (s.shown.agrees.nodes c.args.slot n at).fits) in
    allocas_there c.args.program.now c.args.places.now _ n.frame.frame c.requires.text fits

pub callee_of-requires-clause-names : goal.callee_of-requires-clause-names
callee_of-requires-clause-names c =
    let k = c.args.self.now in
    let n = c.in-Some-node.node.now in
    let slots = ap (λ (x : Run). x.cactus) c.make_room.ensures.roomier.only in
    let at : node_at k.cactus c.args.slot ≡ Some n = ap (λ x. node_at x c.args.slot) (sym slots) ∙ sym c.node.ensures ∙ ap option_copied c.in-Some-node.is in
    let fits : FrameFits c.args.program.now n.frame.frame = ∥∥₁_elim c.requires.safe (fits_prop _ _) (λ s. (s.shown.agrees.nodes c.args.slot n at).fits) in
    (call_names c.args.program.now c.args.places.now _ n.frame.frame c.args.call.register c.args.call.callee c.args.call.arguments.now c.requires.text fits (c.requires.item n at)).1

pub callee_of-requires-clause-room : goal.callee_of-requires-clause-room
callee_of-requires-clause-room c =
    let k = c.args.self.now in
    let n = c.in-Some-node.node.now in
    let slots = ap (λ (x : Run). x.cactus) c.make_room.ensures.roomier.only in
    let at : node_at k.cactus c.args.slot ≡ Some n = ap (λ x. node_at x c.args.slot) (sym slots) ∙ sym c.node.ensures ∙ ap option_copied c.in-Some-node.is in
    let few = arguments_fit c.args.program.now c.args.places.now _ n.frame.frame c.args.call.register c.args.call.callee c.args.call.arguments.now c.requires.text (c.requires.item n at) c.function_at-called.result.now c.function_at-called.ensures in
    let long = c.len.ensures in
    omega (arith, few, long)

pub push_call_in-requires-clause-room : goal.push_call_in-requires-clause-room
push_call_in-requires-clause-room c =
    let k = c.args.self.now in
    let n = c.in-Some-node.node.now in
    let slots = ap (λ (x : Run). x.cactus) c.make_room.ensures.roomier.only in
    let at : node_at k.cactus c.args.slot ≡ Some n = ap (λ x. node_at x c.args.slot) (sym slots) ∙ sym c.node.ensures ∙ ap option_copied c.in-Some-node.is in
    let same : c.make_room.new.self.cactus.made ≡ k.cactus.made = ap (λ (x : Run). x.cactus.made) c.make_room.ensures.roomier.only in
    let low : k.cactus.made + 1 < 9223372036854775808 = ∥∥₁_elim c.requires.safe (hlevel props) (λ s. (is_low c.args.program.now c.args.places.now k c.args.slot n n.frame at c.args.worker c.requires.hand s.machine s.shown s.safe).frames) in
    omega (arith, low, same)

pub wait_for-requires-clause-made : goal.wait_for-requires-clause-made
wait_for-requires-clause-made c =
    let k = c.args.self.now in
    let r = c.make_room.new.self in
    let n = c.in-Some-node.node.now in
    let slots = ap (λ (x : Run). x.cactus) c.make_room.ensures.roomier.only in
    let here : node_at r.cactus c.args.slot ≡ Some n = sym c.node.ensures ∙ ap option_copied c.in-Some-node.is in
    let at : node_at k.cactus c.args.slot ≡ Some n = ap (λ x. node_at x c.args.slot) (sym slots) ∙ here in
    let kept = caller_kept r.cactus c.push_call_in.new.self c.args.slot n.frame.frame.made c.next_slot-child.result c.in_ok-begun.begun c.in_ok-push_call_in.ensures.ok n here c.in-Some-frame_mut.caller.now (sym c.frame_mut.ensures.value ∙ ap option_copied_mut c.in-Some-frame_mut.is) in
    let low : n.frame.frame.made + 1 < 18446744073709551616 = ∥∥₁_elim c.requires.safe (hlevel props) (λ s. (is_low c.args.program.now c.args.places.now k c.args.slot n n.frame at c.args.worker c.requires.hand s.machine s.shown s.safe).made) in
    subst (λ (x : Activation). x.frame.made + 1 < 18446744073709551616) kept low

pub wait_for-requires-clause-index : goal.wait_for-requires-clause-index
wait_for-requires-clause-index c =
    let k = c.args.self.now in
    let r = c.make_room.new.self in
    let n = c.in-Some-node.node.now in
    let slots = ap (λ (x : Run). x.cactus) c.make_room.ensures.roomier.only in
    let here : node_at r.cactus c.args.slot ≡ Some n = sym c.node.ensures ∙ ap option_copied c.in-Some-node.is in
    let at : node_at k.cactus c.args.slot ≡ Some n = ap (λ x. node_at x c.args.slot) (sym slots) ∙ here in
    let kept = caller_kept r.cactus c.push_call_in.new.self c.args.slot n.frame.frame.made c.next_slot-child.result c.in_ok-begun.begun c.in_ok-push_call_in.ensures.ok n here c.in-Some-frame_mut.caller.now (sym c.frame_mut.ensures.value ∙ ap option_copied_mut c.in-Some-frame_mut.is) in
    let low : n.frame.frame.place.index + 1 < 18446744073709551616 = ∥∥₁_elim c.requires.safe (hlevel props) (λ s. (is_low c.args.program.now c.args.places.now k c.args.slot n n.frame at c.args.worker c.requires.hand s.machine s.shown s.safe).index) in
    subst (λ (x : Activation). x.frame.place.index + 1 < 18446744073709551616) kept low

pub count_call-requires-clause-counted : goal.count_call-requires-clause-counted
count_call-requires-clause-counted c =
    let low : c.args.self.now.instructions + 2 < 9223372036854775808 = ∥∥₁_elim c.requires.safe (hlevel props) (λ s. let a = (s.safe []).counted in let b = s.shown.shows.done in omega (arith, a, b)) in
    let given = ap (λ (x : Run). x.instructions) c.give.ensures in
    let more = ap (λ (x : Run). x.instructions) c.make_room.ensures.roomier.only in
    omega (arith, low, given, more)

pub count_call-requires-clause-depth : goal.count_call-requires-clause-depth
count_call-requires-clause-depth c =
    let k = c.args.self.now in
    let n = c.in-Some-node.node.now in
    let slots = ap (λ (x : Run). x.cactus) c.make_room.ensures.roomier.only in
    let at : node_at k.cactus c.args.slot ≡ Some n = ap (λ x. node_at x c.args.slot) (sym slots) ∙ sym c.node.ensures ∙ ap option_copied c.in-Some-node.is in
    let low : n.frame.frame.depth + 2 < 18446744073709551616 = ∥∥₁_elim c.requires.safe (hlevel props) (λ s. (is_low c.args.program.now c.args.places.now k c.args.slot n n.frame at c.args.worker c.requires.hand s.machine s.shown s.safe).depth) in
    omega (arith, low)

pub overflow_add-depth : goal.overflow_add-depth
overflow_add-depth c =
    let k = c.args.self.now in
    let n = c.in-Some-node.node.now in
    let slots = ap (λ (x : Run). x.cactus) c.make_room.ensures.roomier.only in
    let at : node_at k.cactus c.args.slot ≡ Some n = ap (λ x. node_at x c.args.slot) (sym slots) ∙ sym c.node.ensures ∙ ap option_copied c.in-Some-node.is in
    let low : n.frame.frame.depth + 2 < 18446744073709551616 = ∥∥₁_elim c.requires.safe (hlevel props) (λ s. (is_low c.args.program.now c.args.places.now k c.args.slot n n.frame at c.args.worker c.requires.hand s.machine s.shown s.safe).depth) in
    record { fits = omega (arith, low) }

pub returns-clause-steps : goal.returns-clause-steps
returns-clause-steps c =
    let k = c.args.self.now in
    let r = c.make_room.new.self in
    let n = c.in-Some-node.node.now in
    let d = c.args.call.register in
    let more = c.make_room.ensures.roomier in
    let slots = ap (λ (x : Run). x.cactus) more.only in
    let here : node_at r.cactus c.args.slot ≡ Some n = sym c.node.ensures ∙ ap option_copied c.in-Some-node.is in
    let at : node_at k.cactus c.args.slot ≡ Some n = ap (λ x. node_at x c.args.slot) (sym slots) ∙ here in
    let mid = c.push_call_in.new.self in
    let b = c.in_ok-begun.begun in
    let child = c.next_slot-child.result in
    let f = c.function_at-called.result.now in
    let block = c.in_ok-block.block in
    let kept : n.frame ≡ c.in-Some-frame_mut.caller.now = caller_kept r.cactus mid c.args.slot n.frame.frame.made child b c.in_ok-push_call_in.ensures.ok n here c.in-Some-frame_mut.caller.now (sym c.frame_mut.ensures.value ∙ ap option_copied_mut c.in-Some-frame_mut.is) in
    let went : Goes n.frame d child = subst (λ (y : Activation). Goes y d child) (sym kept) (λ x p q h s. subst (λ (y : Activation). ShowsFrame x p q (waiting h d) y.frame) c.wait_for.ensures.is (c.wait_for.ensures.shown x p q h s)) in
    let cells = c.in-Some.ensures.some ∙ ap (λ (xs : List Alloca). sum (map (λ (x : Alloca). x.cells) xs)) c.as_slice.ensures in
    let room = subst (λ y. IsRoom r child y block) cells c.in_ok-block.ensures.room in
    let begins = subst (λ y. IsCallee c.args.places.now n.frame.frame c.args.worker c.args.call.callee y c.args.call.arguments.now block.start b) c.len.ensures c.in_ok-begun.ensures in
    let waits = c.wait_for.ensures.is ∙ ap (waiting_on d child) (sym kept) in
    let steps = call_steps c.args.program.now c.args.places.now k c.args.slot n n.frame at c.args.worker c.requires.hand _ c.requires.text d c.args.call.callee c.args.call.arguments.now (c.requires.item n at) (search rules) r more mid b child
    c.in_ok-push_call_in.ensures.ok c.in_ok-push_call_in.ensures.map f c.function_at-called.ensures block room begins went in
    let set = c.set_hand.ensures ∙ ap (λ (x : Run). record x { hands = with_item x.hands c.args.worker (Some child) })
    (c.count_call.ensures ∙ ap (λ (x : Run). record x { instructions = x.instructions + 1; peak = max x.peak (n.frame.frame.depth + 1 + 1) }) c.give.ensures) in
    subst (λ (x : Run). DoesStep c.args.program.now c.args.places.now k x c.args.worker) (sym set)
    (subst (λ (y : Activation). DoesStep c.args.program.now c.args.places.now k (record r {
      cactus = with_frame mid c.args.slot y;
      blocks = with_item r.blocks child block;
      end = max r.end (block.start + block.cells);
      hands = with_item r.hands c.args.worker (Some child);
      instructions = r.instructions + 1;
      peak = max r.peak (n.frame.frame.depth + 1 + 1);
    }) c.args.worker) (sym waits) steps)

pub returns-clause-stalls : goal.returns-clause-stalls
returns-clause-stalls c = λ m shown safe.
    let k = c.args.self.now in
    let r = c.make_room.new.self in
    let n = c.in-Some-node.node.now in
    let slots = ap (λ (x : Run). x.cactus) c.make_room.ensures.roomier.only in
    let at : node_at k.cactus c.args.slot ≡ Some n = ap (λ x. node_at x c.args.slot) (sym slots) ∙ sym c.node.ensures ∙ ap option_copied c.in-Some-node.is in
    let b = c.in_ok-begun.begun in
    let child = c.next_slot-child.result in
    let waits = c.wait_for.new.self in
    let adds = subst (λ (x : Frames Activation). AddsChild x c.push_call_in.new.self c.args.slot n.frame.frame.made b child) slots c.in_ok-push_call_in.ensures.ok in
    let now = ap (λ (x : Run). x.cactus) c.set_hand.ensures ∙ (ap (λ (x : Run). x.cactus) c.count_call.ensures ∙ ap (λ (x : Run). x.cactus) c.give.ensures) in
    subst (λ (x : Frames Activation). NotesStalls (Step c.args.worker) m k.cactus x true) (sym now)
    (child_notes c.args.program.now c.args.places.now k c.args.slot n at m shown c.args.worker c.requires.hand c.push_call_in.new.self c.args.slot n.frame.frame.made b child adds
    (run_free b c.args.worker (ap (λ (x : Activation). x.runner) c.in_ok-begun.ensures.is)) c.args.slot waits
    (calling_free waits c.in-Some-frame_mut.caller.now.frame.made c.args.call.register (ap (λ (x : Activation). x.frame.waits) c.wait_for.ensures.is)))

pub returns-clause-follows : goal.returns-clause-follows
returns-clause-follows c =
    let k = c.args.self.now in
    let n = c.in-Some-node.node.now in
    let slots = ap (λ (x : Run). x.cactus) c.make_room.ensures.roomier.only in
    let b = c.in_ok-begun.begun in
    let child = c.next_slot-child.result in
    let adds = subst (λ (x : Frames Activation). AddsChild x c.push_call_in.new.self c.args.slot n.frame.frame.made b child) slots c.in_ok-push_call_in.ensures.ok in
    let now = ap (λ (x : Run). x.cactus) c.set_hand.ensures ∙ (ap (λ (x : Run). x.cactus) c.count_call.ensures ∙ ap (λ (x : Run). x.cactus) c.give.ensures) in
    subst (λ (x : Frames Activation). Follows k.cactus x) (sym now)
    (child_follows k.cactus c.push_call_in.new.self c.args.slot n.frame.frame.made b child adds c.args.slot c.wait_for.new.self)

pub returns-in_default-clause-follows : goal.returns-in_default-clause-follows
returns-in_default-clause-follows c = follows_same c.args.self.now.cactus

pub returns-in_default-clause-grows : goal.returns-in_default-clause-grows
returns-in_default-clause-grows c = calling c.args.program.now c.args.places.now c.args.self.now c.args.slot c.args.worker c.requires.hand c.args.call.register c.args.call.callee c.args.call.arguments.now c.requires.item

pub returns-in_err-block-clause-grows : goal.returns-in_err-block-clause-grows
returns-in_err-block-clause-grows c = on_err c.from_residual.result (calling c.args.program.now c.args.places.now c.args.self.now c.args.slot c.args.worker c.requires.hand c.args.call.register c.args.call.callee c.args.call.arguments.now c.requires.item)

pub returns-in_err-block-clause-follows : goal.returns-in_err-block-clause-follows
returns-in_err-block-clause-follows c =
    let slots = ap (λ (x : Run). x.cactus) c.make_room.ensures.roomier.only in
    subst (λ (x : Frames Activation). Follows c.args.self.now.cactus x) (sym slots) (follows_same c.args.self.now.cactus)

pub returns-in_err-begun-clause-grows : goal.returns-in_err-begun-clause-grows
returns-in_err-begun-clause-grows c = on_err c.from_residual-in_err-begun.result (calling c.args.program.now c.args.places.now c.args.self.now c.args.slot c.args.worker c.requires.hand c.args.call.register c.args.call.callee c.args.call.arguments.now c.requires.item)

pub returns-in_err-begun-clause-follows : goal.returns-in_err-begun-clause-follows
returns-in_err-begun-clause-follows c =
    let slots = ap (λ (x : Run). x.cactus) c.make_room.ensures.roomier.only in
    subst (λ (x : Frames Activation). Follows c.args.self.now.cactus x) (sym slots) (follows_same c.args.self.now.cactus)

pub returns-in_err-push_call_in-clause-grows : goal.returns-in_err-push_call_in-clause-grows
returns-in_err-push_call_in-clause-grows c = on_err c.from_residual-in_err-push_call_in.result (calling c.args.program.now c.args.places.now c.args.self.now c.args.slot c.args.worker c.requires.hand c.args.call.register c.args.call.callee c.args.call.arguments.now c.requires.item)

pub returns-in_err-push_call_in-clause-follows : goal.returns-in_err-push_call_in-clause-follows
returns-in_err-push_call_in-clause-follows c =
    let slots = ap (λ (x : Run). x.cactus) c.make_room.ensures.roomier.only in
    subst (λ (x : Frames Activation). Follows c.args.self.now.cactus x) (sym (c.in_err-push_call_in.ensures.err ∙ slots)) (follows_same c.args.self.now.cactus)

pub callee_of-requires-clause-start : goal.callee_of-requires-clause-start
callee_of-requires-clause-start c = let small = room_small c.make_room.new.self _ _ _ c.in_ok-block.ensures.room in omega (arith, small)

pub push_call_in-requires-clause-lives : goal.push_call_in-requires-clause-lives
push_call_in-requires-clause-lives c = lives_at c.make_room.new.self.cactus c.args.slot c.in-Some-node.node.now (sym c.node.ensures ∙ ap option_copied c.in-Some-node.is)

pub unreachable-requires-in_default-frame_mut : goal.unreachable-requires-in_default-frame_mut
unreachable-requires-in_default-frame_mut c =
    not_there c.push_call_in.new.self c.args.slot (parent_lives c.make_room.new.self.cactus _ c.args.slot _ _ _ c.in_ok-push_call_in.ensures.ok)
    (sym c.frame_mut.ensures.value ∙ ap option_copied_mut c.in_default-frame_mut.is)

pub give-requires-clause-slot : goal.give-requires-clause-slot
give-requires-clause-slot c = room_there c.make_room.new.self _ _ _ c.in_ok-block.ensures.room

pub give-requires-clause-end : goal.give-requires-clause-end
give-requires-clause-end c = let small = room_small c.make_room.new.self _ _ _ c.in_ok-block.ensures.room in omega (arith, small)

pub set_hand-requires : goal.set_hand-requires
set_hand-requires c =
    let same = ap (λ (x : Run). x.hands) c.count_call.ensures ∙ (ap (λ (x : Run). x.hands) c.give.ensures ∙ ap (λ (x : Run). x.hands) c.make_room.ensures.roomier.only) in
    subst (λ hands. c.args.worker < vec_len hands) (sym same) c.requires.worker

pub returns-clause-workers : goal.returns-clause-workers
returns-clause-workers c =
    let same = ap (λ (x : Run). length x.hands.items) c.count_call.ensures ∙ (ap (λ (x : Run). length x.hands.items) c.give.ensures ∙ ap (λ (x : Run). length x.hands.items) c.make_room.ensures.roomier.only) in
    ap (λ (x : Run). length x.hands.items) c.set_hand.ensures ∙ (as_many_hands c.count_call.new.self.hands c.args.worker (Some c.next_slot-child.result) ∙ same)

pub returns-clause-moves : goal.returns-clause-moves
returns-clause-moves c =
    ap (λ (x : Run). x.moves) c.set_hand.ensures ∙ (ap (λ (x : Run). x.moves) c.count_call.ensures ∙ (ap (λ (x : Run). x.moves) c.give.ensures ∙ ap (λ (x : Run). x.moves) c.make_room.ensures.roomier.only))

pub returns-in_err-block-clause-workers : goal.returns-in_err-block-clause-workers
returns-in_err-block-clause-workers c = ap (λ (x : Run). length x.hands.items) c.make_room.ensures.roomier.only

pub returns-in_err-begun-clause-workers : goal.returns-in_err-begun-clause-workers
returns-in_err-begun-clause-workers c = ap (λ (x : Run). length x.hands.items) c.make_room.ensures.roomier.only

pub returns-in_err-push_call_in-clause-workers : goal.returns-in_err-push_call_in-clause-workers
returns-in_err-push_call_in-clause-workers c = ap (λ (x : Run). length x.hands.items) c.make_room.ensures.roomier.only

pub returns-in_err-block-clause-moves : goal.returns-in_err-block-clause-moves
returns-in_err-block-clause-moves c = ap (λ (x : Run). x.moves) c.make_room.ensures.roomier.only

pub returns-in_err-begun-clause-moves : goal.returns-in_err-begun-clause-moves
returns-in_err-begun-clause-moves c = ap (λ (x : Run). x.moves) c.make_room.ensures.roomier.only

pub returns-in_err-push_call_in-clause-moves : goal.returns-in_err-push_call_in-clause-moves
returns-in_err-push_call_in-clause-moves c = ap (λ (x : Run). x.moves) c.make_room.ensures.roomier.only
