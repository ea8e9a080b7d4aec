use Rattle.std.proofs.Common.{rules, [], true, ◌≡◌, ℕ, ◌+◌, ◌<◌, length, cond, eqb, None, Some, sym, ap, ◌∙◌, subst, arith}
use Rattle.std.proofs.Math.Logic.{∥∥₁_elim}
use Rattle.std.proofs.Props.{props}
use Rattle.std.specs.Option.{option_copied, option_copied_mut}
use Rattle.frame.specs.declared.frame.Wait.TheVariants as wait
use Rattle.cactus.specs.Frames.{Frames, node_at}
use Rattle.schedule_workers.specs.declared.activation.Activation.{Activation}
use Rattle.schedule_workers.specs.declared.run.Run.{Run}
use Rattle.frame_engine.specs.declared.activation.Frame.{Frame}
use Rattle.frame_engine.specs.Activation.{ShowsFrame}
use Rattle.schedule_workers.specs.Scheduling.{counted_in}
use Rattle.schedule_workers.proofs.Living.{as_many_hands, lives_at, parent_lives}
use Rattle.schedule_workers.proofs.Onward.{not_there}
use Rattle.schedule_workers.proofs.Views.{node_tells}
use Rattle.schedule_workers.proofs.Detaching.{count_room, counts_region, depth_room, detach_shown, found_again, frames_room, made_room}
use Rattle.schedule_workers.proofs.Syncing.{LeadsTo}
use Rattle.semantics.specs.Events.{Step}
use Rattle.schedule_workers.specs.Follows.{Follows}
use Rattle.schedule_workers.specs.Stalls.{NotesStalls}
use Rattle.schedule_workers.proofs.Growing.{detaching, on_err}
use Rattle.schedule_workers.proofs.Noted.{child_notes, ready_free, run_free}
use Rattle.schedule_workers.proofs.Uses.{child_follows, follows_same}
use Rattle.schedule_workers.proofs.run.Run.detach.Goals as goal

pub unreachable-requires : goal.unreachable-requires
unreachable-requires c = ∥∥₁_elim c.requires.safe (hlevel props) (λ s.
    let (node, stands) = node_tells c.args.self.now.cactus c.args.slot (s.shown.agrees.held c.args.worker c.args.slot c.requires.hand) in
    let none = sym c.node.ensures ∙ ap option_copied c.in_default.is in
    let e = sym stands ∙ none in
    cc)

pub child_frame-requires : goal.child_frame-requires
child_frame-requires c =
    let node = c.in-Some.node.now in
    let stands : node_at c.args.self.now.cactus c.args.slot ≡ Some node = sym c.node.ensures ∙ ap option_copied c.in-Some.is in
    ∥∥₁_elim c.requires.safe (hlevel props) (λ s.
    let room = depth_room c.args.program.now c.args.places.now c.args.self.now c.args.slot node stands s.machine s.shown c.args.detach.region c.args.detach.body c.args.detach.continuation (c.requires.item node stands) c.args.worker c.requires.hand s.safe in
    omega (arith, room))

pub add_child-requires-clause-room : goal.add_child-requires-clause-room
add_child-requires-clause-room c =
    let node = c.in-Some.node.now in
    let stands : node_at c.args.self.now.cactus c.args.slot ≡ Some node = sym c.node.ensures ∙ ap option_copied c.in-Some.is in
    ∥∥₁_elim c.requires.safe (hlevel props) (λ s.
    frames_room c.args.program.now c.args.places.now c.args.self.now c.args.slot node stands s.machine s.shown c.args.detach.region c.args.detach.body c.args.detach.continuation (c.requires.item node stands) c.args.worker c.requires.hand s.safe)

pub leave_behind-requires-clause-counted : goal.leave_behind-requires-clause-counted
leave_behind-requires-clause-counted c =
    let node = c.in-Some.node.now in
    let stands : node_at c.args.self.now.cactus c.args.slot ≡ Some node = sym c.node.ensures ∙ ap option_copied c.in-Some.is in
    let same = found_again c.args.self.now.cactus c.args.slot node stands c.add_child.new.self node.frame.frame.made c.in_ok-begun.begun c.in_ok-begun_slot.begun_slot c.in_ok-begun_slot.ensures.ok c.in-Some-frame_mut.parent.now (sym c.frame_mut.ensures.value ∙ ap option_copied_mut c.in-Some-frame_mut.is) in
    ∥∥₁_elim c.requires.safe (hlevel props) (λ s.
    let within = counts_region c.args.program.now c.args.places.now c.args.self.now c.args.slot node stands s.machine s.shown c.args.detach.region c.args.detach.body c.args.detach.continuation (c.requires.item node stands) c.args.worker c.requires.hand s.safe _ c.requires.text in
    subst (λ (x : Activation). c.args.detach.region.0 < length x.counts.items) same within)

pub leave_behind-requires-clause-room : goal.leave_behind-requires-clause-room
leave_behind-requires-clause-room c =
    let node = c.in-Some.node.now in
    let stands : node_at c.args.self.now.cactus c.args.slot ≡ Some node = sym c.node.ensures ∙ ap option_copied c.in-Some.is in
    let same = found_again c.args.self.now.cactus c.args.slot node stands c.add_child.new.self node.frame.frame.made c.in_ok-begun.begun c.in_ok-begun_slot.begun_slot c.in_ok-begun_slot.ensures.ok c.in-Some-frame_mut.parent.now (sym c.frame_mut.ensures.value ∙ ap option_copied_mut c.in-Some-frame_mut.is) in
    ∥∥₁_elim c.requires.safe (hlevel props) (λ s.
    let room = count_room c.args.program.now c.args.places.now c.args.self.now c.args.slot node stands s.machine s.shown c.args.detach.region c.args.detach.body c.args.detach.continuation (c.requires.item node stands) c.args.worker c.requires.hand s.safe in
    subst (λ (x : Activation). counted_in x c.args.detach.region.0 + 1 < 18446744073709551616) same room)

pub leave_behind-requires-clause-made : goal.leave_behind-requires-clause-made
leave_behind-requires-clause-made c =
    let node = c.in-Some.node.now in
    let stands : node_at c.args.self.now.cactus c.args.slot ≡ Some node = sym c.node.ensures ∙ ap option_copied c.in-Some.is in
    let same = found_again c.args.self.now.cactus c.args.slot node stands c.add_child.new.self node.frame.frame.made c.in_ok-begun.begun c.in_ok-begun_slot.begun_slot c.in_ok-begun_slot.ensures.ok c.in-Some-frame_mut.parent.now (sym c.frame_mut.ensures.value ∙ ap option_copied_mut c.in-Some-frame_mut.is) in
    ∥∥₁_elim c.requires.safe (hlevel props) (λ s.
    let room = made_room c.args.program.now c.args.places.now c.args.self.now c.args.slot node stands s.machine s.shown c.args.detach.region c.args.detach.body c.args.detach.continuation (c.requires.item node stands) c.args.worker c.requires.hand s.safe in
    subst (λ (x : Activation). x.frame.made + 1 < 18446744073709551616) same room)

pub overflow_add-self : goal.overflow_add-self
overflow_add-self c =
    let low : c.args.self.now.instructions + 2 < 9223372036854775808 = ∥∥₁_elim c.requires.safe (hlevel props) (λ s. let a = (s.safe []).counted in let b = s.shown.shows.done in omega (arith, a, b)) in
    record { fits = omega (arith, low) }

pub overflow_add-depth : goal.overflow_add-depth
overflow_add-depth c =
    let node = c.in-Some.node.now in
    let stands : node_at c.args.self.now.cactus c.args.slot ≡ Some node = sym c.node.ensures ∙ ap option_copied c.in-Some.is in
    let deep = ap (λ (f : Frame). f.depth) c.in_ok-frame.ensures.is in
    let low : node.frame.frame.depth + 2 < 18446744073709551616 = ∥∥₁_elim c.requires.safe (hlevel props) (λ s.
    depth_room c.args.program.now c.args.places.now c.args.self.now c.args.slot node stands s.machine s.shown c.args.detach.region c.args.detach.body c.args.detach.continuation (c.requires.item node stands) c.args.worker c.requires.hand s.safe) in
    record { fits = omega (arith, low, deep) }

pub returns-clause-steps : goal.returns-clause-steps
returns-clause-steps c = λ m shown safe.
    let prog = c.args.program.now in
    let places = c.args.places.now in
    let k = c.args.self.now in
    let node = c.in-Some.node.now in
    let stands : node_at k.cactus c.args.slot ≡ Some node = sym c.node.ensures ∙ ap option_copied c.in-Some.is in
    let same = found_again k.cactus c.args.slot node stands c.add_child.new.self node.frame.frame.made c.in_ok-begun.begun c.in_ok-begun_slot.begun_slot c.in_ok-begun_slot.ensures.ok c.in-Some-frame_mut.parent.now (sym c.frame_mut.ensures.value ∙ ap option_copied_mut c.in-Some-frame_mut.is) in
    let left = c.leave_behind.new.self in
    subst (λ (x : Run). LeadsTo prog places k x c.args.worker m) (sym c.set_hand.ensures)
    (detach_shown prog places k c.args.slot node stands m shown c.args.detach.region c.args.detach.body c.args.detach.continuation (c.requires.item node stands) c.args.worker c.requires.hand safe (search rules) _ c.requires.text
    c.add_child.new.self c.in_ok-begun_slot.begun_slot c.in_ok-frame.frame c.in_ok-frame.ensures c.in_ok-begun.begun c.in_ok-begun.ensures.is c.in_ok-begun.ensures.none c.in_ok-begun.ensures.as_many c.in_ok-begun_slot.ensures.ok c.in_ok-begun_slot.ensures.map left
    (subst (λ (x : Activation). left ≡ record x { frame = left.frame; counts = left.counts; runner = None }) (sym same) c.leave_behind.ensures.only)
    (subst (λ (x : Activation). left.frame ≡ record x.frame { place = record { block = c.args.detach.continuation; index = 0 }; made = x.frame.made + 1; waits = wait.Nothing }) (sym same) c.leave_behind.ensures.frame)
    (λ y x h s. c.leave_behind.ensures.shown y places x h (subst (λ (z : Activation). ShowsFrame y places x h z.frame) same s))
    (subst (λ (x : Activation). length left.counts.items ≡ length x.counts.items) (sym same) c.leave_behind.ensures.as_many)
    (subst (λ (x : Activation). (y : ℕ) → counted_in left y ≡ cond (eqb c.args.detach.region.0 y) (counted_in x c.args.detach.region.0 + 1) (counted_in x y)) (sym same) c.leave_behind.ensures.counted)
    c.max-self.result c.max-self.ensures)

pub returns-clause-stalls : goal.returns-clause-stalls
returns-clause-stalls c = λ m shown safe.
    let k = c.args.self.now in
    let node = c.in-Some.node.now in
    let stands : node_at k.cactus c.args.slot ≡ Some node = sym c.node.ensures ∙ ap option_copied c.in-Some.is in
    let left = c.leave_behind.new.self in
    subst (λ (x : Run). NotesStalls (Step c.args.worker) m k.cactus x.cactus true) (sym c.set_hand.ensures)
    (child_notes c.args.program.now c.args.places.now k c.args.slot node stands m shown c.args.worker c.requires.hand c.add_child.new.self c.args.slot node.frame.frame.made c.in_ok-begun.begun c.in_ok-begun_slot.begun_slot c.in_ok-begun_slot.ensures.ok
    (run_free c.in_ok-begun.begun c.args.worker (ap (λ (x : Activation). x.runner) c.in_ok-begun.ensures.is)) c.args.slot left
    (ready_free left (ap (λ (x : Frame). x.waits) c.leave_behind.ensures.frame)))

pub returns-clause-follows : goal.returns-clause-follows
returns-clause-follows c =
    let k = c.args.self.now in
    let node = c.in-Some.node.now in
    subst (λ (x : Run). Follows k.cactus x.cactus) (sym c.set_hand.ensures)
    (child_follows k.cactus c.add_child.new.self c.args.slot node.frame.frame.made c.in_ok-begun.begun c.in_ok-begun_slot.begun_slot c.in_ok-begun_slot.ensures.ok c.args.slot c.leave_behind.new.self)

pub returns-in_err-frame-clause-grows : goal.returns-in_err-frame-clause-grows
returns-in_err-frame-clause-grows c = on_err c.from_residual.result (detaching c.args.program.now c.args.places.now c.args.self.now c.args.slot c.args.worker c.requires.hand c.args.detach.region c.args.detach.body c.args.detach.continuation c.requires.item)

pub returns-in_err-frame-clause-follows : goal.returns-in_err-frame-clause-follows
returns-in_err-frame-clause-follows c = follows_same c.args.self.now.cactus

pub returns-in_err-begun-clause-grows : goal.returns-in_err-begun-clause-grows
returns-in_err-begun-clause-grows c = on_err c.from_residual-in_err-begun.result (detaching c.args.program.now c.args.places.now c.args.self.now c.args.slot c.args.worker c.requires.hand c.args.detach.region c.args.detach.body c.args.detach.continuation c.requires.item)

pub returns-in_err-begun-clause-follows : goal.returns-in_err-begun-clause-follows
returns-in_err-begun-clause-follows c = follows_same c.args.self.now.cactus

pub returns-in_err-begun_slot-clause-grows : goal.returns-in_err-begun_slot-clause-grows
returns-in_err-begun_slot-clause-grows c = on_err c.from_residual-in_err-begun_slot.result (detaching c.args.program.now c.args.places.now c.args.self.now c.args.slot c.args.worker c.requires.hand c.args.detach.region c.args.detach.body c.args.detach.continuation c.requires.item)

pub returns-in_err-begun_slot-clause-follows : goal.returns-in_err-begun_slot-clause-follows
returns-in_err-begun_slot-clause-follows c = subst (λ (x : Frames Activation). Follows c.args.self.now.cactus x) (sym c.in_err-begun_slot.ensures.err) (follows_same c.args.self.now.cactus)

pub add_child-requires-clause-lives : goal.add_child-requires-clause-lives
add_child-requires-clause-lives c = lives_at c.args.self.now.cactus c.args.slot c.in-Some.node.now (sym c.node.ensures ∙ ap option_copied c.in-Some.is)

pub unreachable-requires-in_default-frame_mut : goal.unreachable-requires-in_default-frame_mut
unreachable-requires-in_default-frame_mut c =
    not_there c.add_child.new.self c.args.slot (parent_lives c.args.self.now.cactus _ c.args.slot _ _ _ c.in_ok-begun_slot.ensures.ok)
    (sym c.frame_mut.ensures.value ∙ ap option_copied_mut c.in_default-frame_mut.is)

pub set_hand-requires : goal.set_hand-requires
set_hand-requires c = c.requires.worker

pub returns-clause-workers : goal.returns-clause-workers
returns-clause-workers c = ap (λ (x : Run). length x.hands.items) c.set_hand.ensures ∙ as_many_hands c.args.self.now.hands c.args.worker (Some c.in_ok-begun_slot.begun_slot)

pub returns-clause-moves : goal.returns-clause-moves
returns-clause-moves c = ap (λ (x : Run). x.moves) c.set_hand.ensures
