use Rattle.std.proofs.Common.{rules, [], true, ◌≡◌, ℕ, ◌+◌, ◌-◌, ◌<◌, List, length, None, Some, sym, ap, ◌∙◌, subst, arith}
use Rattle.std.specs.Prelude.{slice_get}
use Rattle.std.specs.Option.{option_copied, option_copied_mut}
use Rattle.std.specs.Vec.{with_item}
use Rattle.std.proofs.Math.Logic.{∥∥₁_elim}
use Rattle.std.proofs.Props.{props}
use Rattle.semantics.specs.Events.{Step}
use Rattle.cactus.specs.Frames.{frame_at, node_at}
use Rattle.cactus.specs.ByPath.{ShrinksMap}
use Rattle.cactus.specs.Lending.{with_frame}
use Rattle.schedule_workers.specs.declared.activation.Activation.{Activation}
use Rattle.schedule_workers.specs.declared.run.Run.{Run}
use Rattle.schedule_workers.specs.Scheduling.{counted_in}
use Rattle.schedule_workers.proofs.Onward.{not_there}
use Rattle.schedule_workers.proofs.Views.{frame_found, node_tells}
use Rattle.schedule_workers.proofs.Syncing.{LeadsTo}
use Rattle.schedule_workers.proofs.Reattaching.{counted_room, found_above, goes_on, last_is, lives_mid, living_room, made_room, none_some, root_ends, stops}
use Rattle.schedule_workers.specs.Follows.{Follows}
use Rattle.schedule_workers.specs.Stalls.{NotesStalls}
use Rattle.schedule_workers.proofs.Noted.{end_notes, last_notes, run_free, stalled_alike}
use Rattle.schedule_workers.proofs.Uses.{end_follows, removed_follows}
use Rattle.schedule_workers.proofs.run.Run.reattach.Goals as goal

pub unreachable-requires : goal.unreachable-requires
unreachable-requires c = ∥∥₁_elim c.requires.safe (hlevel props) (λ s.
    let (node, stands) = node_tells c.args.self.now.cactus c.args.slot (s.shown.agrees.held c.args.worker c.args.slot c.requires.hand) in
    let none = sym c.node.ensures ∙ ap option_copied c.in_default.is in
    let e = sym stands ∙ none in
    cc)

pub overflow_add-self : goal.overflow_add-self
overflow_add-self c =
    let low : c.args.self.now.instructions + 2 < 9223372036854775808 = ∥∥₁_elim c.requires.safe (hlevel props) (λ s. let a = (s.safe []).counted in let b = s.shown.shows.done in omega (arith, a, b)) in
    record { fits = omega (arith, low) }

pub unreachable-requires-in_default-frame_mut : goal.unreachable-requires-in_default-frame_mut
unreachable-requires-in_default-frame_mut c =
    let k = c.args.self.now in
    let node = c.in-Some.node.now in
    let stands : node_at k.cactus c.args.slot ≡ Some node = sym c.node.ensures ∙ ap option_copied c.in-Some.is in
    let it = c.requires.item node stands in
    let shrinks : ShrinksMap k.cactus c.discard.new.self c.args.slot node = c.discard.ensures.map node stands in
    ∥∥₁_elim c.requires.safe (hlevel props) (λ s.
    let there = lives_mid c.args.program.now c.args.places.now k c.args.slot node stands s.machine s.shown c.args.region it.0 it.1 c.args.worker c.requires.hand s.safe (search rules) c.discard.new.self c.discard.ensures.rest shrinks c.in-Some-above.parent c.in-Some-above.is in
    not_there c.discard.new.self c.in-Some-above.parent there (sym c.frame_mut.ensures.value ∙ ap option_copied_mut c.in_default-frame_mut.is))

-- a path under a parent has a number
pub unreachable-requires-in_default-last : goal.unreachable-requires-in_default-last
unreachable-requires-in_default-last c =
    let k = c.args.self.now in
    let node = c.in-Some.node.now in
    let stands : node_at k.cactus c.args.slot ≡ Some node = sym c.node.ensures ∙ ap option_copied c.in-Some.is in
    let it = c.requires.item node stands in
    let shrinks : ShrinksMap k.cactus c.discard.new.self c.args.slot node = c.discard.ensures.map node stands in
    let none : slice_get node.path.numbers (length node.path.numbers - 1) ≡ None = subst (λ (xs : List ℕ). slice_get xs (length xs - 1) ≡ None) c.as_slice.ensures (sym c.last.ensures.value ∙ (sym c.copied-last.ensures ∙ c.in_default-last.is)) in
    ∥∥₁_elim c.requires.safe (hlevel props) (λ s.
    let some = last_is c.args.program.now c.args.places.now k c.args.slot node stands s.machine s.shown c.args.region it.0 it.1 c.args.worker c.requires.hand s.safe (search rules) c.discard.new.self c.discard.ensures.rest shrinks c.in-Some-above.parent c.in-Some-above.is in
    none_some _ (sym none ∙ some))

pub lose_child-requires-clause-counted : goal.lose_child-requires-clause-counted
lose_child-requires-clause-counted c =
    let k = c.args.self.now in
    let node = c.in-Some.node.now in
    let stands : node_at k.cactus c.args.slot ≡ Some node = sym c.node.ensures ∙ ap option_copied c.in-Some.is in
    let it = c.requires.item node stands in
    let shrinks : ShrinksMap k.cactus c.discard.new.self c.args.slot node = c.discard.ensures.map node stands in
    let found = sym c.frame_mut.ensures.value ∙ ap option_copied_mut c.in-Some-frame_mut.is in
    ∥∥₁_elim c.requires.safe (hlevel props) (λ s.
    let there = found_above c.args.program.now c.args.places.now k c.args.slot node stands s.machine s.shown c.args.region it.0 it.1 c.args.worker c.requires.hand s.safe (search rules) c.discard.new.self c.discard.ensures.rest shrinks c.in-Some-above.parent c.in-Some-above.is c.in-Some-frame_mut.activation.now found in
    let room = counted_room c.args.program.now c.args.places.now k c.args.slot node stands s.machine s.shown c.args.region it.0 it.1 c.args.worker c.requires.hand s.safe (search rules) c.discard.new.self c.discard.ensures.rest shrinks c.in-Some-above.parent c.in-Some-above.is in
    subst (λ (x : Activation). c.args.region.0 < length x.counts.items) there room)

pub lose_child-requires-clause-living : goal.lose_child-requires-clause-living
lose_child-requires-clause-living c =
    let k = c.args.self.now in
    let node = c.in-Some.node.now in
    let stands : node_at k.cactus c.args.slot ≡ Some node = sym c.node.ensures ∙ ap option_copied c.in-Some.is in
    let it = c.requires.item node stands in
    let shrinks : ShrinksMap k.cactus c.discard.new.self c.args.slot node = c.discard.ensures.map node stands in
    let found = sym c.frame_mut.ensures.value ∙ ap option_copied_mut c.in-Some-frame_mut.is in
    ∥∥₁_elim c.requires.safe (hlevel props) (λ s.
    let there = found_above c.args.program.now c.args.places.now k c.args.slot node stands s.machine s.shown c.args.region it.0 it.1 c.args.worker c.requires.hand s.safe (search rules) c.discard.new.self c.discard.ensures.rest shrinks c.in-Some-above.parent c.in-Some-above.is c.in-Some-frame_mut.activation.now found in
    let room = living_room c.args.program.now c.args.places.now k c.args.slot node stands s.machine s.shown c.args.region it.0 it.1 c.args.worker c.requires.hand s.safe (search rules) c.discard.new.self c.discard.ensures.rest shrinks c.in-Some-above.parent c.in-Some-above.is in
    subst (λ (x : Activation). 0 < counted_in x c.args.region.0) there room)

pub lose_child-requires-clause-made : goal.lose_child-requires-clause-made
lose_child-requires-clause-made c =
    let k = c.args.self.now in
    let node = c.in-Some.node.now in
    let stands : node_at k.cactus c.args.slot ≡ Some node = sym c.node.ensures ∙ ap option_copied c.in-Some.is in
    let it = c.requires.item node stands in
    let shrinks : ShrinksMap k.cactus c.discard.new.self c.args.slot node = c.discard.ensures.map node stands in
    let found = sym c.frame_mut.ensures.value ∙ ap option_copied_mut c.in-Some-frame_mut.is in
    ∥∥₁_elim c.requires.safe (hlevel props) (λ s.
    let there = found_above c.args.program.now c.args.places.now k c.args.slot node stands s.machine s.shown c.args.region it.0 it.1 c.args.worker c.requires.hand s.safe (search rules) c.discard.new.self c.discard.ensures.rest shrinks c.in-Some-above.parent c.in-Some-above.is c.in-Some-frame_mut.activation.now found in
    let room = made_room c.args.program.now c.args.places.now k c.args.slot node stands s.machine s.shown c.args.region it.0 it.1 c.args.worker c.requires.hand s.safe (search rules) c.discard.new.self c.discard.ensures.rest shrinks c.in-Some-above.parent c.in-Some-above.is in
    subst (λ (x : Activation). 0 < x.frame.made) there room)

-- no parent
pub returns-in_default-above-clause-steps : goal.returns-in_default-above-clause-steps
returns-in_default-above-clause-steps c = λ m shown safe.
    let k = c.args.self.now in
    let node = c.in-Some.node.now in
    let stands : node_at k.cactus c.args.slot ≡ Some node = sym c.node.ensures ∙ ap option_copied c.in-Some.is in
    let it = c.requires.item node stands in
    let shrinks : ShrinksMap k.cactus c.discard.new.self c.args.slot node = c.discard.ensures.map node stands in
    subst (λ (x : Run). LeadsTo c.args.program.now c.args.places.now k x c.args.worker m) (sym c.set_hand.ensures)
    (root_ends c.args.program.now c.args.places.now k c.args.slot node stands m shown c.args.region it.0 it.1 c.args.worker c.requires.hand safe (search rules) c.discard.new.self c.discard.ensures.rest shrinks c.in_default-above.is)

pub returns-then-lose_child-clause-steps : goal.returns-then-lose_child-clause-steps
returns-then-lose_child-clause-steps c = λ m shown safe.
    let k = c.args.self.now in
    let node = c.in-Some.node.now in
    let stands : node_at k.cactus c.args.slot ≡ Some node = sym c.node.ensures ∙ ap option_copied c.in-Some.is in
    let it = c.requires.item node stands in
    let shrinks : ShrinksMap k.cactus c.discard.new.self c.args.slot node = c.discard.ensures.map node stands in
    let found = sym c.frame_mut.ensures.value ∙ ap option_copied_mut c.in-Some-frame_mut.is in
    let last = subst (λ (xs : List ℕ). slice_get xs (length xs - 1) ≡ Some c.in-Some-last.number) c.as_slice.ensures (sym c.last.ensures.value ∙ (sym c.copied-last.ensures ∙ c.in-Some-last.is)) in
    subst (λ (x : Run). LeadsTo c.args.program.now c.args.places.now k x c.args.worker m) (sym c.set_hand-then-lose_child.ensures)
    (subst (λ (x : Activation). LeadsTo c.args.program.now c.args.places.now k (record k { cactus = with_frame c.discard.new.self c.in-Some-above.parent x; instructions = k.instructions + 1; hands = with_item k.hands c.args.worker (Some c.in-Some-above.parent) }) c.args.worker m) (sym c.run_by.ensures)
    (goes_on c.args.program.now c.args.places.now k c.args.slot node stands m shown c.args.region it.0 it.1 c.args.worker c.requires.hand safe (search rules) c.discard.new.self c.discard.ensures.rest shrinks c.in-Some-above.parent c.in-Some-above.is
    c.in-Some-frame_mut.activation.now c.lose_child.new.self found c.in-Some-last.number last c.lose_child.result
    (record { only = c.lose_child.ensures.only; as_many = c.lose_child.ensures.as_many; counted = c.lose_child.ensures.counted; resumed = c.lose_child.ensures.resumed }) c.if-lose_child.true))

pub returns-else-lose_child-clause-steps : goal.returns-else-lose_child-clause-steps
returns-else-lose_child-clause-steps c = λ m shown safe.
    let k = c.args.self.now in
    let node = c.in-Some.node.now in
    let stands : node_at k.cactus c.args.slot ≡ Some node = sym c.node.ensures ∙ ap option_copied c.in-Some.is in
    let it = c.requires.item node stands in
    let shrinks : ShrinksMap k.cactus c.discard.new.self c.args.slot node = c.discard.ensures.map node stands in
    let found = sym c.frame_mut.ensures.value ∙ ap option_copied_mut c.in-Some-frame_mut.is in
    let last = subst (λ (xs : List ℕ). slice_get xs (length xs - 1) ≡ Some c.in-Some-last.number) c.as_slice.ensures (sym c.last.ensures.value ∙ (sym c.copied-last.ensures ∙ c.in-Some-last.is)) in
    subst (λ (x : Run). LeadsTo c.args.program.now c.args.places.now k x c.args.worker m) (sym c.set_hand-else-lose_child.ensures)
    (stops c.args.program.now c.args.places.now k c.args.slot node stands m shown c.args.region it.0 it.1 c.args.worker c.requires.hand safe (search rules) c.discard.new.self c.discard.ensures.rest shrinks c.in-Some-above.parent c.in-Some-above.is
    c.in-Some-frame_mut.activation.now c.lose_child.new.self found c.in-Some-last.number last c.lose_child.result
    (record { only = c.lose_child.ensures.only; as_many = c.lose_child.ensures.as_many; counted = c.lose_child.ensures.counted; resumed = c.lose_child.ensures.resumed }) c.if-lose_child.false)

pub returns-in_default-above-clause-stalls : goal.returns-in_default-above-clause-stalls
returns-in_default-above-clause-stalls c = λ m shown safe.
    let k = c.args.self.now in
    let node = c.in-Some.node.now in
    let stands : node_at k.cactus c.args.slot ≡ Some node = sym c.node.ensures ∙ ap option_copied c.in-Some.is in
    subst (λ (x : Run). NotesStalls (Step c.args.worker) m k.cactus x.cactus true) (sym c.set_hand.ensures)
    (last_notes c.args.program.now c.args.places.now k c.args.slot node stands m shown c.args.worker c.requires.hand c.discard.new.self c.args.slot c.discard.ensures.rest)

pub returns-then-lose_child-clause-stalls : goal.returns-then-lose_child-clause-stalls
returns-then-lose_child-clause-stalls c = λ m shown safe.
    let k = c.args.self.now in
    let node = c.in-Some.node.now in
    let stands : node_at k.cactus c.args.slot ≡ Some node = sym c.node.ensures ∙ ap option_copied c.in-Some.is in
    let goes = c.run_by.new.self in
    subst (λ (x : Run). NotesStalls (Step c.args.worker) m k.cactus x.cactus true) (sym c.set_hand-then-lose_child.ensures)
    (end_notes c.args.program.now c.args.places.now k c.args.slot node stands m shown c.args.worker c.requires.hand c.discard.new.self c.args.slot c.discard.ensures.rest c.in-Some-above.parent goes
    (λ n here last h. run_free goes c.args.worker (ap (λ (x : Activation). x.runner) c.run_by.ensures) last))

pub returns-else-lose_child-clause-stalls : goal.returns-else-lose_child-clause-stalls
returns-else-lose_child-clause-stalls c = λ m shown safe.
    let k = c.args.self.now in
    let node = c.in-Some.node.now in
    let stands : node_at k.cactus c.args.slot ≡ Some node = sym c.node.ensures ∙ ap option_copied c.in-Some.is in
    let lost = c.lose_child.new.self in
    let found : frame_at c.discard.new.self c.in-Some-above.parent ≡ Some c.in-Some-frame_mut.activation.now = sym c.frame_mut.ensures.value ∙ ap option_copied_mut c.in-Some-frame_mut.is in
    subst (λ (x : Run). NotesStalls (Step c.args.worker) m k.cactus x.cactus true) (sym c.set_hand-else-lose_child.ensures)
    (end_notes c.args.program.now c.args.places.now k c.args.slot node stands m shown c.args.worker c.requires.hand c.discard.new.self c.args.slot c.discard.ensures.rest c.in-Some-above.parent lost
    (λ n here. let was = frame_found c.discard.new.self c.in-Some-above.parent n here c.in-Some-frame_mut.activation.now found in
    let like = c.lose_child.ensures.only in
    stalled_alike n.frame lost (record {
      runner = ap (λ (x : Activation). x.runner) like ∙ ap (λ (x : Activation). x.runner) (sym was);
      waits = ap (λ (x : Activation). x.frame.waits) like ∙ ap (λ (x : Activation). x.frame.waits) (sym was);
      block = ap (λ (x : Activation). x.stalled_in) like ∙ ap (λ (x : Activation). x.stalled_in) (sym was);
    })))

pub returns-in_default-above-clause-follows : goal.returns-in_default-above-clause-follows
returns-in_default-above-clause-follows c =
    subst (λ (x : Run). Follows c.args.self.now.cactus x.cactus) (sym c.set_hand.ensures) (removed_follows c.args.self.now.cactus c.discard.new.self c.args.slot c.discard.ensures.rest)

pub returns-then-lose_child-clause-follows : goal.returns-then-lose_child-clause-follows
returns-then-lose_child-clause-follows c =
    subst (λ (x : Run). Follows c.args.self.now.cactus x.cactus) (sym c.set_hand-then-lose_child.ensures)
    (end_follows c.args.self.now.cactus c.discard.new.self c.args.slot c.discard.ensures.rest c.in-Some-above.parent c.run_by.new.self)

pub returns-else-lose_child-clause-follows : goal.returns-else-lose_child-clause-follows
returns-else-lose_child-clause-follows c =
    subst (λ (x : Run). Follows c.args.self.now.cactus x.cactus) (sym c.set_hand-else-lose_child.ensures)
    (end_follows c.args.self.now.cactus c.discard.new.self c.args.slot c.discard.ensures.rest c.in-Some-above.parent c.lose_child.new.self)
