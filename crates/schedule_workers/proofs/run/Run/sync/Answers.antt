use Rattle.std.proofs.Common.{rules, ◌+◌, ◌<◌, [], true, None, Some, ℤ, List, length, refl, sym, ap, ◌∙◌, subst, arith}
use Rattle.std.specs.Vec.{with_items}
use Rattle.std.proofs.Math.Logic.{∥∥₁_elim}
use Rattle.std.proofs.Props.{props}
use Rattle.std.specs.Option.{option_copied_mut}
use Rattle.semantics.specs.Events.{Step}
use Rattle.frame_engine.specs.Activation.{FrameFits}
use Rattle.schedule_workers.specs.declared.run.Run.{Run}
use Rattle.frame_engine.proofs.Texts.{sync_edge}
use Rattle.schedule_workers.proofs.Onward.{fits_prop, node_of, not_there}
use Rattle.schedule_workers.proofs.Syncing.{LeadsTo, counts_region, passes, stalls}
use Rattle.schedule_workers.specs.declared.activation.Activation.{Activation}
use Rattle.schedule_workers.specs.Follows.{KeepsUses}
use Rattle.schedule_workers.specs.Stalls.{NotesStalls}
use Rattle.schedule_workers.proofs.Noted.{own_notes, run_free}
use Rattle.schedule_workers.proofs.Uses.{written_uses}
use Rattle.schedule_workers.proofs.run.Run.sync.Goals as goal

pub unreachable-requires : goal.unreachable-requires
unreachable-requires c = ∥∥₁_elim c.requires.safe (hlevel props) (λ s.
    not_there c.args.self.now.cactus c.args.slot (s.shown.agrees.held c.args.worker c.args.slot c.requires.hand)
    (sym c.frame_mut.ensures.value ∙ ap option_copied_mut c.in_default.is))

pub at_sync-passage-requires : goal.at_sync-passage-requires
at_sync-passage-requires c =
    let a = c.in-Some.top.now in
    let n = node_of c.args.self.now.cactus c.args.slot a (sym c.frame_mut.ensures.value ∙ ap option_copied_mut c.in-Some.is) in
    ∥∥₁_elim c.requires.safe (hlevel props) (λ s.
    counts_region c.args.program.now c.args.places.now _ c.requires.text c.args.self.now c.args.slot n.0 a n.1 s.machine s.shown c.args.region c.args.target (c.requires.item (record n.0 { frame = a }) n.1))

pub sync-requires-clause-there : goal.sync-requires-clause-there
sync-requires-clause-there c =
    let a = c.in-Some.top.now in
    let n = node_of c.args.self.now.cactus c.args.slot a (sym c.frame_mut.ensures.value ∙ ap option_copied_mut c.in-Some.is) in
    let fits : FrameFits c.args.program.now a.frame = ∥∥₁_elim c.requires.safe (fits_prop _ _) (λ s. (s.shown.agrees.nodes c.args.slot (record n.0 { frame = a }) n.1).fits) in
    fits.there

pub sync-requires-clause-edge : goal.sync-requires-clause-edge
sync-requires-clause-edge c = λ f is.
    let a = c.in-Some.top.now in
    let n = node_of c.args.self.now.cactus c.args.slot a (sym c.frame_mut.ensures.value ∙ ap option_copied_mut c.in-Some.is) in
    let fits : FrameFits c.args.program.now a.frame = ∥∥₁_elim c.requires.safe (fits_prop _ _) (λ s. (s.shown.agrees.nodes c.args.slot (record n.0 { frame = a }) n.1).fits) in
    sync_edge c.args.program.now c.args.places.now _ _ a.frame f c.args.region c.args.target c.requires.text.fits fits (ap (λ (xs : List ℤ). length xs) c.as_mut_slice.ensures.value) (c.requires.item (record n.0 { frame = a }) n.1) is

pub overflow_add-self : goal.overflow_add-self
overflow_add-self c =
    let low : c.args.self.now.instructions + 2 < 9223372036854775808 = ∥∥₁_elim c.requires.safe (hlevel props) (λ s. let a = (s.safe []).counted in let b = s.shown.shows.done in omega (arith, a, b)) in
    record { fits = omega (arith, low) }

pub returns-in-Pass-clause-steps : goal.returns-in-Pass-clause-steps
returns-in-Pass-clause-steps c = λ m shown safe.
    let k = c.args.self.now in
    let a = c.in-Some.top.now in
    let n = node_of k.cactus c.args.slot a (sym c.frame_mut.ensures.value ∙ ap option_copied_mut c.in-Some.is) in
    let item = c.requires.item (record n.0 { frame = a }) n.1 in
    passes c.args.program.now c.args.places.now k c.args.slot n.0 a n.1 m shown c.args.region c.args.target item c.args.worker c.requires.hand safe _ c.requires.text
    (record a { frame = c.sync.new.self }) c.sync.ensures.only c.sync.ensures.registers refl refl c.sync.ensures.shown (with_items k.moves c.sync.new.moves)
    refl (c.at_sync-passage.ensures.0 c.in-Pass.is)

pub returns-in-Stall-clause-steps : goal.returns-in-Stall-clause-steps
returns-in-Stall-clause-steps c = λ m shown safe.
    let k = c.args.self.now in
    let a = c.in-Some.top.now in
    let n = node_of k.cactus c.args.slot a (sym c.frame_mut.ensures.value ∙ ap option_copied_mut c.in-Some.is) in
    let item = c.requires.item (record n.0 { frame = a }) n.1 in
    subst (λ (x : Run). LeadsTo c.args.program.now c.args.places.now k x c.args.worker m) (sym c.set_hand.ensures)
    (stalls c.args.program.now c.args.places.now k c.args.slot n.0 a n.1 m shown c.args.region c.args.target item c.args.worker c.requires.hand safe _ c.requires.text
    (record a { frame = c.sync.new.self; runner = None; stalled_in = Some a.frame.place.block }) c.sync.ensures.only c.sync.ensures.registers refl refl c.sync.ensures.shown (with_items k.moves c.sync.new.moves)
    refl (λ none. let pass = c.at_sync-passage.ensures.1 none in let stall = c.in-Stall.is in cc) (search rules))

pub returns-in-Pass-clause-stalls : goal.returns-in-Pass-clause-stalls
returns-in-Pass-clause-stalls c = λ m shown safe.
    let k = c.args.self.now in
    let a = c.in-Some.top.now in
    let n = node_of k.cactus c.args.slot a (sym c.frame_mut.ensures.value ∙ ap option_copied_mut c.in-Some.is) in
    let after : Activation = record a { frame = c.sync.new.self } in
    let runs = (shown.agrees.runners c.args.slot c.args.worker (record n.0 { frame = a }) n.1).1 c.requires.hand in
    own_notes c.args.program.now c.args.places.now k c.args.slot (record n.0 { frame = a }) n.1 m shown c.args.worker c.requires.hand after (run_free after c.args.worker runs (Some a.frame.place.block.0))

-- it is stalled in the block of its sync
pub returns-in-Stall-clause-stalls : goal.returns-in-Stall-clause-stalls
returns-in-Stall-clause-stalls c = λ m shown safe.
    let k = c.args.self.now in
    let a = c.in-Some.top.now in
    let n = node_of k.cactus c.args.slot a (sym c.frame_mut.ensures.value ∙ ap option_copied_mut c.in-Some.is) in
    let after : Activation = record a { frame = c.sync.new.self; runner = None; stalled_in = Some a.frame.place.block } in
    subst (λ (x : Run). NotesStalls (Step c.args.worker) m k.cactus x.cactus true) (sym c.set_hand.ensures)
    (own_notes c.args.program.now c.args.places.now k c.args.slot (record n.0 { frame = a }) n.1 m shown c.args.worker c.requires.hand after (λ region unheld waits. refl))

pub returns-in-Pass-clause-uses : goal.returns-in-Pass-clause-uses
returns-in-Pass-clause-uses c = written_uses c.args.self.now.cactus c.args.slot _

pub returns-in-Stall-clause-uses : goal.returns-in-Stall-clause-uses
returns-in-Stall-clause-uses c = subst (λ (x : Run). KeepsUses c.args.self.now.cactus x.cactus) (sym c.set_hand.ensures) (written_uses c.args.self.now.cactus c.args.slot _)
