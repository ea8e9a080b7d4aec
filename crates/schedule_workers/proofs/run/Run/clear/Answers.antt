use Rattle.std.proofs.Common.{◌+◌, ◌<◌, [], Some, refl, sym, ap, ◌∙◌, arith}
use Rattle.std.proofs.Math.Logic.{∥∥₁_elim, ∥∥₁_map}
use Rattle.std.proofs.Props.{props}
use Rattle.std.specs.Option.{option_copied_mut}
use Rattle.frame.specs.declared.frame.Wait.TheVariants as wait
use Rattle.frame_engine.specs.Activation.{FrameFits}
use Rattle.frame_engine.proofs.Texts.{clear_names}
use Rattle.schedule_workers.proofs.Onward.{fits_prop, node_of, not_there, seen, standing}
use Rattle.schedule_workers.proofs.Standing.{can_step}
use Rattle.schedule_workers.proofs.Zeroing.{clear_safe, cleared}
use Rattle.schedule_workers.specs.declared.activation.Activation.{Activation}
use Rattle.schedule_workers.proofs.Noted.{own_notes, ready_free}
use Rattle.schedule_workers.proofs.Uses.{written_uses}
use Rattle.schedule_workers.proofs.run.Run.clear.Goals as goal

pub unreachable-requires : goal.unreachable-requires
unreachable-requires c = ∥∥₁_elim c.requires.safe (hlevel props) (λ s.
    not_there c.args.self.now.cactus c.args.slot (s.shown.agrees.held c.requires.held.worker c.args.slot c.requires.held.hand)
    (sym c.frame_mut.ensures.value ∙ ap option_copied_mut c.in_default.is))

pub clear-requires-clause-names : goal.clear-requires-clause-names
clear-requires-clause-names c =
    let a = c.in-Some.activation.now in
    let n = node_of c.args.self.now.cactus c.args.slot a (sym c.frame_mut.ensures.value ∙ ap option_copied_mut c.in-Some.is) in
    let fits : FrameFits c.args.program.now a.frame = ∥∥₁_elim c.requires.safe (fits_prop _ _) (λ s. (s.shown.agrees.nodes c.args.slot (record n.0 { frame = a }) n.1).fits) in
    clear_names c.args.program.now c.args.places.now _ a.frame c.args.count c.args.object c.requires.text fits (c.requires.item (record n.0 { frame = a }) n.1)

pub clear-requires-clause-there : goal.clear-requires-clause-there
clear-requires-clause-there c =
    let a = c.in-Some.activation.now in
    let n = node_of c.args.self.now.cactus c.args.slot a (sym c.frame_mut.ensures.value ∙ ap option_copied_mut c.in-Some.is) in
    let fits : FrameFits c.args.program.now a.frame = ∥∥₁_elim c.requires.safe (fits_prop _ _) (λ s. (s.shown.agrees.nodes c.args.slot (record n.0 { frame = a }) n.1).fits) in
    let x = c.requires.text.allocas in
    let y = fits.there in
    omega (arith, x, y)

pub clear-requires-clause-index : goal.clear-requires-clause-index
clear-requires-clause-index c =
    let k = c.args.self.now in
    let prog = c.args.program.now in
    let places = c.args.places.now in
    let a = c.in-Some.activation.now in
    let n = node_of k.cactus c.args.slot a (sym c.frame_mut.ensures.value ∙ ap option_copied_mut c.in-Some.is) in
    ∥∥₁_elim c.requires.safe (hlevel props) (λ s.
    let t = seen prog places k c.args.slot n.0 a n.1 s.machine s.shown in
    let can = can_step prog _ c.requires.held.worker _ s.machine t.frame _ (standing prog places k c.args.slot n.0 a n.1 s.machine s.shown c.requires.held.worker c.requires.held.hand s.safe) in
    let low = can.index in
    let at = t.shows.shown.index in
    omega (arith, low, at))

pub clear-requires-clause-safe : goal.clear-requires-clause-safe
clear-requires-clause-safe c =
    let a = c.in-Some.activation.now in
    let n = node_of c.args.self.now.cactus c.args.slot a (sym c.frame_mut.ensures.value ∙ ap option_copied_mut c.in-Some.is) in
    ∥∥₁_map c.requires.safe (λ s.
    clear_safe c.args.program.now c.args.places.now c.args.self.now c.args.slot n.0 a n.1 s.machine s.shown c.args.count c.args.object (c.requires.item (record n.0 { frame = a }) n.1) c.requires.held.worker c.requires.held.hand s.safe)

pub overflow_add-self : goal.overflow_add-self
overflow_add-self c =
    let low : c.args.self.now.instructions + 2 < 9223372036854775808 = ∥∥₁_elim c.requires.safe (hlevel props) (λ s. let a = (s.safe []).counted in let b = s.shown.shows.done in omega (arith, a, b)) in
    record { fits = omega (arith, low) }

pub returns-clause-steps : goal.returns-clause-steps
returns-clause-steps c = λ w hand m shown safe.
    let a = c.in-Some.activation.now in
    let n = node_of c.args.self.now.cactus c.args.slot a (sym c.frame_mut.ensures.value ∙ ap option_copied_mut c.in-Some.is) in
    cleared c.args.program.now c.args.places.now c.args.self.now c.args.slot n.0 a n.1 m shown c.args.count c.args.object (c.requires.item (record n.0 { frame = a }) n.1) w hand safe
    c.clear.new.self c.in-Ok.ensures.only c.clear.new.cells _ refl (c.in-Ok.ensures.led c.args.program.now)

pub returns-clause-stalls : goal.returns-clause-stalls
returns-clause-stalls c = λ w hand m shown safe.
    let k = c.args.self.now in
    let a = c.in-Some.activation.now in
    let n = node_of k.cactus c.args.slot a (sym c.frame_mut.ensures.value ∙ ap option_copied_mut c.in-Some.is) in
    let after : Activation = record a { frame = record c.clear.new.self { waits = wait.Nothing } } in
    own_notes c.args.program.now c.args.places.now k c.args.slot (record n.0 { frame = a }) n.1 m shown w hand after (ready_free after refl (Some a.frame.place.block.0))

pub returns-clause-uses : goal.returns-clause-uses
returns-clause-uses c = written_uses c.args.self.now.cactus c.args.slot _
