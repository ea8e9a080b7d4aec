use Rattle.std.proofs.Common.{rules, ℤ, ◌+◌, ◌<◌, List, [], length, Some, refl, sym, ap, ◌∙◌, subst, arith}
use Rattle.std.proofs.Math.Logic.{∥∥₁_elim, ∥∥₁_map}
use Rattle.std.proofs.Props.{props}
use Rattle.std.specs.Option.{option_copied_mut}
use Rattle.std.specs.Vec.{with_items}
use Rattle.frame.specs.declared.frame.Wait.TheVariants as wait
use Rattle.frame_engine.specs.declared.activation.Frame.{Frame}
use Rattle.schedule_workers.specs.declared.activation.Activation.{Activation}
use Rattle.schedule_workers.specs.Layouts.{layout_of}
use Rattle.schedule_workers.specs.RunShown.{place_of}
use Rattle.frame_engine.specs.Activation.{ProgramFits}
use Rattle.schedule_workers.proofs.Living.{written_long}
use Rattle.schedule_workers.proofs.Onward.{fits_prop, left_shown, node_of, not_there, safe_standing, seen, stays, step_shown}
use Rattle.schedule_workers.proofs.Noted.{own_notes, ready_free, written_keeps_one}
use Rattle.schedule_workers.proofs.Uses.{written_uses}
use Rattle.schedule_workers.proofs.run.Run.plain.Goals as goal

pub unreachable-requires : goal.unreachable-requires
unreachable-requires c = ∥∥₁_elim c.requires.safe (hlevel props) (λ s.
    not_there c.args.self.now.cactus c.args.slot (s.shown.agrees.held c.requires.held.worker c.args.slot c.requires.held.hand)
    (sym c.frame_mut.ensures.value ∙ ap option_copied_mut c.in_default.is))

pub overflow_add-before : goal.overflow_add-before
overflow_add-before c =
    let low : c.args.self.now.instructions + 2 < 9223372036854775808 = ∥∥₁_elim c.requires.safe (hlevel props) (λ s. let a = (s.safe []).counted in let b = s.shown.shows.done in omega (arith, a, b)) in
    record { fits = omega (arith, low) }

pub turn-pause-requires-clause-stands : goal.turn-pause-requires-clause-stands
turn-pause-requires-clause-stands c =
    let n = node_of c.args.self.now.cactus c.args.slot c.in-Some.activation.now (sym c.frame_mut.ensures.value ∙ ap option_copied_mut c.in-Some.is) in
    ∥∥₁_elim c.requires.safe (fits_prop _ _) (λ s. (s.shown.agrees.nodes c.args.slot (record n.0 { frame = c.in-Some.activation.now }) n.1).fits)

pub turn-pause-requires-clause-safe : goal.turn-pause-requires-clause-safe
turn-pause-requires-clause-safe c =
    let n = node_of c.args.self.now.cactus c.args.slot c.in-Some.activation.now (sym c.frame_mut.ensures.value ∙ ap option_copied_mut c.in-Some.is) in
    ∥∥₁_map c.requires.safe (λ s.
    safe_standing c.args.program.now c.args.places.now c.args.self.now c.args.slot n.0 c.in-Some.activation.now n.1 s.machine s.shown c.requires.held.worker c.requires.held.hand s.safe)

pub returns-then-self-before-clause-left : goal.returns-then-self-before-clause-left
returns-then-self-before-clause-left c = λ m shown safe.
    let k = c.args.self.now in
    let prog = c.args.program.now in
    let places = c.args.places.now in
    let a = c.in-Some.activation.now in
    let n = node_of k.cactus c.args.slot a (sym c.frame_mut.ensures.value ∙ ap option_copied_mut c.in-Some.is) in
    let w = c.requires.held.worker in
    let hand = c.requires.held.hand in
    let g = seen prog places k c.args.slot n.0 a n.1 m shown in
    left_shown prog places k c.args.slot n.0 a n.1 m shown w hand safe c.turn-pause.new.self c.turn-pause.ensures.only c.turn-pause.ensures.stands
    c.turn-pause.new.cells c.turn-pause.new.done (with_items k.moves c.turn-pause.new.moves)
    (c.turn-pause.ensures.led (layout_of prog places k.cactus m.core) (place_of (record n.0 { frame = a })) g.frame m.core.memory g.shows.shown shown.shows.cells (stays prog places k c.args.slot n.0 a n.1 m shown w hand safe))
    (search rules)

pub returns-clause-stepped : goal.returns-clause-stepped
returns-clause-stepped c = λ w hand m shown safe.
    let k = c.args.self.now in
    let prog = c.args.program.now in
    let places = c.args.places.now in
    let a = c.in-Some.activation.now in
    let n = node_of k.cactus c.args.slot a (sym c.frame_mut.ensures.value ∙ ap option_copied_mut c.in-Some.is) in
    let g = seen prog places k c.args.slot n.0 a n.1 m shown in
    step_shown prog places k c.args.slot n.0 a n.1 m shown w hand safe c.turn-pause.new.self c.turn-pause.ensures.only c.turn-pause.ensures.stands
    c.turn-pause.new.cells c.turn-pause.new.done (with_items k.moves c.turn-pause.new.moves)
    (c.turn-pause.ensures.led (layout_of prog places k.cactus m.core) (place_of (record n.0 { frame = a })) g.frame m.core.memory g.shows.shown shown.shows.cells (stays prog places k c.args.slot n.0 a n.1 m shown w hand safe))
    (search rules)
    c.turn-pause.ensures.room

pub returns-clause-stalls : goal.returns-clause-stalls
returns-clause-stalls c = λ w hand m shown safe.
    let k = c.args.self.now in
    let a = c.in-Some.activation.now in
    let n = node_of k.cactus c.args.slot a (sym c.frame_mut.ensures.value ∙ ap option_copied_mut c.in-Some.is) in
    let after : Activation = record a { frame = record c.turn-pause.new.self { waits = wait.Nothing } } in
    own_notes c.args.program.now c.args.places.now k c.args.slot (record n.0 { frame = a }) n.1 m shown w hand after (ready_free after refl (Some a.frame.place.block.0))

pub returns-then-self-before-clause-stalled : goal.returns-then-self-before-clause-stalled
returns-then-self-before-clause-stalled c =
    let k = c.args.self.now in
    let a = c.in-Some.activation.now in
    let n = node_of k.cactus c.args.slot a (sym c.frame_mut.ensures.value ∙ ap option_copied_mut c.in-Some.is) in
    let waits = ap (λ (x : Frame). x.waits) c.turn-pause.ensures.only in
    written_keeps_one k.cactus c.args.slot (record n.0 { frame = a }) n.1 (record a { frame = c.turn-pause.new.self })
    (record { runner = refl; waits = waits; block = refl })

pub returns-clause-uses : goal.returns-clause-uses
returns-clause-uses c = written_uses c.args.self.now.cactus c.args.slot _

pub returns-then-self-before-clause-uses : goal.returns-then-self-before-clause-uses
returns-then-self-before-clause-uses c = written_uses c.args.self.now.cactus c.args.slot _

pub turn-pause-requires-clause-fits : goal.turn-pause-requires-clause-fits
turn-pause-requires-clause-fits c = subst (λ (xs : List ℤ). ProgramFits c.args.program.now c.args.places.now (length xs)) (sym c.as_mut_slice.ensures.value) c.requires.text

pub returns-clause-hands : goal.returns-clause-hands
returns-clause-hands c = refl

pub returns-then-self-before-clause-hands : goal.returns-then-self-before-clause-hands
returns-then-self-before-clause-hands c = refl

pub returns-clause-moves : goal.returns-clause-moves
returns-clause-moves c =
    written_long c.args.self.now.moves c.turn-pause.new.moves (c.turn-pause.ensures.moves ∙ ap (λ (xs : List ℤ). length xs) c.as_mut_slice.ensures.value)

pub returns-then-self-before-clause-moves : goal.returns-then-self-before-clause-moves
returns-then-self-before-clause-moves c =
    written_long c.args.self.now.moves c.turn-pause.new.moves (c.turn-pause.ensures.moves ∙ ap (λ (xs : List ℤ). length xs) c.as_mut_slice.ensures.value)
