use Rattle.std.proofs.Common.{◌≡◌, length, subst, sym, ◌∙◌}
use Rattle.std.specs.Prelude.{OnErr, Ok, true}
use Rattle.program.specs.declared.function.Program.{Program}
use Rattle.schedule_commit.specs.Absorbing.{DoesFrameStrand, KeepsHand, LeavesStallsBy, StandsAlone, steps_in}
use Rattle.frame_engine.specs.declared.activation.Places.{Places}
use Rattle.schedule_workers.specs.Going.{TextFits}
use Rattle.schedule_workers.specs.Left.{LeavesAsShown}
use Rattle.schedule_core.specs.Replaying.{LeavesAsBefore}
use Rattle.schedule_core.specs.FrameStrands.{Absorbs}
use Rattle.schedule_core.proofs.Commits.{absorbs, left_absorbing, machine_absorbing, same_places, stands_alone}
use Rattle.schedule_core.proofs.Promised.{text_fits}
use Rattle.schedule_core.proofs.Replaying.{with_run}
use Rattle.schedule_core.proofs.absorb.absorb_into.Goals as goal

pub absorb-requires-clause-text : goal.absorb-requires-clause-text
absorb-requires-clause-text c =
    let old = c.args.stage.now in
    subst (λ (p : Places). TextFits c.program-program.result.now p (length old.run.moves.items)) (sym c.get.ensures)
    (subst (λ (q : Program). TextFits q old.places (length old.run.moves.items)) (sym c.program-program.ensures.value) (text_fits old c.requires.machine c.program-program.ensures.accepted))

pub absorb-requires-clause-program : goal.absorb-requires-clause-program
absorb-requires-clause-program c = c.requires.made.module_is ∙ sym c.program-program.ensures.value

pub absorb-requires-clause-places : goal.absorb-requires-clause-places
absorb-requires-clause-places c = same_places c.args.stage.now c.requires.machine c.args.strand.now.places.now c.requires.made.places_are ∙ sym c.get.ensures

pub absorb-requires-clause-safe : goal.absorb-requires-clause-safe
absorb-requires-clause-safe c =
    let old = c.args.stage.now in
    subst (λ (p : Places). ∥ StandsAlone c.program-program.result.now p old.run ∥₁) (sym c.get.ensures)
    (subst (λ (q : Program). ∥ StandsAlone q old.places old.run ∥₁) (sym c.program-program.ensures.value) (stands_alone old c.requires.machine))

does : (c : goal.After-absorb) → c.absorb.result ≡ Ok true → Absorbs c.args.stage.now (with_run c.args.stage.now c.absorb.new.run) c.args.worker c.args.strand.now
does c is =
    let old = c.args.stage.now in
    let k = c.absorb.new.run in
    let x = c.args.strand.now in
    absorbs old k c.absorb.ensures.workers c.args.worker x (subst (λ (q : Program). ∥ DoesFrameStrand q old.places old.run k c.args.worker x ∥₁) c.program-program.ensures.value (subst (λ (p : Places). ∥ DoesFrameStrand c.program-program.result.now p old.run k c.args.worker x ∥₁) c.get.ensures (c.absorb.ensures.does is)))
    (subst (λ (q : Program). LeavesStallsBy q old.places old.run k c.args.worker (steps_in x.pause x.course.done)) c.program-program.ensures.value (subst (λ (p : Places). LeavesStallsBy c.program-program.result.now p old.run k c.args.worker (steps_in x.pause x.course.done)) c.get.ensures (c.absorb.ensures.stalls is)))
    (subst (λ (q : Program). KeepsHand q old.places old.run c.args.worker x) c.program-program.ensures.value (subst (λ (p : Places). KeepsHand c.program-program.result.now p old.run c.args.worker x) c.get.ensures (c.absorb.ensures.hand is)))

left : (c : goal.After-absorb) → OnErr c.absorb.result (LeavesAsBefore c.args.stage.now (with_run c.args.stage.now c.absorb.new.run))
left c =
    let old = c.args.stage.now in
    let k = c.absorb.new.run in
    left_absorbing old k c.absorb.ensures.workers c.absorb.ensures.moves c.absorb.ensures.follows c.args.worker (steps_in c.args.strand.now.pause c.args.strand.now.course.done) c.absorb.result
    (subst (λ (q : Program). OnErr c.absorb.result (LeavesAsShown q old.places old.run k)) c.program-program.ensures.value (subst (λ (p : Places). OnErr c.absorb.result (LeavesAsShown c.program-program.result.now p old.run k)) c.get.ensures c.absorb.ensures.refused))

pub returns-clause-does : goal.returns-clause-does
returns-clause-does c = does c

pub returns-clause-refused : goal.returns-clause-refused
returns-clause-refused c = left c

pub returns-clause-machine : goal.returns-clause-machine
returns-clause-machine c =
    let old = c.args.stage.now in
    let k = c.absorb.new.run in
    machine_absorbing old k c.absorb.ensures.workers c.absorb.ensures.moves c.absorb.ensures.follows c.args.worker (steps_in c.args.strand.now.pause c.args.strand.now.course.done) c.absorb.result (left c)
    (λ is. (does c is).steps) c.absorb.ensures.left c.requires.machine
