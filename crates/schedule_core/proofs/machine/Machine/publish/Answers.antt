use Rattle.std.proofs.Common.{length, ap, subst, sym, Vec, Global, ℤ}
use Rattle.program.specs.declared.function.Program.{Program}
use Rattle.frame_engine.specs.declared.activation.Places.{Places}
use Rattle.schedule_workers.specs.Going.{TextFits}
use Rattle.schedule_commit.specs.strand.Along.{IsSettled}
use Rattle.schedule_commit.specs.strands.Absorbing.{StandsForStrands}
use Rattle.schedule_core.specs.Stages.{program_of}
use Rattle.schedule_core.proofs.Commits.{same_places}
use Rattle.schedule_core.proofs.StrandSteps.{machine_taking, same_taking, stands_for_strands, takes_strand_of}
use Rattle.schedule_core.proofs.Promised.{text_fits}
use Rattle.schedule_core.proofs.Replaying.{with_run}
use Rattle.schedule_core.proofs.Spots.{spots_kept}
use Rattle.schedule_core.proofs.machine.Machine.publish.Goals as goal

pub publish-requires-clause-text : goal.publish-requires-clause-text
publish-requires-clause-text c =
    let old = c.args.self.now.stage in
    subst (λ (p : Places). TextFits c.program-program.result.now p (length old.run.moves.items)) (sym c.get.ensures)
    (subst (λ (q : Program). TextFits q old.places (length old.run.moves.items)) (sym c.program-program.ensures.value) (text_fits old c.args.self.now.kept c.program-program.ensures.accepted))

pub publish-requires-clause-way : goal.publish-requires-clause-way
publish-requires-clause-way c =
    let old = c.args.self.now.stage in
    let made = c.requires.made in
    subst (λ (p : Places). ∥ IsSettled c.program-program.result.now p c.args.strand.now ∥₁) (sym c.get.ensures)
    (subst (λ (q : Program). ∥ IsSettled q old.places c.args.strand.now ∥₁) (sym c.program-program.ensures.value)
    (subst (λ (q : Places). ∥ IsSettled (program_of old) q c.args.strand.now ∥₁) (same_places old c.args.self.now.kept made.places made.places_are) made.way))

pub publish-requires-clause-safe : goal.publish-requires-clause-safe
publish-requires-clause-safe c =
    let old = c.args.self.now.stage in
    subst (λ (p : Places). ∥ StandsForStrands c.program-program.result.now p old.run ∥₁) (sym c.get.ensures)
    (subst (λ (q : Program). ∥ StandsForStrands q old.places old.run ∥₁) (sym c.program-program.ensures.value) (stands_for_strands old c.args.self.now.kept))

pub returns-clause-does : goal.returns-clause-does
returns-clause-does c = λ is.
    let old = c.args.self.now.stage in
    let k = c.publish.new.run in
    takes_strand_of old k c.publish.ensures.workers c.args.worker c.args.strand.now _ _ c.program-program.ensures.value c.get.ensures (c.publish.ensures.does is) (c.publish.ensures.stalls is)

pub returns-clause-refused : goal.returns-clause-refused
returns-clause-refused c =
    let old = c.args.self.now.stage in
    same_taking old c.publish.new.run c.publish.ensures.workers (ap (λ (v : Vec ℤ Global). length v.items) c.publish.ensures.moves) c.publish.ensures.follows c.args.worker c.args.strand.now.done
    c.publish.result c.publish.ensures.refused

pub invariant_of-self : goal.invariant_of-self
invariant_of-self c =
    let old = c.args.self.now.stage in
    let k = c.publish.new.run in
    record {
      kept = machine_taking old k c.publish.ensures.workers (ap (λ (v : Vec ℤ Global). length v.items) c.publish.ensures.moves) c.publish.ensures.follows c.args.worker c.args.strand.now.done
          c.publish.result c.publish.ensures.refused
          (λ is. takes_strand_of old k c.publish.ensures.workers c.args.worker c.args.strand.now _ _ c.program-program.ensures.value c.get.ensures (c.publish.ensures.does is) (c.publish.ensures.stalls is))
          c.publish.ensures.left c.args.self.now.kept;
    }

pub returns-clause-spots : goal.returns-clause-spots
returns-clause-spots c =
    let old = c.args.self.now.stage in
    let k = c.publish.new.run in
    spots_kept old (with_run old k) c.args.self.now.kept
    (machine_taking old k c.publish.ensures.workers (ap (λ (v : Vec ℤ Global). length v.items) c.publish.ensures.moves) c.publish.ensures.follows c.args.worker c.args.strand.now.done
    c.publish.result c.publish.ensures.refused
    (λ is. takes_strand_of old k c.publish.ensures.workers c.args.worker c.args.strand.now _ _ c.program-program.ensures.value c.get.ensures (c.publish.ensures.does is) (c.publish.ensures.stalls is))
    c.publish.ensures.left c.args.self.now.kept) c.publish.ensures.follows
