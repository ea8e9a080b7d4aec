use Rattle.std.proofs.Common.{◌≡◌, ◌≢◌, Option, Some, false, true, refl, sym, subst}
use Rattle.program.specs.declared.function.Program.{Program}
use Rattle.frame_engine.specs.declared.activation.Places.{Places}
use Rattle.frame_strand.specs.declared.standing.FrameStrandPause.{FrameStrandPause}
use Rattle.frame_strand.specs.declared.standing.FrameStrandPause.TheVariants.{Blank, Border}
use Rattle.schedule_workers.proofs.Uses.{follows_same, keeps_follows}
use Rattle.schedule_commit.specs.Absorbing.{DoesSteps, LeavesStallsBy, StandsAlone, steps_in}
use Rattle.schedule_commit.proofs.Goes.{hands_stay, moves_stay, uses_stay}
use Rattle.schedule_commit.proofs.Taken.{going_of, hand_stays, steps_before, went_does, went_stalls}
use Rattle.schedule_commit.proofs.taking.absorb.Goals as goal

pub returns-then-is_at-clause-follows : goal.returns-then-is_at-clause-follows
returns-then-is_at-clause-follows c = follows_same c.args.run.now.cactus

pub returns-in_default-clause-follows : goal.returns-in_default-clause-follows
returns-in_default-clause-follows c = follows_same c.args.run.now.cactus

pub returns-in_default-clause-exactly : goal.returns-in_default-clause-exactly
returns-in_default-clause-exactly c = (λ e. absurd cc, λ h. absurd (c.in_default.ensures.only h.1.0 h.1.1))

pub returns-in_ok-go_over-clause-does : goal.returns-in_ok-go_over-clause-does
returns-in_ok-go_over-clause-does c = λ e.
    let x = c.args.strand.now in
    subst (λ (p : Option FrameStrandPause). ∥ DoesSteps c.args.program.now c.args.places.now c.args.run.now c.go_over.new.run c.args.worker (steps_in p x.course.done) ∥₁)
    (sym ((c.is_at-2.ensures).0 c.if-is_at-2.true)) c.in_ok-go_over.ensures.does

pub returns-in_ok-go_over-clause-hand : goal.returns-in_ok-go_over-clause-hand
returns-in_ok-go_over-clause-hand c = λ e.
    let x = c.args.strand.now in
    let not_blank : x.pause ≢ Some Blank = λ b. (let f : false ≡ true = c.if-is_at.ensures.1 b in cc) in
    hand_stays c.args.program.now c.args.places.now c.args.run.now c.args.worker c.in-Some.slot x c.in-Some.ensures.fits
    (going_of x c.args.program.now c.args.places.now c.requires.program c.requires.places not_blank)

pub returns-else-is_at-2-clause-hand : goal.returns-else-is_at-2-clause-hand
returns-else-is_at-2-clause-hand c = λ e.
    let x = c.args.strand.now in
    let not_blank : x.pause ≢ Some Blank = λ b. (let f : false ≡ true = c.if-is_at.ensures.1 b in cc) in
    hand_stays c.args.program.now c.args.places.now c.args.run.now c.args.worker c.in-Some.slot x c.in-Some.ensures.fits
    (going_of x c.args.program.now c.args.places.now c.requires.program c.requires.places not_blank)

pub returns-else-is_at-2-clause-does : goal.returns-else-is_at-2-clause-does
returns-else-is_at-2-clause-does c = λ e.
    let x = c.args.strand.now in
    let not_blank : x.pause ≢ Some Blank = λ b. (let f : false ≡ true = c.if-is_at.ensures.1 b in cc) in
    let not_border : x.pause ≢ Some Border = λ b. (let f : false ≡ true = c.if-is_at-2.ensures.1 b in cc) in
    subst (λ n. ∥ DoesSteps c.args.program.now c.args.places.now c.args.run.now c.go_on.new.run c.args.worker n ∥₁)
    (sym (steps_before x.pause x.course.done not_border))
    (went_does c.args.program.now c.args.places.now c.args.run.now c.args.worker c.in-Some.slot x c.in-Some.ensures.fits
    (going_of x c.args.program.now c.args.places.now c.requires.program c.requires.places not_blank) c.go_on.new.run c.go_on.ensures.left c.go_on.ensures.put)

pub returns-else-is_at-2-clause-stalls : goal.returns-else-is_at-2-clause-stalls
returns-else-is_at-2-clause-stalls c = λ e.
    let x = c.args.strand.now in
    let not_blank : x.pause ≢ Some Blank = λ b. (let f : false ≡ true = c.if-is_at.ensures.1 b in cc) in
    let not_border : x.pause ≢ Some Border = λ b. (let f : false ≡ true = c.if-is_at-2.ensures.1 b in cc) in
    subst (λ n. LeavesStallsBy c.args.program.now c.args.places.now c.args.run.now c.go_on.new.run c.args.worker n)
    (sym (steps_before x.pause x.course.done not_border))
    (went_stalls c.args.program.now c.args.places.now c.args.run.now c.args.worker c.in-Some.slot x c.in-Some.ensures.fits
    (going_of x c.args.program.now c.args.places.now c.requires.program c.requires.places not_blank) c.go_on.new.run c.go_on.ensures.left c.go_on.ensures.put)

pub returns-else-is_at-2-clause-follows : goal.returns-else-is_at-2-clause-follows
returns-else-is_at-2-clause-follows c =
    keeps_follows c.args.run.now.cactus c.go_on.new.run.cactus
    (uses_stay c.args.program.now c.args.places.now c.args.run.now c.go_on.new.run c.args.worker c.in-Some.slot c.args.strand.now c.go_on.ensures.left c.go_on.ensures.put)

pub go_on-requires-clause-fits : goal.go_on-requires-clause-fits
go_on-requires-clause-fits c = (c.args.worker, c.in-Some.ensures.fits)

pub go_on-requires-clause-going : goal.go_on-requires-clause-going
go_on-requires-clause-going c = λ b. (let f : false ≡ true = c.if-is_at.ensures.1 b in cc)

pub go_on-requires-clause-safe : goal.go_on-requires-clause-safe
go_on-requires-clause-safe c =
    subst (λ (p : Places). ∥ StandsAlone c.args.strand.now.program.now p c.args.run.now ∥₁) (sym c.requires.places)
    (subst (λ (p : Program). ∥ StandsAlone p c.args.places.now c.args.run.now ∥₁) (sym c.requires.program) c.requires.safe)

pub returns-in_ok-go_over-clause-exactly : goal.returns-in_ok-go_over-clause-exactly
returns-in_ok-go_over-clause-exactly c =
    let not_blank : c.args.strand.now.pause ≢ Some Blank = λ b. (let f : false ≡ true = c.if-is_at.ensures.1 b in cc) in
    (λ e. (not_blank, (c.in-Some.slot, c.in-Some.ensures.fits)), λ h. refl)

pub returns-else-is_at-2-clause-exactly : goal.returns-else-is_at-2-clause-exactly
returns-else-is_at-2-clause-exactly c =
    let not_blank : c.args.strand.now.pause ≢ Some Blank = λ b. (let f : false ≡ true = c.if-is_at.ensures.1 b in cc) in
    (λ e. (not_blank, (c.in-Some.slot, c.in-Some.ensures.fits)), λ h. refl)

pub returns-else-is_at-2-clause-workers : goal.returns-else-is_at-2-clause-workers
returns-else-is_at-2-clause-workers c = rw (hands_stay c.args.program.now c.args.places.now c.args.run.now c.go_on.new.run c.args.worker c.in-Some.slot c.args.strand.now c.go_on.ensures.left c.go_on.ensures.put)

pub returns-else-is_at-2-clause-moves : goal.returns-else-is_at-2-clause-moves
returns-else-is_at-2-clause-moves c = rw (moves_stay c.args.program.now c.args.places.now c.args.run.now c.go_on.new.run c.args.worker c.in-Some.slot c.args.strand.now c.go_on.ensures.left c.go_on.ensures.put)
