use Rattle.std.proofs.Common.{◌≡◌, ◌∙◌, List, ℤ, Some, length, refl, sym, ap, subst}
use Rattle.program.specs.declared.function.Program.{Program}
use Rattle.frame_engine.specs.declared.activation.Places.{Places}
use Rattle.frame_strand.specs.declared.standing.FrameStrandPause.TheVariants.{Blank, Border}
use Rattle.schedule_workers.specs.declared.run.Run.{Run}
use Rattle.schedule_workers.specs.Follows.{Follows}
use Rattle.schedule_workers.specs.Rooms.{IsRoomier}
use Rattle.schedule_workers.proofs.Growing.{on_err}
use Rattle.schedule_workers.proofs.Stepping.{roomier_leaves, same_room}
use Rattle.schedule_workers.proofs.Uses.{follows_same, kept_follows}
use Rattle.schedule_commit.specs.Absorbing.{StandsAlone}
use Rattle.schedule_commit.specs.TakingBack.{AreNumbersOf}
use Rattle.schedule_commit.proofs.Goes.{hands_stay, moves_stay, uses_stay}
use Rattle.schedule_commit.proofs.Taken.{going_at, over_does, over_stalls, put_within, went_border, went_stands}
use Rattle.schedule_commit.proofs.TakenBack.{was_put}
use Rattle.schedule_commit.proofs.Undone.{roomier_after}
use Rattle.schedule_commit.proofs.taking.go_over.Goals as goal

pub numbers_before-requires : goal.numbers_before-requires
numbers_before-requires c =
    let x = c.args.strand.now in
    put_within c.args.program.now c.args.places.now c.args.run.now c.args.worker c.args.slot x c.requires.fits
    (going_at x c.args.program.now c.args.places.now c.requires.program c.requires.places c.requires.border) c.requires.safe

pub returns-in_err-before-clause-refused : goal.returns-in_err-before-clause-refused
returns-in_err-before-clause-refused c =
    on_err c.from_residual.result (roomier_leaves c.args.program.now c.args.places.now c.args.run.now c.args.run.now (same_room c.args.run.now))

pub returns-in_err-before-clause-follows : goal.returns-in_err-before-clause-follows
returns-in_err-before-clause-follows c = follows_same c.args.run.now.cactus

pub border-requires-clause-border : goal.border-requires-clause-border
border-requires-clause-border c =
    let x = c.args.strand.now in
    went_border c.args.program.now c.args.places.now c.args.run.now c.args.worker c.args.slot x c.requires.fits
    (going_at x c.args.program.now c.args.places.now c.requires.program c.requires.places c.requires.border)
    c.go_on.new.run c.go_on.ensures.left c.go_on.ensures.put c.requires.safe c.requires.border

pub border-requires-clause-safe : goal.border-requires-clause-safe
border-requires-clause-safe c =
    let x = c.args.strand.now in
    went_stands c.args.program.now c.args.places.now c.args.run.now c.args.worker c.args.slot x c.requires.fits
    (going_at x c.args.program.now c.args.places.now c.requires.program c.requires.places c.requires.border)
    c.go_on.new.run c.go_on.ensures.left c.go_on.ensures.put c.requires.safe

pub returns-in-Ok-clause-does : goal.returns-in-Ok-clause-does
returns-in-Ok-clause-does c =
    let x = c.args.strand.now in
    over_does c.args.program.now c.args.places.now c.args.run.now c.args.worker c.args.slot x c.requires.fits
    (going_at x c.args.program.now c.args.places.now c.requires.program c.requires.places c.requires.border)
    c.go_on.new.run c.go_on.ensures.left c.go_on.ensures.put c.border.new.self c.in-Ok.ensures.steps

pub returns-in-Ok-clause-stalls : goal.returns-in-Ok-clause-stalls
returns-in-Ok-clause-stalls c =
    let x = c.args.strand.now in
    over_stalls c.args.program.now c.args.places.now c.args.run.now c.args.worker c.args.slot x c.requires.fits
    (going_at x c.args.program.now c.args.places.now c.requires.program c.requires.places c.requires.border)
    c.go_on.new.run c.go_on.ensures.left c.go_on.ensures.put c.border.new.self c.in-Ok.ensures.steps c.in-Ok.ensures.stalls

pub returns-in-Ok-clause-follows : goal.returns-in-Ok-clause-follows
returns-in-Ok-clause-follows c =
    kept_follows c.args.run.now.cactus c.go_on.new.run.cactus c.border.new.self.cactus
    (uses_stay c.args.program.now c.args.places.now c.args.run.now c.go_on.new.run c.args.worker c.args.slot c.args.strand.now c.go_on.ensures.left c.go_on.ensures.put)
    c.border.ensures.follows

pub undo-requires : goal.undo-requires
undo-requires c =
    let k = c.args.run.now in
    let x = c.args.strand.now in
    let are = subst (λ (ns : List ℤ). AreNumbersOf k.cells.cells.items x.course.cells.writes ns) (sym c.as_slice.ensures.value) c.in_ok-before.ensures in
    record { put = λ more. (k, was_put k c.go_on.new.run c.border.new.self c.args.worker c.args.slot x c.as_slice.result.now c.requires.fits (c.go_on.ensures.put more) c.in-Err.ensures.refused are) }

-- the run has more room at most
after : (c : goal.After-drop-before-2) → IsRoomier c.args.run.now c.undo.new.run
after c =
    let k = c.args.run.now in
    let x = c.args.strand.now in
    let are = subst (λ (ns : List ℤ). AreNumbersOf k.cells.cells.items x.course.cells.writes ns) (sym c.as_slice.ensures.value) c.in_ok-before.ensures in
    roomier_after k c.go_on.new.run c.border.new.self c.undo.new.run c.args.slot x c.as_slice.result.now c.go_on.ensures.left c.in-Err.ensures.refused
    (λ more. was_put k c.go_on.new.run c.border.new.self c.args.worker c.args.slot x c.as_slice.result.now c.requires.fits (c.go_on.ensures.put more) c.in-Err.ensures.refused are)
    c.undo.ensures.left c.undo.ensures.back

pub returns-clause-refused : goal.returns-clause-refused
returns-clause-refused c = roomier_leaves c.args.program.now c.args.places.now c.args.run.now c.undo.new.run (after c)

pub returns-clause-follows : goal.returns-clause-follows
returns-clause-follows c = subst (λ (k : Run). Follows c.args.run.now.cactus k.cactus) (sym (after c).only) (follows_same c.args.run.now.cactus)

pub returns-clause-workers : goal.returns-clause-workers
returns-clause-workers c = ap (λ (k : Run). length k.hands.items) (after c).only

pub returns-clause-moves : goal.returns-clause-moves
returns-clause-moves c = ap (λ (k : Run). length k.moves.items) (after c).only

pub go_on-requires-clause-fits : goal.go_on-requires-clause-fits
go_on-requires-clause-fits c = (c.args.worker, c.requires.fits)

pub go_on-requires-clause-going : goal.go_on-requires-clause-going
go_on-requires-clause-going c = λ blank. (let e : Some Border ≡ Some Blank = sym c.requires.border ∙ blank in cc)

pub go_on-requires-clause-safe : goal.go_on-requires-clause-safe
go_on-requires-clause-safe c =
    subst (λ (p : Places). ∥ StandsAlone c.args.strand.now.program.now p c.args.run.now ∥₁) (sym c.requires.places)
    (subst (λ (p : Program). ∥ StandsAlone p c.args.places.now c.args.run.now ∥₁) (sym c.requires.program) c.requires.safe)

pub border-requires-clause-text : goal.border-requires-clause-text
border-requires-clause-text c = rw (moves_stay c.args.program.now c.args.places.now c.args.run.now c.go_on.new.run c.args.worker c.args.slot c.args.strand.now c.go_on.ensures.left c.go_on.ensures.put) c.requires.text

pub border-requires-clause-hand : goal.border-requires-clause-hand
border-requires-clause-hand c = rw (hands_stay c.args.program.now c.args.places.now c.args.run.now c.go_on.new.run c.args.worker c.args.slot c.args.strand.now c.go_on.ensures.left c.go_on.ensures.put) c.requires.fits.hand

pub returns-in-Ok-clause-workers : goal.returns-in-Ok-clause-workers
returns-in-Ok-clause-workers c = c.border.ensures.workers ∙ rw (hands_stay c.args.program.now c.args.places.now c.args.run.now c.go_on.new.run c.args.worker c.args.slot c.args.strand.now c.go_on.ensures.left c.go_on.ensures.put)

pub returns-in-Ok-clause-moves : goal.returns-in-Ok-clause-moves
returns-in-Ok-clause-moves c = c.border.ensures.moves ∙ rw (moves_stay c.args.program.now c.args.places.now c.args.run.now c.go_on.new.run c.args.worker c.args.slot c.args.strand.now c.go_on.ensures.left c.go_on.ensures.put)
