use Rattle.std.proofs.Common.{refl}
use Rattle.schedule_commit.proofs.Taken.{going_of, put_lives, put_registers, put_room, put_within}
use Rattle.schedule_commit.proofs.taking.go_on.Goals as goal

pub put_frame_strand-requires-clause-lives : goal.put_frame_strand-requires-clause-lives
put_frame_strand-requires-clause-lives c =
    let x = c.args.strand.now in
    put_lives x.program.now x.places.now c.args.run.now c.requires.fits.0 c.args.slot x c.requires.fits.1 (going_of x x.program.now x.places.now refl refl c.requires.going) c.requires.safe

pub put_frame_strand-requires-clause-registers : goal.put_frame_strand-requires-clause-registers
put_frame_strand-requires-clause-registers c =
    let x = c.args.strand.now in
    put_registers x.program.now x.places.now c.args.run.now c.requires.fits.0 c.args.slot x c.requires.fits.1 (going_of x x.program.now x.places.now refl refl c.requires.going) c.requires.safe

pub put_frame_strand-requires-clause-within : goal.put_frame_strand-requires-clause-within
put_frame_strand-requires-clause-within c =
    let x = c.args.strand.now in
    put_within x.program.now x.places.now c.args.run.now c.requires.fits.0 c.args.slot x c.requires.fits.1 (going_of x x.program.now x.places.now refl refl c.requires.going) c.requires.safe

pub put_frame_strand-requires-clause-counted : goal.put_frame_strand-requires-clause-counted
put_frame_strand-requires-clause-counted c =
    let x = c.args.strand.now in
    put_room x.program.now x.places.now c.args.run.now c.requires.fits.0 c.args.slot x c.requires.fits.1 (going_of x x.program.now x.places.now refl refl c.requires.going) c.requires.safe
