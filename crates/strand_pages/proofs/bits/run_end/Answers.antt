use Rattle.std.proofs.Common.{arith}
use Rattle.strand_pages.proofs.Scanning.{run_set}
use Rattle.strand_pages.proofs.bits.run_end.Goals as goal

pub returns-in-Some-clause-set : goal.returns-in-Some-clause-set
returns-in-Some-clause-set c =
    let within = c.in-Some.ensures.within in
    run_set c.args.mask c.args.place c.in-Some.end c.ranges.mask.fits (omega (arith, within)) c.requires.begins c.in-Some.ensures.passed

pub returns-in-None-clause-set : goal.returns-in-None-clause-set
returns-in-None-clause-set c = run_set c.args.mask c.args.place 64 c.ranges.mask.fits (omega arith) c.requires.begins c.in-None.ensures.none
