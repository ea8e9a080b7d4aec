use Rattle.std.proofs.Common.{arith}
use Rattle.strand_pages.proofs.Scanning.{found_first, found_set, found_within, none_left}
use Rattle.strand_pages.proofs.bits.next.Goals as goal

pub returns-then-rest-eq0-clause-none : goal.returns-then-rest-eq0-clause-none
returns-then-rest-eq0-clause-none c k le lt = none_left c.args.mask c.args.from c.if-rest-eq0.true k le

pub returns-clause-within : goal.returns-clause-within
returns-clause-within c = let rest = c.if-rest-eq0.false in found_within c.args.mask c.args.from c.ranges.mask.fits (omega (arith, rest))

pub returns-clause-set : goal.returns-clause-set
returns-clause-set c = let rest = c.if-rest-eq0.false in found_set c.args.mask c.args.from c.ranges.mask.fits (omega (arith, rest))

pub returns-clause-passed : goal.returns-clause-passed
returns-clause-passed c = let rest = c.if-rest-eq0.false in found_first c.args.mask c.args.from c.ranges.mask.fits (omega (arith, rest))
