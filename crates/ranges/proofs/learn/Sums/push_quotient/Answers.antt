use Rattle.std.proofs.Common.{rules, w64, FitsSigned}
use Rattle.std.specs.Int.{w128}
use Rattle.std.proofs.lemmas.Int.{to_z-of_z}
use Rattle.std.proofs.lemmas.List.{append_assoc}
use Rattle.ranges.proofs.learn.Sums.push_quotient.Goals as goal

pub returns : goal.returns
returns c =
    let fits : FitsSigned w64 c.args.divisor = search rules in
    let fits_opposite : FitsSigned w64 c.opposite.result = search rules in
    let fits_less : FitsSigned w128 c.one_less.result = search rules in
    let opposite = rw (to_z-of_z w64 c.args.divisor fits) at c.opposite.ensures in
    let less = rw (to_z-of_z w64 c.args.divisor fits) at c.one_less.ensures in
    let first = rw (to_z-of_z w64 c.opposite.result fits_opposite, opposite) at c.in_ok-push_two.ensures in
    let second = rw (to_z-of_z w128 c.one_less.result fits_less, less, to_z-of_z w64 c.args.divisor fits) at c.in_ok-push_two-2.ensures in
    rw (c.in_ok-push_one.ensures, second, first) (simp append_assoc)
