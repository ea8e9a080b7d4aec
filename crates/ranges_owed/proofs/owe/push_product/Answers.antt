use Rattle.std.proofs.Common.{rules, w64, FitsSigned}
use Rattle.std.specs.Int.{w128}
use Rattle.std.proofs.lemmas.Int.{to_z-of_z}
use Rattle.std.proofs.lemmas.List.{append_assoc}
use Rattle.ranges_owed.proofs.owe.push_product.Goals as goal

pub returns : goal.returns
returns c =
    let fits : FitsSigned w64 c.args.part.factor = search rules in
    let fits_opposite : FitsSigned w64 c.opposite.result = search rules in
    let fits_half : FitsSigned w128 c.half.result = search rules in
    let fits_greatest : FitsSigned w128 c.greatest.result = search rules in
    let opposite = rw (to_z-of_z w64 c.args.part.factor fits) at c.opposite.ensures in
    let above = rw (to_z-of_z w128 c.half.result fits_half, c.half.ensures, to_z-of_z w64 c.args.part.factor fits) at c.in_ok-above.ensures in
    let below = rw (to_z-of_z w128 c.greatest.result fits_greatest, c.greatest.ensures, to_z-of_z w64 c.opposite.result fits_opposite, opposite) at c.in_ok-below.ensures in
    rw (c.in_ok-push_must-2.ensures, c.in_ok-push_must.ensures, above, below) (simp append_assoc)
