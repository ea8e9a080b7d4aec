use Rattle.std.proofs.Common.{w64}
use Rattle.std.proofs.lemmas.Int.{to_z-of_z}
use Rattle.linear.proofs.Making.{product_fits}
use Rattle.linear.proofs.make.product.Goals as goal

pub returns : goal.returns
returns c =
    rw (to_z-of_z w64 c.args.factor c.ranges.factor, to_z-of_z w64 c.args.coefficient c.ranges.coefficient)
    (to_z-of_z w64 _ (product_fits c.args.factor c.args.coefficient c.requires.factor c.requires.coefficient))
