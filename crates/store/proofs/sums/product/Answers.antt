use Rattle.std.proofs.Common.{◌≡◌, ◌≤◌, ◌^◌, ◌*ℤ◌, unsigned_abs, to_z, of_z}
use Rattle.std.specs.Int.{w128}
use Rattle.std.proofs.lemmas.Int.{to_z-of_z}
use Rattle.store.proofs.Words.{product_small, product_fits, is_word}
use Rattle.store.proofs.sums.product.Goals as goal
use Rattle.store.proofs.sums.product.Goals.{After-from-2}

is_product : (c : After-from-2) → to_z w128 (of_z w128 c.from.result) *ℤ to_z w128 (of_z w128 c.from-2.result) ≡ c.args.left *ℤ c.args.right
is_product c = λ i. is_word c.from.result c.args.left c.ranges.left c.from.ensures i *ℤ is_word c.from-2.result c.args.right c.ranges.right c.from-2.ensures i

small : (c : After-from-2) → unsigned_abs (c.args.left *ℤ c.args.right) ≤ 2 ^ 126
small c = product_small c.args.left c.args.right c.ranges.left c.ranges.right

pub overflow_mul-result : goal.overflow_mul-result
overflow_mul-result c = rw (is_product c) (product_fits (c.args.left *ℤ c.args.right) (small c))

pub returns-clause-value : goal.returns-clause-value
returns-clause-value c = rw (is_product c) (to_z-of_z w128 (c.args.left *ℤ c.args.right) (product_fits (c.args.left *ℤ c.args.right) (small c)))

pub returns-clause-small : goal.returns-clause-small
returns-clause-small c = rw (is_product c, to_z-of_z w128 (c.args.left *ℤ c.args.right) (product_fits (c.args.left *ℤ c.args.right) (small c))) (small c)
