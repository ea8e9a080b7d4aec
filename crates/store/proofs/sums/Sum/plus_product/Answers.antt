use Rattle.std.proofs.Common.{◌≡◌, ◌∙◌, ◌+ℤ◌, ◌*ℤ◌, ap, arith}
use Rattle.std.specs.Int.{w64}
use Rattle.std.proofs.lemmas.Int.{ints, to_z-of_z}
use Rattle.store.specs.Sums.{number_of}
use Rattle.store.proofs.sums.Sum.plus_product.Goals as goal

pub returns-clause-value : goal.returns-clause-value
returns-clause-value c =
    let more : number_of c.carried.result ≡ number_of c.args.self +ℤ c.product.result = omega (arith, ints) in
    let is : c.product.result ≡ c.args.left *ℤ c.args.right = rw (to_z-of_z w64 c.args.left c.ranges.left, to_z-of_z w64 c.args.right c.ranges.right) at c.product.ensures.value in
    more ∙ ap (λ x. number_of c.args.self +ℤ x) is
