use Rattle.std.proofs.Common.{◌^◌, ◌-◌, pos, refl, arith}
use Rattle.std.specs.Int.{w64}
use Rattle.linear_shown.proofs.Products.{AreFactors, product_fits, product_is, product_small}
use Rattle.linear_shown.proofs.show.scaled.Goals as goal

factors : (c : goal.After-from) → AreFactors w64 c.from.result c.args.coefficient (pos c.args.factor) c.args.coefficient (2 ^ 24) (2 ^ 24 - 1)
factors c = record {
  fits_r = record { sfits = c.from.type_inv };
  fits_s = c.ranges.coefficient;
  is_f = c.from.ensures;
  is_k = refl;
  bound_f = c.requires.factor;
  bound_k = omega arith;
  fits = omega arith;
}

pub overflow_mul-result : goal.overflow_mul-result
overflow_mul-result c = product_fits w64 c.from.result c.args.coefficient (pos c.args.factor) c.args.coefficient (2 ^ 24) (2 ^ 24 - 1) (factors c)

pub returns-clause-value : goal.returns-clause-value
returns-clause-value c = product_is w64 c.from.result c.args.coefficient (pos c.args.factor) c.args.coefficient (2 ^ 24) (2 ^ 24 - 1) (factors c)

pub returns-clause-small : goal.returns-clause-small
returns-clause-small c = product_small w64 c.from.result c.args.coefficient (pos c.args.factor) c.args.coefficient (2 ^ 24) (2 ^ 24 - 1) (2 ^ 48) (factors c) (omega arith)
