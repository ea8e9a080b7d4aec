use Rattle.std.proofs.Common.{◌^◌, ◌-◌, pos, refl, arith}
use Rattle.std.specs.Int.{w128}
use Rattle.linear_shown.proofs.Products.{AreFactors, product_fits, product_is, product_small}
use Rattle.linear_shown.proofs.show.scaled_constant.Goals as goal

factors : (c : goal.After-from) → AreFactors w128 c.from.result c.args.constant (pos c.args.factor) c.args.constant (2 ^ 24) (2 ^ 100 - 1)
factors c = record {
  fits_r = record { sfits = c.from.type_inv };
  fits_s = c.ranges.constant;
  is_f = c.from.ensures;
  is_k = refl;
  bound_f = c.requires.factor;
  bound_k = omega arith;
  fits = omega arith;
}

pub overflow_mul-result : goal.overflow_mul-result
overflow_mul-result c = product_fits w128 c.from.result c.args.constant (pos c.args.factor) c.args.constant (2 ^ 24) (2 ^ 100 - 1) (factors c)

pub returns-clause-value : goal.returns-clause-value
returns-clause-value c = product_is w128 c.from.result c.args.constant (pos c.args.factor) c.args.constant (2 ^ 24) (2 ^ 100 - 1) (factors c)

pub returns-clause-small : goal.returns-clause-small
returns-clause-small c = product_small w128 c.from.result c.args.constant (pos c.args.factor) c.args.constant (2 ^ 24) (2 ^ 100 - 1) (2 ^ 124) (factors c) (omega arith)
