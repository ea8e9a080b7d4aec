use Rattle.std.proofs.Common.{◌∙◌, ◌^◌, ◌-◌, ◌<◌, ℤ, pos, ap, arith, FitsSigned}
use Rattle.std.specs.Int.{w64, w128}
use Rattle.std.specs.Int.RustNames.{unsigned_abs}
use Rattle.std.proofs.lemmas.Int.{ints, to_z-of_z}
use Rattle.linear_shown.specs.Index.{weight}
use Rattle.linear_shown.proofs.Products.{AreFactors, product_fits, product_is, product_small}
use Rattle.linear_shown.proofs.weight.valued.Goals as goal

fits_small : (z : ℤ) → unsigned_abs z < 2 ^ 24 → FitsSigned w64 z
fits_small z small = omega (arith, ints)

factors : (c : goal.After-from) → AreFactors w128 (pos c.weight.result) c.from.result (pos (weight c.args.term.now.register.0)) c.args.term.now.coefficient (2 ^ 73) (2 ^ 24 - 1)
factors c = record {
  fits_r = record { sfits = omega (arith, c.weight.ensures.small) };
  fits_s = record { sfits = c.from.type_inv };
  is_f = ap pos c.weight.ensures.value;
  is_k = c.from.ensures ∙ to_z-of_z w64 c.args.term.now.coefficient (fits_small c.args.term.now.coefficient c.requires);
  bound_f = omega (arith, c.weight.ensures.small, c.weight.ensures.value);
  bound_k = omega (arith, c.requires);
  fits = omega arith;
}

pub overflow_mul-result : goal.overflow_mul-result
overflow_mul-result c = product_fits w128 (pos c.weight.result) c.from.result (pos (weight c.args.term.now.register.0)) c.args.term.now.coefficient (2 ^ 73) (2 ^ 24 - 1) (factors c)

pub returns-clause-value : goal.returns-clause-value
returns-clause-value c = product_is w128 (pos c.weight.result) c.from.result (pos (weight c.args.term.now.register.0)) c.args.term.now.coefficient (2 ^ 73) (2 ^ 24 - 1) (factors c)

pub returns-clause-small : goal.returns-clause-small
returns-clause-small c = product_small w128 (pos c.weight.result) c.from.result (pos (weight c.args.term.now.register.0)) c.args.term.now.coefficient (2 ^ 73) (2 ^ 24 - 1) (2 ^ 97) (factors c) (omega arith)
