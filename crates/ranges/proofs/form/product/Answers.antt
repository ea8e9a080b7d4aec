use Rattle.std.proofs.Common.{◌<◌, ◌^◌, unsigned_abs}
use Rattle.std.proofs.lemmas.Bool.{ltb-true}
use Rattle.ranges.proofs.Products.{product_fits, product_read, read_small}
use Rattle.ranges.proofs.form.product.Goals as goal

pub overflow_mul-result : goal.overflow_mul-result
overflow_mul-result c =
    let small : unsigned_abs c.args.factor < 2 ^ 24 = ltb-true _ _ c.requires in
    product_fits c.from.result c.from-2.result c.args.factor c.args.number small c.ranges.factor c.ranges.number c.from.ensures c.from-2.ensures

pub returns-clause-value : goal.returns-clause-value
returns-clause-value c =
    let small : unsigned_abs c.args.factor < 2 ^ 24 = ltb-true _ _ c.requires in
    product_read c.from.result c.from-2.result c.args.factor c.args.number small c.ranges.factor c.ranges.number c.from.ensures c.from-2.ensures

pub returns-clause-small : goal.returns-clause-small
returns-clause-small c =
    let small : unsigned_abs c.args.factor < 2 ^ 24 = ltb-true _ _ c.requires in
    read_small c.from.result c.from-2.result c.args.factor c.args.number small c.ranges.factor c.ranges.number c.from.ensures c.from-2.ensures
