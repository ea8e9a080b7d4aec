use Rattle.footprints_zones.proofs.EndsMade.{product_read, product_fits, multiple_small}
use Rattle.footprints_zones.proofs.order.product.Goals as goal

pub overflow_mul-result : goal.overflow_mul-result
overflow_mul-result c = product_fits c.from.result c.from-2.result c.args.factor c.args.other c.ranges.factor c.ranges.other c.from.ensures c.from-2.ensures

pub returns-clause-value : goal.returns-clause-value
returns-clause-value c = product_read c.from.result c.from-2.result c.args.factor c.args.other c.ranges.factor c.ranges.other c.from.ensures c.from-2.ensures

pub returns-clause-small : goal.returns-clause-small
returns-clause-small c = multiple_small c.from.result c.from-2.result c.args.factor c.args.other c.requires c.ranges.factor c.ranges.other c.from.ensures c.from-2.ensures
