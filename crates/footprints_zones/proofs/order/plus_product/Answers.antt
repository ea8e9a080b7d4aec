use Rattle.std.proofs.Common.{rules}
use Rattle.footprints_zones.proofs.Orders.{product_added}
use Rattle.footprints_zones.proofs.order.plus_product.Goals as goal

pub returns-then-unsigned_abs-lt1267650600228229401496703205376-clause-made : goal.returns-then-unsigned_abs-lt1267650600228229401496703205376-clause-made
returns-then-unsigned_abs-lt1267650600228229401496703205376-clause-made c = search (rules, product_added)
