use Rattle.std.proofs.Common.{rules}
use Rattle.std.proofs.lemmas.List.{nil_from_length}
use Rattle.footprints_zones.proofs.Orders.{number_shown, number_unshown}
use Rattle.footprints_zones.proofs.order.shows_number.Goals as goal

pub returns-then-number-ge0 : goal.returns-then-number-ge0
returns-then-number-ge0 c = search (rules, number_shown)

pub returns-then-is_empty : goal.returns-then-is_empty
returns-then-is_empty c = search (rules, number_unshown, nil_from_length)
