use Rattle.std.proofs.Common.{rules}
use Rattle.std.proofs.lemmas.List.{nil_from_length}
use Rattle.footprints_zones.proofs.Levels.{constant_shown, constant_unshown}
use Rattle.footprints_zones.proofs.order.shows_constant.Goals as goal

pub returns-then-number-ge0 : goal.returns-then-number-ge0
returns-then-number-ge0 c = search (rules, constant_shown)

pub returns-then-is_empty : goal.returns-then-is_empty
returns-then-is_empty c = search (rules, constant_unshown, nil_from_length)
