-- Whether zones conflict where one is known not to be empty.
use Rattle.std.specs.Prelude.{Bool, not, ◌||◌, List}
use Rattle.linear.specs.declared.form.Fact.{Fact}
use Rattle.footprints_zones.specs.Zones.{Span, modes_agree, shows_order, is_empty}
use Rattle.program.specs.ObjectNames.{same_object}

-- they may, where the second has any cell, and the order of its uses may matter
unfoldable pub meets : List Fact → Span → Span → Bool
meets facts z y = not (modes_agree z.zone.mode y.zone.mode ||
    (not (same_object z.object y.object) || (is_empty facts z || (shows_order facts z.moves z.zone.low y.moves
    y.zone.high || shows_order facts y.moves y.zone.low z.moves z.zone.high))))
