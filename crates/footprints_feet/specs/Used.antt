-- What a zone touches, and two uses as one.
use Rattle.std.specs.Prelude.{◌&&◌}
use Rattle.footprints_zones.specs.declared.place.Use.{Use}
use Rattle.footprints_zones.specs.Zones.{Span}
use Rattle.footprints_zones.specs.Places.{Place, is_allowed, is_clear}

-- 604: what is touched in one zone
abbrev pub zone_use : Place → Span → Use
zone_use p y = record { number = 604; covered = is_allowed p y; clear = is_clear p y }

-- what two parts touch, by the rule of the first
abbrev pub joined_use : Use → Use → Use
joined_use u v = record { number = u.number; covered = u.covered && v.covered; clear = u.clear && v.clear }
