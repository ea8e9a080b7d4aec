-- The foot of a new child: whether each of its zones is covered, and clear of what is pending.
use Rattle.std.specs.Prelude.{true, List}
use Rattle.std.specs.List.{list_all}
use Rattle.program.specs.declared.annotation.Zone.{Zone}
use Rattle.footprints_zones.specs.declared.place.Use.{Use}
use Rattle.footprints_zones.specs.Zones.{as_written}
use Rattle.footprints_zones.specs.Places.{Place, is_allowed, is_clear}

-- 604: of what touches no cell
abbrev pub no_use : Use
no_use = record { number = 604; covered = true; clear = true }

-- 604: what a new child's foot touches
abbrev pub foot_use : Place → List Zone → Use
foot_use p foot = record {
  number = 604;
  covered = list_all (λ (z : Zone). is_allowed p (as_written z)) foot;
  clear = list_all (λ (z : Zone). is_clear p (as_written z)) foot;
}
