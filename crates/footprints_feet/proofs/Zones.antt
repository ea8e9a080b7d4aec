-- A foot's zones, one after another.
use Rattle.std.proofs.Common.{◌≡◌, ◌∙◌, sym, ap, ℕ, ◌<◌, ◌+◌, List, length, take, get_or}
use Rattle.std.proofs.lemmas.List.Folds.{list_all_more}
use Rattle.program.specs.declared.annotation.Zone.{Zone}
use Rattle.footprints_zones.specs.Zones.{as_written}
use Rattle.footprints_zones.specs.Places.{Place, is_allowed, is_clear}
use Rattle.footprints_zones.specs.declared.place.Use.{Use}
use Rattle.footprints_feet.specs.Feet.{foot_use}
use Rattle.footprints_feet.specs.Used.{zone_use, joined_use}

pub foot_use_more : (p : Place) (foot : List Zone) (i : ℕ) (d : Zone) → i < length foot
    → foot_use p (take (i + 1) foot) ≡ joined_use (foot_use p (take i foot)) (zone_use p (as_written (get_or foot i d)))
foot_use_more p foot i d l =
    rw (list_all_more (λ (z : Zone). is_allowed p (as_written z)) foot i d l, list_all_more (λ (z : Zone). is_clear p (as_written z)) foot i d l)

-- what the loop has after one more zone
pub foot_use_next : (p : Place) (foot : List Zone) (i : ℕ) (z : Zone) (all one new : Use) → i < length foot → z ≡ get_or foot i z → all ≡ foot_use p (take i foot) → one ≡ zone_use p (as_written z) → new ≡ joined_use all one → new ≡ foot_use p (take (i + 1) foot)
foot_use_next p foot i z all one new within is is_all is_one is_new =
    is_new
    ∙ ap (λ (u : Use). joined_use u one) is_all
    ∙ ap (joined_use (foot_use p (take i foot))) (is_one ∙ ap (λ (y : Zone). zone_use p (as_written y)) is)
    ∙ sym (foot_use_more p foot i z within)
