-- A callee's zones, one after another.
use Rattle.std.proofs.Common.{◌≡◌, ◌∙◌, sym, ap, ℕ, ◌<◌, ◌+◌, List, length, take, get_or}
use Rattle.std.specs.List.{list_all}
use Rattle.std.proofs.lemmas.List.Folds.{list_all_more}
use Rattle.program.specs.declared.annotation.Zone.{Zone}
use Rattle.program.specs.declared.instruction.Argument.{Argument}
use Rattle.footprints_feet.specs.footprints_zones.declared.place.Use.{Use}
use Rattle.footprints_feet.specs.Used.{joined_use}
use Rattle.footprints.specs.Footprints.{Place, is_put_allowed, is_put_clear, put_in}
use Rattle.footprints.specs.Touched.{put_use}

-- what a call touches in these zones of its callee
abbrev pub zones_use : Place → List Argument → List Zone → Use
zones_use p arguments zones = record {
  number = 604;
  covered = list_all (λ (z : Zone). is_put_allowed p (put_in arguments z)) zones;
  clear = list_all (λ (z : Zone). is_put_clear p (put_in arguments z)) zones;
}

pub zones_use_more : (p : Place) (arguments : List Argument) (zones : List Zone) (i : ℕ) (d : Zone) → i < length zones
    → zones_use p arguments (take (i + 1) zones) ≡ joined_use (zones_use p arguments (take i zones)) (put_use p (put_in arguments (get_or zones i d)))
zones_use_more p arguments zones i d l =
    rw (
      list_all_more (λ (z : Zone). is_put_allowed p (put_in arguments z)) zones i d l,
      list_all_more (λ (z : Zone). is_put_clear p (put_in arguments z)) zones i d l,
    )

-- what the loop has after one more zone
pub zones_use_next : (p : Place) (arguments : List Argument) (zones : List Zone) (i : ℕ) (z : Zone) (all one new : Use) → i < length zones → z ≡ get_or zones i z → all ≡ zones_use p arguments (take i zones) → one ≡ put_use p (put_in arguments z) → new ≡ joined_use all one →
    new ≡ zones_use p arguments (take (i + 1) zones)
zones_use_next p arguments zones i z all one new within is is_all is_one is_new =
    is_new
    ∙ ap (λ (u : Use). joined_use u one) is_all
    ∙ ap (joined_use (zones_use p arguments (take i zones))) (is_one ∙ ap (λ (y : Zone). put_use p (put_in arguments y)) is)
    ∙ sym (zones_use_more p arguments zones i z within)
