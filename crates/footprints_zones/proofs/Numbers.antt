-- Zones that are compared by numbers.
use Rattle.std.proofs.Common.{rules, ◌≡◌, ◌∙◌, ◌<◌, ◌≤◌, ℕ, ◌+◌, Bool, true, false, refl, sym, ap, List, [], ◌∷◌, ◌++◌, length, get_or, take, map}
use Rattle.std.proofs.lemmas.List.{map-append, take_more, take_all}
use Rattle.std.specs.Prelude.{not, ◌||◌, All}
use Rattle.std.proofs.lemmas.List.Elements.{All-append}
use Rattle.std.specs.List.{list_any}
use Rattle.std.proofs.lemmas.List.Folds.{list_any_at, list_any_more}
use Rattle.linear.specs.declared.form.Fact.{Fact}
use Rattle.program.specs.declared.annotation.Pending.{Pending}
use Rattle.program.specs.declared.annotation.Zone.{Zone}
use Rattle.footprints_zones.specs.declared.measured.MeasuredZone.{MeasuredZone}
use Rattle.footprints_zones.specs.Zones.{Span, as_written, mode_covers, modes_agree, shows_order, is_empty}
use Rattle.program.specs.ObjectNames.{same_object}
use Rattle.footprints_zones.specs.Zones.{covers, is_covered}
use Rattle.footprints_zones.specs.Meets.{meets}
use Rattle.footprints_zones.specs.Places.{Place, is_clear}
use Rattle.footprints_zones.specs.Ends.{IsMeasured, zones_of}
use Rattle.footprints_zones.proofs.Clears as clears

-- ---- two zones

pub covers_around : (facts : List Fact) (z y : Span) → same_object z.object y.object ≡ true → mode_covers z.zone.mode y.zone.mode ≡ true →
    shows_order facts y.moves y.zone.low z.moves z.zone.low ≡ true → shows_order facts z.moves z.zone.high y.moves y.zone.high ≡ true → covers facts z y ≡ true
unfolding covers
covers_around facts z y same mode low high = rw (same, mode, low, high) refl

by_cases : (agree differ empty order : Bool) → order ≡ true → not (agree || (differ || (empty || order))) ≡ false
by_cases true differ empty order is = refl
by_cases false true empty order is = refl
by_cases false false true order is = refl
by_cases false false false order is = rw is refl

pub meets_not_apart : (facts : List Fact) (z y : Span) → (shows_order facts z.moves z.zone.low y.moves y.zone.high || shows_order facts y.moves y.zone.low z.moves z.zone.high) ≡ true → meets facts z y ≡ false
unfolding meets
meets_not_apart facts z y apart =
    by_cases (modes_agree z.zone.mode y.zone.mode) (not (same_object z.object y.object)) (is_empty facts z)
    (shows_order facts z.moves z.zone.low y.moves y.zone.high || shows_order facts y.moves y.zone.low z.moves z.zone.high) apart

-- ---- one of many

pub one_covers : (facts : List Fact) (y : Span) (zones : List MeasuredZone) (k : ℕ) (d : MeasuredZone) → k < length zones → covers facts (as_written (get_or zones k d).zone.now) y ≡ true →
    list_any (λ (m : MeasuredZone). covers facts (as_written m.zone.now) y) zones ≡ true
one_covers facts y zones k d within is = list_any_at (λ (m : MeasuredZone). covers facts (as_written m.zone.now) y) zones k d within is

any_map : {X Y : Type 0} (p : Y → Bool) (h : X → Y) (xs : List X) → list_any p (map h xs) ≡ list_any (λ x. p (h x)) xs
any_map p h [] = refl
any_map p h (x ∷ xs) = ap (λ b. p (h x) || b) (any_map p h xs)

-- of zones that are measured, and of the same zones
any_measured : (p : Zone → Bool) (measured : List MeasuredZone) (zones : List Zone) → zones_of measured ≡ zones → list_any p zones ≡ list_any (λ (m : MeasuredZone). p m.zone.now) measured
any_measured p measured zones same = ap (list_any p) (sym same) ∙ any_map p (λ (m : MeasuredZone). m.zone.now) measured

pub allowed_if_covered : (p : Place) (y : Span) (measured : List MeasuredZone) → zones_of measured ≡ p.covering → list_any (λ (m : MeasuredZone). covers p.facts (as_written m.zone.now) y) measured ≡ true → is_covered p.facts p.covering y ≡ true
unfolding is_covered
allowed_if_covered p y measured same covered = rw (any_measured (λ (z : Zone). covers p.facts (as_written z) y) measured p.covering same, covered) (or_true (is_empty p.facts y))
  where
    or_true : (b : Bool) → (b || true) ≡ true
    or_true true = refl
    or_true false = refl

pub clear_unless_met : (p : Place) (y : Span) (measured : List MeasuredZone) → zones_of measured ≡ map (λ (q : Pending). q.zone) p.pending →
    is_clear p y ≡ (not (list_any (λ (m : MeasuredZone). meets p.facts (as_written m.zone.now) y) measured) || is_empty p.facts y)
clear_unless_met p y measured same =
    clears.clear_unless_met p y
    ∙ ap (λ b. not b || is_empty p.facts y) (sym (any_map (λ (z : Zone). meets p.facts (as_written z) y) (λ (q : Pending). q.zone) p.pending) ∙ any_measured (λ (z : Zone). meets p.facts (as_written z) y) measured (map (λ (q : Pending). q.zone) p.pending) same)

-- one more zone is measured
pub zones_more : (measured : List MeasuredZone) (m : MeasuredZone) (zones : List Zone) (k : ℕ) (d : Zone) → k < length zones → zones_of measured ≡ take k zones → m.zone.now ≡ get_or zones k d → zones_of (measured ++ m ∷ []) ≡ take (k + 1) zones
zones_more measured m zones k d within before own =
    map-append (λ (x : MeasuredZone). x.zone.now) measured (m ∷ [])
    ∙ ap (λ (zs : List Zone). zs ++ m.zone.now ∷ []) before
    ∙ ap (λ (z : Zone). take k zones ++ z ∷ []) own
    ∙ sym (take_more zones k d within)

-- one more pending zone is measured
pub pending_more : (measured : List MeasuredZone) (m : MeasuredZone) (pending : List Pending) (k : ℕ) (d : Pending) → k < length pending → zones_of measured ≡ map (λ (q : Pending). q.zone) (take k pending) → m.zone.now ≡ (get_or pending k d).zone → zones_of (measured ++ m ∷ []) ≡ map (λ (q : Pending). q.zone) (take (k + 1) pending)
pending_more measured m pending k d within before own =
    map-append (λ (x : MeasuredZone). x.zone.now) measured (m ∷ [])
    ∙ ap (λ (zs : List Zone). zs ++ m.zone.now ∷ []) before
    ∙ ap (λ (z : Zone). map (λ (q : Pending). q.zone) (take k pending) ++ z ∷ []) own
    ∙ sym (map-append (λ (q : Pending). q.zone) (take k pending) (get_or pending k d ∷ []))
    ∙ ap (map (λ (q : Pending). q.zone)) (sym (take_more pending k d within))

pub measured_more : (facts : List Fact) (measured : List MeasuredZone) (m : MeasuredZone) → All (IsMeasured facts) measured → IsMeasured facts m → All (IsMeasured facts) (measured ++ m ∷ [])
measured_more facts measured m before own = All-append (IsMeasured facts) measured (m ∷ []) before (All-one m own)
  where
    All-one : (m : MeasuredZone) → IsMeasured facts m → All (IsMeasured facts) (m ∷ [])
    All-one m own = search (rules, own)

-- ---- one element after another

pub none_next : {X : Type 0} (p : X → Bool) (xs : List X) (i : ℕ) (x : X) (b : Bool) → i < length xs → x ≡ get_or xs i x → b ≡ p x → b ≡ false → list_any p (take i xs) ≡ false → list_any p (take (i + 1) xs) ≡ false
none_next p xs i x b within is is_b apart before = list_any_more p xs i x within ∙ rw before (ap p (sym is) ∙ sym is_b ∙ apart)

pub one_found : {X : Type 0} (p : X → Bool) (xs : List X) (i : ℕ) (x : X) (b : Bool) → i < length xs → x ≡ get_or xs i x → b ≡ p x → b ≡ true → true ≡ list_any p xs
one_found p xs i x b within is is_b met = sym (list_any_at p xs i x within (ap p (sym is) ∙ sym is_b ∙ met))

pub none_found : {X : Type 0} (p : X → Bool) (xs : List X) (i : ℕ) → length xs ≤ i → list_any p (take i xs) ≡ false → false ≡ list_any p xs
none_found p xs i past before = sym before ∙ ap (list_any p) (take_all i xs past)
