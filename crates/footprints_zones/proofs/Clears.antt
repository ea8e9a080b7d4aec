-- What is pending is clear of a zone that meets none of it, or is empty.
use Rattle.std.proofs.Common.{◌≡◌, ◌∙◌, Bool, true, false, refl, ap, List, [], ◌∷◌}
use Rattle.std.specs.Prelude.{not, ◌&&◌, ◌||◌}
use Rattle.std.specs.List.{list_any, list_all}
use Rattle.linear.specs.declared.form.Fact.{Fact}
use Rattle.program.specs.declared.annotation.Pending.{Pending}
use Rattle.footprints_zones.specs.Zones.{Span, as_written, modes_agree, is_empty, shows_order, is_apart}
use Rattle.program.specs.ObjectNames.{same_object}
use Rattle.footprints_zones.specs.Zones.{conflict}
use Rattle.footprints_zones.specs.Meets.{meets}
use Rattle.footprints_zones.specs.Places.{Place, is_clear}

-- modes agree, objects differ, the first is empty, the second is, the ends are in order
by_cases : (agree differ first second order : Bool) → not (agree || (differ || (first || (second || order)))) ≡ (not (agree || (differ || (first || order))) && not second)
by_cases true differ first second order = refl
by_cases false true first second order = refl
by_cases false false true second order = refl
by_cases false false false true true = refl
by_cases false false false true false = refl
by_cases false false false false true = refl
by_cases false false false false false = refl

one_by_one : (met second all : Bool) → (not (met && not second) && (not all || second)) ≡ (not (met || all) || second)
one_by_one true true true = refl
one_by_one true true false = refl
one_by_one true false all = refl
one_by_one false true true = refl
one_by_one false true false = refl
one_by_one false false true = refl
one_by_one false false false = refl

conflict_is : (facts : List Fact) (z y : Span) → conflict facts z y ≡ (meets facts z y && not (is_empty facts y))
unfolding conflict is_apart meets
conflict_is facts z y =
    by_cases (modes_agree z.zone.mode y.zone.mode) (not (same_object z.object y.object)) (is_empty facts z) (is_empty facts y)
    (shows_order facts z.moves z.zone.low y.moves y.zone.high || shows_order facts y.moves y.zone.low z.moves z.zone.high)

clear_of : (facts : List Fact) (y : Span) (pending : List Pending) → list_all (λ (q : Pending). not (conflict facts (as_written q.zone) y)) pending
    ≡ (not (list_any (λ (q : Pending). meets facts (as_written q.zone) y) pending) || is_empty facts y)
clear_of facts y [] = refl
clear_of facts y (q ∷ pending) =
    ap (λ (b : Bool). not b && list_all (λ (q : Pending). not (conflict facts (as_written q.zone) y)) pending) (conflict_is facts (as_written q.zone) y)
    ∙ ap (λ (b : Bool). not (meets facts (as_written q.zone) y && not (is_empty facts y)) && b) (clear_of facts y pending)
    ∙ one_by_one (meets facts (as_written q.zone) y) (is_empty facts y) (list_any (λ (q : Pending). meets facts (as_written q.zone) y) pending)

pub clear_unless_met : (p : Place) (y : Span) → is_clear p y ≡ (not (list_any (λ (q : Pending). meets p.facts (as_written q.zone) y) p.pending) || is_empty p.facts y)
unfolding is_clear
clear_unless_met p y = clear_of p.facts y p.pending
