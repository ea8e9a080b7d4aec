-- Events that no schedule spells.
use Rattle.std.proofs.Common.{◌≡◌, ◌<◌, ℕ, List, length, subst, sym}
use Rattle.frame.specs.declared.event.Event.{Event}
use Rattle.schedule_text.specs.ScheduleText.{IsSchedule, most}
use Rattle.schedule_text.proofs.Faults.{many_is_none}

-- those of a list that is the same
pub none_of : (own all : List Event) (text : List ℕ) → own ≡ all → ((t : List ℕ) → IsSchedule t own → ⊥) → IsSchedule text all → ⊥
none_of own all text same none is = none text (subst (IsSchedule text) (sym same) is)

-- more than a schedule may have
pub too_many : (all : List Event) (text : List ℕ) → most < length all → IsSchedule text all → ⊥
too_many all text many is = many_is_none text all many is
