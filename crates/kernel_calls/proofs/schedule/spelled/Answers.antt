use Rattle.std.proofs.Common.{◌≡◌, ◌∙◌, ap, subst, IfOk, IfSome, IfNone, Ok, List, ℕ}
use Rattle.schedule_text.specs.ScheduleText.{IsSchedule}
use Rattle.kernel_calls.proofs.Spelling.{none_of}
use Rattle.kernel_calls.proofs.schedule.spelled.Goals as goal

pub returns-in-Ok-None-spell_schedule-clause-long : goal.returns-in-Ok-None-spell_schedule-clause-long
returns-in-Ok-None-spell_schedule-clause-long c = λ long all own few text is.
    none_of c.as_slice.result.now all text
    (c.as_slice.ensures.value ∙ subst (λ e. IfOk e (λ found. IfSome found (λ own'. own'.items ≡ all))) (c.in-Ok-Some.is ∙ ap Ok c.in-Ok-Some.field-0-is) own)
    (subst (λ f. IfNone f ((t : List ℕ) → IsSchedule t c.as_slice.result.now → ⊥)) c.in-Ok-None-spell_schedule.field-0-is c.in-Ok-None-spell_schedule.ensures.none) is
