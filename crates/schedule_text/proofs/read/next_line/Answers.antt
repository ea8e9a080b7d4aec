use Rattle.std.proofs.Common.{subst, List, ℕ}
use Rattle.schedule_text.specs.ScheduleText.{IsSpelled}
use Rattle.schedule_text.proofs.Spelled.{same_line, not_next, refused}
use Rattle.schedule_text.proofs.read.next_line.Goals as goal

pub returns-in-None-2-clause-none : goal.returns-in-None-2-clause-none
returns-in-None-2-clause-none c = λ l line after e is d.
    let s = same_line c.args.text.now c.in-Some.line.now c.in-Some.after.now line after l c.in-Some.ensures.cut e is in
    let none = rw c.in-None-2.is at c.in_ok-read_line-in-Some.ensures.none in
    none l (subst (λ (t : List ℕ). IsSpelled t l) s.0 is)

pub returns-clause-none : goal.returns-clause-none
returns-clause-none c = λ l line after e is d.
    let s = same_line c.args.text.now c.in-Some.line.now c.in-Some.after.now line after l c.in-Some.ensures.cut e is in
    let some = rw c.in-Some-2.is at c.in_ok-read_line-in-Some.ensures.some in
    let fits = not_next c.args.before c.in-Some.line.now c.in-Some-2.found l some.0 some.1 some.2 (subst (λ (t : List ℕ). IsSpelled t l) s.0 is) d in
    refused c.args.before c.differs.result c.stepper.result c.in-Some-2.found c.differs.ensures c.if-differs.false c.stepper.ensures fits
