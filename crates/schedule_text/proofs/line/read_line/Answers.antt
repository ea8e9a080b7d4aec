use Rattle.std.proofs.Common.{ap, refl}
use Rattle.schedule_text.specs.declared.line.Line.TheVariants.{Steps, Steals}
use Rattle.schedule_text.proofs.line.read_line.Goals as goal

pub returns-in-Some-clause-some : goal.returns-in-Some-clause-some
returns-in-Some-clause-some c = let s = c.in-Some.ensures.some in (Steps c.in-Some.worker s.0, s.1, ap (Steps c.in-Some.worker) s.2)

pub returns-in-Some-steal-clause-some : goal.returns-in-Some-steal-clause-some
returns-in-Some-steal-clause-some c = let s = rw c.in-Some-steal.is at c.in_ok-steal-in-None.ensures.some in (Steals c.in-Some-steal.worker c.in-Some-steal.task, s, refl)
