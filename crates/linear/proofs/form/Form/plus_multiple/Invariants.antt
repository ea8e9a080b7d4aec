use Rattle.std.proofs.Common.{take}
use Rattle.linear.proofs.Making.{Multiplied}
use Rattle.linear.proofs.form.Form.plus_multiple.Given as goal

abbrev pub invariant-loop-term : goal.invariant-loop-term
invariant-loop-term l = Multiplied l.fn.self l.sum l.fn.factor (take l.term-index l.term-items)
