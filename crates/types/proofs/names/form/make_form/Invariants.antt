use Rattle.std.proofs.Common.{◌≡◌, drop}
use Rattle.types.specs.names.Form as spec
use Rattle.types.proofs.names.form.make_form.Given as goal

abbrev pub invariant-loop-term : goal.invariant-loop-term
invariant-loop-term l = spec.with_all l.line l.form (drop l.term-index l.terms) ≡ spec.ordered_form l.line l.terms l.fn.constant
