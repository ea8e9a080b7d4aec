use Rattle.std.proofs.Common.{take}
use Rattle.types.specs.names.Fault.{all_of}
use Rattle.types.specs.names.Told.{Gives}
use Rattle.types.specs.names.Form as spec
use Rattle.types.proofs.names.form.terms.Given as goal

abbrev pub invariant-loop-item : goal.invariant-loop-item
invariant-loop-item l = Gives l.resolved (all_of (λ _. spec.term_of l.scope l.place l.line) (take l.item-index l.items))
