use Rattle.std.proofs.Common.{take}
use Rattle.types.specs.names.Told.{Gives}
use Rattle.types.specs.names.Form as spec
use Rattle.types.proofs.names.form.resolve_inequalities.Given as goal

abbrev pub invariant-loop-item : goal.invariant-loop-item
invariant-loop-item l = Gives l.resolved (spec.inequalities_of l.scope l.place (take l.item-index l.items))
