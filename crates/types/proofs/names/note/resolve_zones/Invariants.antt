use Rattle.std.proofs.Common.{List, Result, take}
use Rattle.program.specs.declared.annotation.Zone.{Zone}
use Rattle.refusal.specs.declared.broken.Broken.{Broken as TypeFault}
use Rattle.types.specs.names.Told.{Gives}
use Rattle.types.specs.names.Note as spec
use Rattle.types.proofs.names.note.resolve_zones.Given as goal

abbrev pub invariant-loop-zone : goal.invariant-loop-zone
invariant-loop-zone l = (x : Result (List Zone) TypeFault) → Gives l.fn.before x → Gives l.resolved (spec.more_zones l.items l.scope l.place x (take l.zone-index l.zones))
