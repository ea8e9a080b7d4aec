use Rattle.types.specs.names.Note as spec
use Rattle.types.proofs.names.Giving.{more_step}
use Rattle.types.proofs.names.note.resolve_zones.Goals as goal

pub loop-zone-preserved : goal.loop-zone-preserved
loop-zone-preserved c = λ x given.
    more_step (λ _. spec.zone_of c.args.items.now c.args.scope.now c.args.place) x c.args.zones.now c.loop-zone.zone-index c.zone-item.result
    c.joined-resolved.result c.loop-zone.resolved c.resolve_zone.result
    c.loop-zone-test.true c.zone-item.is c.joined-resolved.ensures (c.loop-zone.invariant x given) c.resolve_zone.ensures
