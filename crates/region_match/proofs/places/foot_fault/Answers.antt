use Rattle.std.proofs.Common.{◌≡◌, IsTrue}
use Rattle.program.specs.declared.annotation.Zone.{Zone}
use Rattle.refusal.specs.declared.broken.Broken.{Broken}
use Rattle.refusal.proofs.Elements.{earliest_next, earliest_all}
use Rattle.region_match.proofs.places.foot_fault.Goals as goal

pub loop-zone-preserved : goal.loop-zone-preserved
loop-zone-preserved c = earliest_next (λ (zone : Zone) (b : Broken). (IsTrue c.args.is_wrong) × (b.number ≡ 307) × (b.line ≡ zone.line)) c.args.foot.now _ c.zone-item.result _ _ _ c.loop-zone-test.true c.zone-item.is c.loop-zone.invariant c.named_at.ensures c.lower-named.ensures

pub returns : goal.returns
returns c = earliest_all (λ (zone : Zone) (b : Broken). (IsTrue c.args.is_wrong) × (b.number ≡ 307) × (b.line ≡ zone.line)) c.args.foot.now _ _ c.loop-zone-test.false c.loop-zone.invariant
