use Rattle.std.proofs.Common.{◌≡◌}
use Rattle.program.specs.declared.annotation.Pending.{Pending}
use Rattle.refusal.specs.declared.broken.Broken.{Broken}
use Rattle.region_match.specs.ByLabel.{IsForeignBy}
use Rattle.refusal.proofs.Elements.{earliest_next, earliest_all}
use Rattle.region_match.proofs.matching.pending_fault.Goals as goal

pub loop-item-preserved : goal.loop-item-preserved
loop-item-preserved c =
    earliest_next (λ (p : Pending) (b : Broken). (b.number ≡ 303) × (b.line ≡ p.zone.line) × IsForeignBy c.args.bodies.now c.args.tasks.now c.args.task p.region) c.args.pending.now _ c.item-item.result _ _ _ c.loop-item-test.true c.item-item.is c.loop-item.invariant c.use_fault-broken.ensures c.lower-named.ensures

pub returns : goal.returns
returns c =
    earliest_all (λ (p : Pending) (b : Broken). (b.number ≡ 303) × (b.line ≡ p.zone.line) × IsForeignBy c.args.bodies.now c.args.tasks.now c.args.task p.region) c.args.pending.now _ _ c.loop-item-test.false c.loop-item.invariant
