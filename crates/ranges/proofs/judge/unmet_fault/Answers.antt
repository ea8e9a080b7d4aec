use Rattle.std.proofs.Common.{◌≡◌, false}
use Rattle.refusal.specs.declared.broken.Broken.{Broken}
use Rattle.refusal.proofs.Elements.{earliest_next, earliest_all}
use Rattle.ranges_owed.specs.declared.sum.Obligation.{Obligation}
use Rattle.ranges.specs.Sums.{is_met}
use Rattle.ranges.proofs.judge.unmet_fault.Goals as goal

pub loop-obligation-preserved : goal.loop-obligation-preserved
loop-obligation-preserved c =
    earliest_next (λ (o : Obligation) (b : Broken). (b.number ≡ o.number) × (b.line ≡ c.args.line) × (is_met c.args.known.now o ≡ false)) c.args.obligations.now _ c.obligation-item.result _ _ _ c.loop-obligation-test.true c.obligation-item.is c.loop-obligation.invariant c.in_ok-broken.ensures c.lower-named.ensures

pub returns : goal.returns
returns c =
    earliest_all (λ (o : Obligation) (b : Broken). (b.number ≡ o.number) × (b.line ≡ c.args.line) × (is_met c.args.known.now o ≡ false)) c.args.obligations.now _ _ c.loop-obligation-test.false c.loop-obligation.invariant
