use Rattle.std.proofs.Common.{◌≡◌, IsTrue}
use Rattle.program.specs.declared.instruction.Phi.{Phi}
use Rattle.refusal.specs.declared.broken.Broken.{Broken}
use Rattle.refusal.proofs.Elements.{earliest_next, earliest_all}
use Rattle.region_match.proofs.places.phi_fault.Goals as goal

pub loop-phi-preserved : goal.loop-phi-preserved
loop-phi-preserved c = earliest_next (λ (phi : Phi) (b : Broken). (IsTrue c.args.is_wrong) × (b.number ≡ 307) × (b.line ≡ phi.line)) c.args.phis.now _ c.phi-item.result _ _ _ c.loop-phi-test.true c.phi-item.is c.loop-phi.invariant c.named_at.ensures c.lower-named.ensures

pub returns : goal.returns
returns c = earliest_all (λ (phi : Phi) (b : Broken). (IsTrue c.args.is_wrong) × (b.number ≡ 307) × (b.line ≡ phi.line)) c.args.phis.now _ _ c.loop-phi-test.false c.loop-phi.invariant
