use Rattle.std.proofs.Common.{take}
use Rattle.refusal.specs.Earliest.{IsJudged}
use Rattle.cfg.specs.Rules.{ArePhisMatched, IsPhiBroken}
use Rattle.cfg.proofs.judge.phi_fault.Given as goal

abbrev pub invariant-loop-phi : goal.invariant-loop-phi
invariant-loop-phi l = IsJudged (ArePhisMatched l.blocks l.block (take l.phi-index l.phis)) (IsPhiBroken l.blocks l.block (take l.phi-index l.phis)) l.named
