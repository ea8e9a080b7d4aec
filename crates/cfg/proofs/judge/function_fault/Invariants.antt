use Rattle.refusal.specs.Earliest.{IsJudged}
use Rattle.cfg.proofs.Functions.{AreBlocksRight, AreBlocksBroken}
use Rattle.cfg.proofs.judge.function_fault.Given as goal

abbrev pub invariant-loop-index : goal.invariant-loop-index
invariant-loop-index l = IsJudged (AreBlocksRight l.bodies l.blocks l.index) (AreBlocksBroken l.bodies l.blocks l.index) l.named
