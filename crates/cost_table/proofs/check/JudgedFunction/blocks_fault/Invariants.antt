use Rattle.refusal.specs.Earliest.{IsEarliest}
use Rattle.refusal.proofs.Places.{Below}
use Rattle.cost_table.specs.Rules.{IsBlockBroken}
use Rattle.cost_table.proofs.check.JudgedFunction.blocks_fault.Given as goal

abbrev pub invariant-loop-place : goal.invariant-loop-place
invariant-loop-place l = IsEarliest (Below (λ b block. IsBlockBroken l.self.functions.now l.self.function.now l.self.index b block) l.blocks l.place) l.named
