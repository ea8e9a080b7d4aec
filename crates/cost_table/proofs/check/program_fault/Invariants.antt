use Rattle.program.specs.declared.function.Function.{Function}
use Rattle.refusal.specs.Earliest.{IsEarliest}
use Rattle.refusal.proofs.Places.{Below}
use Rattle.cost_table.specs.Rules.{IsFunctionBroken}
use Rattle.cost_table.proofs.check.program_fault.Given as goal

abbrev pub invariant-loop-index : goal.invariant-loop-index
invariant-loop-index l = IsEarliest (Below (λ f (function : Function). IsFunctionBroken l.program.functions f function) l.functions l.index) l.named
