use Rattle.std.proofs.Common.{take}
use Rattle.std.specs.List.{Any}
use Rattle.refusal.specs.Earliest.{IsEarliest}
use Rattle.definedness.specs.Definedness.{IsFunctionBroken}
use Rattle.definedness.proofs.check.all_faults.Given as goal

abbrev pub invariant-loop-index : goal.invariant-loop-index
invariant-loop-index l = IsEarliest (λ b. Any (λ f. IsFunctionBroken f b) (take l.index l.functions)) l.named
