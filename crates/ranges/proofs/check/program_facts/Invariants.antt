use Rattle.std.proofs.Common.{take}
use Rattle.std.specs.List.{Any}
use Rattle.program.specs.declared.function.Function.{Function}
use Rattle.refusal.specs.Earliest.{IsEarliest}
use Rattle.ranges.specs.Tables.{IsFunctionTable}
use Rattle.ranges.specs.Rules.{IsFunctionBroken}
use Rattle.ranges.proofs.Tabling.{Tabled}
use Rattle.ranges.proofs.check.program_facts.Given as goal

abbrev pub invariant-loop-function : goal.invariant-loop-function
invariant-loop-function l =
    Tabled (λ i (f : Function). IsFunctionTable l.program.functions f) l.functions l.function-index l.tables.items
    × IsEarliest (λ b. Any (λ f. IsFunctionBroken l.program f b) (take l.function-index l.functions)) l.named
