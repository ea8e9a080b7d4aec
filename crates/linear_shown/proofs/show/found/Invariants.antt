use Rattle.std.proofs.Common.{take}
use Rattle.std.specs.List.{All}
use Rattle.linear_shown.specs.Search.{IsFoundFrom, newest}
use Rattle.linear_shown.proofs.show.found.Given as goal

abbrev pub invariant-loop-first : goal.invariant-loop-first
invariant-loop-first l = All (λ f. IsFoundFrom l.facts l.form l.lead f → ⊥) (take l.first (newest l.facts))
