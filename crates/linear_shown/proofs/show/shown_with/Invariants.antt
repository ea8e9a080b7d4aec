use Rattle.std.proofs.Common.{take}
use Rattle.std.specs.List.{All}
use Rattle.linear_shown.specs.Search.{factors, IsFoundByA, side_at}
use Rattle.linear_shown.proofs.show.shown_with.Given as goal

abbrev pub invariant-loop-index : goal.invariant-loop-index
invariant-loop-index l = All (λ a. IsFoundByA l.facts l.form (side_at l.facts l.first) a → ⊥) (take l.index (factors l.form.terms))
