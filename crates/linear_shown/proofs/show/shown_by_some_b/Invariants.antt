use Rattle.std.proofs.Common.{take}
use Rattle.std.specs.List.{All}
use Rattle.linear_shown.specs.Shown.{IsSum}
use Rattle.linear_shown.specs.Search.{factors, side_at}
use Rattle.linear_shown.proofs.show.shown_by_some_b.Given as goal

abbrev pub invariant-loop-index : goal.invariant-loop-index
invariant-loop-index l = All (λ b. IsSum l.form l.a (side_at l.facts l.first) b (side_at l.facts l.second) → ⊥) (take l.index (factors l.form.terms))
