use Rattle.std.proofs.Common.{take}
use Rattle.std.specs.List.{All}
use Rattle.linear_shown.specs.Search.{IsFoundByB, newest, side_at}
use Rattle.linear_shown.proofs.show.shown_by_a.Given as goal

abbrev pub invariant-loop-second : goal.invariant-loop-second
invariant-loop-second l = All (λ g. IsFoundByB l.form l.a (side_at l.facts l.first) g → ⊥) (take l.second (newest l.facts))
