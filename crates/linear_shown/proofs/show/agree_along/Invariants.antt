use Rattle.std.proofs.Common.{take}
use Rattle.std.specs.List.{All}
use Rattle.linear_shown.specs.Search.{Agrees}
use Rattle.linear_shown.proofs.show.agree_along.Given as goal

abbrev pub invariant-loop-term : goal.invariant-loop-term
invariant-loop-term l = All (λ t. Agrees l.e l.a l.f l.b l.g t.register.0) (take l.term-index l.named)
