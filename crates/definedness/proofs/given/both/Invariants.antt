use Rattle.std.proofs.Common.{◌≡◌, take}
use Rattle.std.specs.List.{filter}
use Rattle.definedness_allocas.specs.Sets.{has}
use Rattle.definedness.proofs.given.both.Given as goal

abbrev pub invariant-loop-place : goal.invariant-loop-place
invariant-loop-place l = l.kept.items ≡ filter (λ its. has l.right its) (take l.place l.left)
