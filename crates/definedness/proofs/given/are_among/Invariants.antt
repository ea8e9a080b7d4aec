use Rattle.std.proofs.Common.{◌≡◌, true, take}
use Rattle.std.specs.List.{list_all}
use Rattle.definedness_allocas.specs.Sets.{has}
use Rattle.definedness.proofs.given.are_among.Given as goal

abbrev pub invariant-loop-place : goal.invariant-loop-place
invariant-loop-place l = list_all (has l.right) (take l.place l.left) ≡ true
