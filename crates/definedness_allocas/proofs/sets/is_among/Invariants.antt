use Rattle.std.proofs.Common.{◌≡◌, false, take}
use Rattle.definedness_allocas.specs.Sets.{has}
use Rattle.definedness_allocas.proofs.sets.is_among.Given as goal

abbrev pub invariant-loop-its : goal.invariant-loop-its
invariant-loop-its l = has (take l.its-index l.regions) l.region ≡ false
