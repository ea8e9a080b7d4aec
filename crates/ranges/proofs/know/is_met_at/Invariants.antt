use Rattle.std.proofs.Common.{◌≡◌, false, take}
use Rattle.std.specs.List.{list_any}
use Rattle.ranges.specs.Sums.{shows}
use Rattle.ranges.proofs.know.is_met_at.Given as goal

abbrev pub invariant-loop-sum : goal.invariant-loop-sum
invariant-loop-sum l = list_any (shows l.known) (take l.sum-index l.choices) ≡ false
