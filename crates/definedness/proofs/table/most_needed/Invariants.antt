use Rattle.std.proofs.Common.{◌≤◌, suc, take}
use Rattle.std.specs.List.{All}
use Rattle.definedness.specs.Marks.{IsNeedBelow}
use Rattle.definedness.proofs.table.most_needed.Given as goal

abbrev pub invariant-loop-act : goal.invariant-loop-act
invariant-loop-act l = record { least : l.least ≤ l.greatest; below : All (IsNeedBelow (suc l.greatest)) (take l.act-index l.acts) }
