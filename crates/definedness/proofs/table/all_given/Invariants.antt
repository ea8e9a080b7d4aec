use Rattle.std.proofs.Common.{◌≡◌, take, map}
use Rattle.definedness.specs.Needs.{given_of}
use Rattle.definedness.proofs.table.all_given.Given as goal

abbrev pub invariant-loop-block : goal.invariant-loop-block
invariant-loop-block l = l.all.items ≡ map given_of (take l.block-index l.table)
