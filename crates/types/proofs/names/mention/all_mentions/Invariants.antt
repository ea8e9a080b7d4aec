use Rattle.std.proofs.Common.{◌≡◌, map, take}
use Rattle.types.specs.names.Mention as spec
use Rattle.types.proofs.names.mention.all_mentions.Given as goal

abbrev pub invariant-loop-function : goal.invariant-loop-function
invariant-loop-function l = l.found ≡ map (spec.mentions_of l.items) (take l.function-index l.functions)
