use Rattle.std.proofs.Common.{◌≡◌, ◌++◌, take}
use Rattle.ranges_owed.specs.Inequalities.{parts_of}
use Rattle.ranges_owed.proofs.inequality.add_parts.Given as goal

abbrev pub invariant-loop-term : goal.invariant-loop-term
invariant-loop-term l = l.parts.items ≡ l.initial.parts.items ++ parts_of l.moves l.sign (take l.term-index l.terms)
