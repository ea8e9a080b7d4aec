use Rattle.std.proofs.Common.{◌++◌}
use Rattle.linear_shown.specs.Index.{AreNotB}
use Rattle.linear_shown.proofs.lookup.made_up_by_b.Given as goal

abbrev pub invariant-loop-index : goal.invariant-loop-index
invariant-loop-index l = AreNotB l.search.facts.now l.search.form.now (l.search.layers.settled.now ++ l.search.layers.recent.now) l.a l.index
