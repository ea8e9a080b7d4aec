use Rattle.std.proofs.Common.{◌++◌, take}
use Rattle.std.specs.List.{All}
use Rattle.linear_shown.specs.Search.{factors}
use Rattle.linear_shown.specs.Index.{IsMadeUpByB}
use Rattle.linear_shown.proofs.lookup.made_up.Given as goal

abbrev pub invariant-loop-index : goal.invariant-loop-index
invariant-loop-index l = All (λ a. IsMadeUpByB l.search.facts.now l.search.form.now (l.search.layers.settled.now ++ l.search.layers.recent.now) a → ⊥) (take l.index (factors l.search.form.now.terms))
